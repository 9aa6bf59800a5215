pub mod Endings
pub mod InOrder
pub mod InvokesCatcher
pub mod Routes
pub mod Statuses
