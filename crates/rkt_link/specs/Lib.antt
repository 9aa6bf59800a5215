pub mod Asked
pub mod Clock
pub mod Link
pub mod Listener
pub mod Memory
