pub mod After
pub mod Board
pub mod Causes
pub mod Closed
pub mod Events
pub mod Records
pub mod Turns
