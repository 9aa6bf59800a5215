pub mod Among
pub mod Calls
pub mod Mounted
pub mod Pairs
pub mod Strips
