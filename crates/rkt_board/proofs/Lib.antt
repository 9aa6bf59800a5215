pub mod Core
pub mod Counting
pub mod Entries
pub mod Finished
pub mod Holding
pub mod Keeping
pub mod Pushes
pub mod Tripping
