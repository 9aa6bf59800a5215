pub mod Counts
pub mod Poll
pub mod Trail
pub mod Want
