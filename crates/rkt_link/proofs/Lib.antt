pub mod Clocks
pub mod Listening
pub mod Telling
pub mod Unused
