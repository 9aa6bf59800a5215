pub mod Calls
pub mod Encoding
pub mod GivesUp
pub mod Pipes
pub mod Streaming
pub mod Writing
