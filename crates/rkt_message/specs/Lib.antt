pub mod Body
pub mod Chunks
pub mod Lines
pub mod Reading
pub mod Response
pub mod Sending
pub mod Sent
pub mod Whole
