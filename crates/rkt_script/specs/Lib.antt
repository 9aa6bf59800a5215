pub mod Script
pub mod Stopping
pub mod Streams
pub mod Words
