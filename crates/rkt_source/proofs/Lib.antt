pub mod Cancels
pub mod MemoryLemmas
pub mod Sinks
pub mod Sources
