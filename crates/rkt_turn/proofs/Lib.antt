pub mod Counts
pub mod TurnsKept
pub mod WireKept
