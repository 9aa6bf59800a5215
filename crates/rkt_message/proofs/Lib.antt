pub mod ChunkLemmas
pub mod LineLemmas
pub mod ReadOnLemmas
pub mod Readings
pub mod SendingLemmas
