pub mod Chunks
pub mod CountedSources
pub mod Drains
pub mod Pulls
pub mod Sends
pub mod Streams
pub mod TextLemmas
