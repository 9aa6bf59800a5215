pub mod AcceptReads
pub mod MediaParts
pub mod MediaReads
pub mod Ranks
pub mod RunLemmas
pub mod SpelledOnce
