pub mod AskedLemmas
pub mod FirstValues
pub mod HeaderReads
pub mod Readings
pub mod OneFormat
