pub mod FlashJar
pub mod FlashLemmas
pub mod FlashReading
