pub mod SayingLaws
pub mod Sayings
pub mod Ticking
