pub mod Feedings
pub mod Places
pub mod Refusals
