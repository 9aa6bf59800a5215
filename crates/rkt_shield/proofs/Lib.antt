pub mod Applied
pub mod ByName
pub mod Hosts
pub mod Joins
pub mod Names
pub mod Places
