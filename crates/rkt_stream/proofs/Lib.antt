pub mod Chains
pub mod Flats
pub mod Flows
pub mod Joinings
