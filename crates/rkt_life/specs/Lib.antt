pub mod BuildError
pub mod Built
pub mod Handed
pub mod Ignition
pub mod NoFairing
pub mod Rocket
pub mod State
