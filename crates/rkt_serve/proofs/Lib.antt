pub mod Handles
pub mod Launching
pub mod Lifting
pub mod Lighting
