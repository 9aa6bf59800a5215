pub mod Finalizing
pub mod Overridden
