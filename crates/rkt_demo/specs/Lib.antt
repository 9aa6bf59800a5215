pub mod Entries
pub mod Launched
pub mod Output
pub mod Program
pub mod Sample
pub mod Shown
