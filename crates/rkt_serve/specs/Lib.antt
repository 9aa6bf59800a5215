pub mod Kept
pub mod Left
pub mod Lifted
pub mod Said
