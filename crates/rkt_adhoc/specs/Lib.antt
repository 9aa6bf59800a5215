pub mod AdHoc
pub mod Changes
pub mod LifeChanges
