pub mod Config
pub mod ConfigTable
pub mod Joined
pub mod Limits
pub mod SameLimits
pub mod SameLimitsLaws
pub mod Numbers
pub mod Managed
