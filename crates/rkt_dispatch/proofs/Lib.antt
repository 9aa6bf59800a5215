pub mod Cookies
pub mod SetMethods
