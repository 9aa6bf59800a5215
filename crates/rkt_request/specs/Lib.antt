pub mod Seen
pub mod Lent
pub mod LentLaws
pub mod Incoming
pub mod RequestHeaders
pub mod FromRequest
pub mod Guarding
pub mod Guards
