pub mod Flash
pub mod Responder
