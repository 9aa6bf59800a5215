pub mod Adding
pub mod Headers
pub mod Lines
pub mod Offered
pub mod Reader
pub mod Requests
pub mod StreamLemmas
pub mod WordLemmas
