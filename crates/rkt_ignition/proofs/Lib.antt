pub mod Adding
pub mod Closed
pub mod Layers
pub mod Meeting
pub mod OfRoutes
pub mod Refusals
pub mod Valid
pub mod Walks
