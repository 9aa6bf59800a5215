pub mod Catcher
pub mod Collisions
pub mod Pairs
pub mod Route
pub mod RouteUri
pub mod Segment
