pub mod Mine
pub mod Seating
