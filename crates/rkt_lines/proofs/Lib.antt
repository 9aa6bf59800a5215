mod Added
mod Faults
mod Rooted
