pub mod Fronts
pub mod Entries
pub mod LongestFront
pub mod OneLimit
pub mod Joins
pub mod Numerals
pub mod TableScans
pub mod LimitTexts
