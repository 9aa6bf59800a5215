pub mod Groups
pub mod OtherGroups
pub mod Outcomes
pub mod Pages
pub mod ReadingLemmas
