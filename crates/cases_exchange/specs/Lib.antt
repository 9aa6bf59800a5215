pub mod Changers
pub mod Pages
pub mod PageLaws
