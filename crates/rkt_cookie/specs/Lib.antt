pub mod Attribute
pub mod Cookie
pub mod Date
pub mod Encoded
pub mod Jar
pub mod JarEntries
pub mod ReadBack
pub mod Reading
