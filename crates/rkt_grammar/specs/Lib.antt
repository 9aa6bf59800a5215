pub mod ByteLaws
pub mod Bytes
pub mod BytewiseLaws
pub mod Grammar
pub mod Numbers
