pub mod Body
pub mod CountedSource
pub mod Ext
pub mod Gathering
pub mod Sending
pub mod Stream
pub mod Text
