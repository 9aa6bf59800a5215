pub use Rattle.rkt_source.specs.Source
pub mod Chain
pub mod ChainLaws
pub mod Flat
pub mod FlatLaws
pub mod Flow
pub mod Joining
pub mod JoiningLaws
