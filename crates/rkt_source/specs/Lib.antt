pub mod Buffer
pub mod Cancel
pub mod CancelLaws
pub mod Memory
pub mod Sink
pub mod Source
