pub mod Notice
pub mod Protection
pub mod Wrapping
