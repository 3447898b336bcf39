pub mod Completeness
pub mod Decodings
pub mod Outcomes
