pub mod Command
pub mod Decoding
pub mod Formatting
pub mod Leaves
pub mod Outcome
