pub mod Cutting
pub mod LastWords
pub mod Leaves
pub mod Lines
pub mod Progress
pub mod Work
