pub mod LastWords
pub mod Leaves
pub mod Progress
