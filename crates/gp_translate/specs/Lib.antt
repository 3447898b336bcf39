pub mod Meanings
pub mod Rules
pub mod Acts
