pub mod Codec
pub mod Flags
pub mod Tables
