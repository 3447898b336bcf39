pub mod Applied
pub mod Few
pub mod Halving
pub mod Indexed
pub mod Indexes
pub mod Lists
pub mod Places
pub mod Tables
