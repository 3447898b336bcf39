pub mod Pairs
pub mod Ledgers
pub mod Tests
pub mod Passing
pub mod Freshness
