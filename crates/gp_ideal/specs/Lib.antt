pub mod Ledger
pub mod Messages
pub mod Faults
pub mod Verdict
pub mod Heard
pub mod Paired
pub mod Fresh
