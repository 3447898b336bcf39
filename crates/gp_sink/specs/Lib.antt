pub mod Fits
pub mod Stored
pub mod Ruled
pub mod Verdict
pub mod Sink
pub mod Announced
pub mod Inside
