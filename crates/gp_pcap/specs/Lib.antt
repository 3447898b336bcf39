pub mod Capture
pub mod Judging
pub mod Reading
