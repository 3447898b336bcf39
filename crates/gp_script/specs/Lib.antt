pub mod Capture
pub mod Inside
pub mod Kinds
pub mod Report
pub mod Script
pub mod SinkScript
pub mod Words
