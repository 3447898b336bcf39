pub mod Frame
pub mod Reasons
pub mod Reading
pub mod Inside
pub mod Widths
