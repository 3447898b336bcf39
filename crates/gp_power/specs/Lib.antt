pub mod Stands
pub mod Said
pub mod Comes
pub mod Few
pub mod Inside
