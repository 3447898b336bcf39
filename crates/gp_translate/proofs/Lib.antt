pub mod Meant
pub mod Sparse
pub mod Standard
pub mod Spelled
