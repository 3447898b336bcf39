pub mod Opening
pub mod Lived
pub mod Exact
pub mod Living
pub mod Ending
pub mod Inside
pub mod Stages
