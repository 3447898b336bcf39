pub mod World
pub mod Sinks
pub mod Power
pub mod Devices
pub mod Step
pub mod Run
pub mod Life
pub mod Properties
