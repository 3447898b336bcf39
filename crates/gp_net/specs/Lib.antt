pub mod Devices
pub mod Nodes
pub mod Net
pub mod Steady
pub mod World
pub mod Inside
pub mod Replies
pub mod Made
