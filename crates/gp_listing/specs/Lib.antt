pub mod Form
pub mod Json
pub mod Listing
pub mod Messages
pub mod Opening
pub mod Packets
pub mod Texts
