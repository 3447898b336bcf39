pub mod Contents
pub mod Fuses
pub mod Histories
pub mod Pasts
pub mod Ranges
pub mod Replays
pub mod Steps
pub mod Strikes
