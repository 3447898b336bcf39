pub mod Calls
pub mod Carried
pub mod Keys
pub mod Notices
pub mod Opening
pub mod Sealing
pub mod Valid
