pub mod Fake
pub mod Field
pub mod Identity
pub mod Outside
pub mod Table
pub mod Walk
