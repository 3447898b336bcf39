pub mod Bodies
mod JsonMembers
pub mod MessageTexts
