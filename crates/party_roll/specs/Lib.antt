pub mod Seeds
pub mod Values
pub mod Briefs
