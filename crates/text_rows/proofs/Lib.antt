pub mod Events
pub mod Scripts
pub mod Sections
