pub mod Trimmed
pub mod Spaced
pub mod Hashed
pub mod Rows
pub mod Sections
pub mod Checked
mod Instances
