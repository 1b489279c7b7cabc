pub mod Settings
pub mod Shares
pub mod Outputs
pub mod Stores
pub mod Honesty
