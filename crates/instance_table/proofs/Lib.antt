pub mod Added
pub mod Issued
pub mod Places
pub mod Roles
pub mod Orders
pub mod Lives
pub mod Attempted
