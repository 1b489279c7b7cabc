pub mod Names
pub mod Groups
pub mod Instances
pub mod Roles
