pub mod Lists
pub mod Names
pub mod Events
pub mod Instances
