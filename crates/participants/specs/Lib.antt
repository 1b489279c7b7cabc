pub mod Loads
pub mod Live
pub mod Laws
