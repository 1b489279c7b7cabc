pub mod Lengths
pub mod Following
pub mod Alone
pub mod Taken
pub mod Settling
pub mod Leaving
