pub mod Acting
pub mod Doing
pub mod Hands
pub mod Desks
