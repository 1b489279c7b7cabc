pub mod Parties
pub mod Firsts
pub mod Choosing
pub mod Raising
pub mod Live
mod Instances
