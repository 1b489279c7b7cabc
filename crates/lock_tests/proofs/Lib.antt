pub mod Adding
pub mod Knowing
