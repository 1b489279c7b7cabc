pub mod Shoup
pub mod Halves
