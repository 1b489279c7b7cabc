pub mod Gadgets
pub mod Keys
pub mod Sums
