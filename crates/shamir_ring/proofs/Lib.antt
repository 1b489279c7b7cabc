pub mod Horner
pub mod Draws
pub mod Quotient
pub mod Sums
pub mod Added
