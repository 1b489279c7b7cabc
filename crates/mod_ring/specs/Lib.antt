pub mod Fits
pub mod Evaluated
pub mod WideSums
