pub mod Evaluations
pub mod Filled
pub mod Fits
pub mod Turned
pub mod WideSums
