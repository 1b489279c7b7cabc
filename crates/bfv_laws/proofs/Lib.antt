pub mod Draws
pub mod Noise
pub mod Sums
pub mod Rounding
pub mod Decryptions
pub mod Parties
mod Instances
