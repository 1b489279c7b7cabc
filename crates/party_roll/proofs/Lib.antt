pub mod Sums
pub mod Told
pub mod Honest
pub mod Placing
