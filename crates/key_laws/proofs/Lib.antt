pub mod Totals
pub mod Rows
pub mod Noises
pub mod RotationKeys
pub mod RelinKeys
pub mod Shapes
mod Instances
