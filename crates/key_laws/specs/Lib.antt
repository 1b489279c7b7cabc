pub mod Noise
pub mod Shapes
