pub mod Rounding
pub mod Tensors
