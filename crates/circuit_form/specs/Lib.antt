pub mod Circuits
pub mod Values
pub mod Products
