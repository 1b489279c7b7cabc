pub mod Rounding
pub mod Relinearising
pub mod Products
