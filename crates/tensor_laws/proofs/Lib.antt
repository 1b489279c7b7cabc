pub mod Rounding
pub mod Relinearising
pub mod Numbers
pub mod Factors
pub mod Expansions
pub mod Products
mod Instances
