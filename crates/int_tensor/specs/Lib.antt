pub mod Moduli
pub mod Factors
pub mod Joined
