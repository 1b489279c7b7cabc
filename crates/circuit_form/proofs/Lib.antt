pub mod Residues
pub mod Terms
pub mod Standing
pub mod Steps
pub mod Narrowing
pub mod Roots
