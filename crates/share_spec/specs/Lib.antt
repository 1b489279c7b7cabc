pub mod Sets
pub mod Lagrange
pub mod Dealing
pub mod Seeds
