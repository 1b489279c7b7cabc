pub mod Ring
pub mod Pairs
pub mod Aggregate
