pub mod Transform
pub mod Words
pub mod Nodes
pub mod Faults
