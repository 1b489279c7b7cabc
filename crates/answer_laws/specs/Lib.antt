pub mod Keys
pub mod SwitchKeys
pub mod ByKeys
pub mod Nodes
