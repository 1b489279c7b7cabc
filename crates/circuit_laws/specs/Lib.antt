pub mod Switches
pub mod Carrying
pub mod Nodes
pub mod SwitchFree
