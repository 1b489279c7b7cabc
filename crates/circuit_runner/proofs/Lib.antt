pub mod Constants
pub mod SwitchFree
pub mod Walk
