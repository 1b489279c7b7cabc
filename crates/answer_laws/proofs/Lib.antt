pub mod Acting
pub mod Keys
pub mod Inputs
pub mod Decryptions
pub mod Answers
pub mod Belongs
pub mod SwitchKeys
pub mod HeldKeys
