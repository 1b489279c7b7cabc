pub mod Keys
pub mod Ciphers
