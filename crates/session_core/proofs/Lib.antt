pub mod Keyless
pub mod Members
pub mod Grown
pub mod Going
pub mod Brought
pub mod Leaving
pub mod Handed
