pub mod Scheme
pub mod Drawn
pub mod Shares
pub mod Members
