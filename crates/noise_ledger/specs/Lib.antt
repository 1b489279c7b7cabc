pub mod Bounds
pub mod Ledger
