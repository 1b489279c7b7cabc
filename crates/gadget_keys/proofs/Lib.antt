pub mod Places
pub mod Cuts
pub mod Written
pub mod Kept
pub mod Totals
