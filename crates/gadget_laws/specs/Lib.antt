pub mod Digits
pub mod Switching
pub mod Totals
pub mod Shifted
