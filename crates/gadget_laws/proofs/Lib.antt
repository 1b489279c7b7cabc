pub mod BaseDigits
pub mod BalancedDigits
pub mod Digits
pub mod Polynomials
pub mod Phases
pub mod Combined
pub mod Reduced
pub mod Switches
pub mod SwitchTotals
pub mod Shifts
pub mod Rotations
mod Instances
