pub mod Values
pub mod Digests
pub mod Lines
pub mod Reports
pub mod Told
pub mod Checking
pub mod Refusals
