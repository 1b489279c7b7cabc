pub mod Acting
pub mod Texts
pub mod Reports
pub mod Runs
pub mod Works
pub mod Parties
pub mod Serving
