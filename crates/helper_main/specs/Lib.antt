pub mod Numbers
pub mod Runs
pub mod Inputs
pub mod Parties
pub mod Works
pub mod Owed
