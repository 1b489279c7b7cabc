mod Bytes
mod Fitting
mod Inputs
mod Party
mod Logged
mod Session
mod Taken
pub mod Headline
