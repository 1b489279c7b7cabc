pub mod Sessions
pub mod Handing
pub mod Calls
