pub mod Shared
pub mod Parts
pub mod Standings
pub mod Handed
pub mod Issuings
pub mod Wanted
pub mod Completions
pub mod Losings
