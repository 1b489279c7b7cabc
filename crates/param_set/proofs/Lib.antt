pub mod Digits
pub mod Divisors
pub mod Judged
pub mod Squarings
