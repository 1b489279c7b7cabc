pub mod Tables
pub mod Spare
pub mod Totals
pub mod Attempts
pub mod Lists
