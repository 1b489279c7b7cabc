pub mod Setting
pub mod Refused
pub mod Printed
pub mod Values
pub mod Open
pub mod Keeps
pub mod Small
pub mod Histories
