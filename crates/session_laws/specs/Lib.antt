pub mod Laws
pub mod Beginnings
pub mod Constancy
pub mod Orders
pub mod Turns
