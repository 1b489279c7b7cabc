pub mod Admitted
pub mod Halves
pub mod Sizes
pub mod Walks
