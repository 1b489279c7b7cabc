pub mod Rounds
pub mod Rotations
pub mod Relinearisation
