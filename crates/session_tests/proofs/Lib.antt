pub mod Modest
