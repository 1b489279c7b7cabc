pub mod Asked
pub mod Course
pub mod Headline
pub mod History
