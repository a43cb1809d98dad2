pub mod Instants
pub mod Answers
pub mod Ranges
