pub mod Promises
pub mod Answers
pub mod Ranges
