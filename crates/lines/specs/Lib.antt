-- What the contract cites, a file for each source module, and what is promised of it.
pub mod Questions
pub mod Answers
pub mod Promises
