pub mod Gregorian
pub mod Dates
pub mod Promises
pub mod Answers
pub mod Parts
