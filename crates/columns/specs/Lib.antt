pub mod Columns
pub mod Promises
