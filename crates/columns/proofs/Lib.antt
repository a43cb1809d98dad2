pub mod Turns
pub mod Refusals
pub mod Rows
pub mod Promises
