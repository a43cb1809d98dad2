pub mod Orders
pub mod Promises
