pub mod Tails
pub mod Over
pub mod Promises
