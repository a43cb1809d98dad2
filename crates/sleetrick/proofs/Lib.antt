pub mod Handed
pub mod Promises
