pub mod Bytes
pub mod Promises
