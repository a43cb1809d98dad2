pub mod Octets
pub mod Promises
