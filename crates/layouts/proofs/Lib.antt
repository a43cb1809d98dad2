pub mod SixPairs
pub mod Promises
