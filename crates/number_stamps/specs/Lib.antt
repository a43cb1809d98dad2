pub mod NumberStamps
pub mod Promises
