pub mod Words
pub mod Stamps
pub mod Promises
