pub mod Floor
pub mod Extend
pub mod Promises
