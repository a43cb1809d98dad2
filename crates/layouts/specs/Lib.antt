pub mod Layouts
pub mod Pairs
pub mod Promises
