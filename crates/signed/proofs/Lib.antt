pub mod Differences
pub mod Tests
pub mod Machine
pub mod Floor
pub mod Extend
pub mod Sizes
pub mod Promises
