pub mod Window
pub mod Days
pub mod Promises
pub mod Order
pub mod Answers
