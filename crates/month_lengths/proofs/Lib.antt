pub mod Leap
pub mod Months
