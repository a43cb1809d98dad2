pub mod Wholes
pub mod YearSums
pub mod MonthSums
pub mod Days
pub mod Tests
pub mod Trip
pub mod Promises
pub mod Order
