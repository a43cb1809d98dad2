pub mod NokiaSeconds
pub mod SqlDays
pub mod SqlParts
pub mod Promises
