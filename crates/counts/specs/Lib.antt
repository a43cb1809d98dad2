pub mod Nokia
pub mod Sql
pub mod Promises
