pub mod OracleYear
pub mod Promises
