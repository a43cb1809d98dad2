pub mod Bytes
pub mod OracleStamp
pub mod Cp56Stamp
pub mod UdfStamp
pub mod Promises
