-- The laws that the proofs cite, and that callers can. Assumes nothing.
pub mod FirstLf
pub mod Promises
