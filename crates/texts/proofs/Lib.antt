-- The laws that the proofs cite, and that callers can. Assumes nothing.
pub mod FirstSpace
pub mod Putting
