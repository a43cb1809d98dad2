-- The laws that the proofs cite. Assumes nothing.
pub mod Narrow
pub mod Texts
pub mod Refusals
pub mod Promises
