-- The laws that the proofs cite, and that callers can. Assumes nothing.
pub mod Reading
pub mod Writing
pub mod AtEnd
pub mod RoundTrip
