-- What the contracts cite: a file for each source module.
pub mod Read
pub mod Write
