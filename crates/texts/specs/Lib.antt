-- What the contracts cite: a file for each source module that has definitions of its own.
pub mod Spaces
pub mod Buffer
