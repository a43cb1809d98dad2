-- What the contracts cite, a file for each source module, and what is promised of it.
pub mod Held
pub mod Turns
pub mod Promises
