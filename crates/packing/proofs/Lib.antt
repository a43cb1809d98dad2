pub mod Packing
pub mod Writable
