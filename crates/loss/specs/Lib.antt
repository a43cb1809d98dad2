pub mod Loss
pub mod Surprises
