pub mod Instants
pub mod Zones
pub mod RuleNumbers
pub mod Refusals
pub mod Stamps
