pub mod Chains
pub mod Sources
