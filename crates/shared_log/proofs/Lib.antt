mod Growing
pub mod Prefixes
