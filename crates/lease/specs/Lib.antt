pub mod Leases
pub mod Promises
