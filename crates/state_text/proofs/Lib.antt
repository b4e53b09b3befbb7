pub mod Below
pub mod Leases
