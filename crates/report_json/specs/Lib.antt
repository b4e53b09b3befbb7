pub mod Values
pub mod Main
pub mod Attempts
pub mod Objects
pub mod Refusals
pub mod Report
