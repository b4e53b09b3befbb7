pub mod Hints
pub mod Places
pub mod Texts
