pub mod Here
pub mod Places
pub mod Standing
