pub mod Asked
pub mod Circles
pub mod Each
pub mod Plans
pub mod Remaking
pub mod Told
