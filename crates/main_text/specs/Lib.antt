pub mod Happenings
pub mod Links
pub mod Traps
pub mod Text
