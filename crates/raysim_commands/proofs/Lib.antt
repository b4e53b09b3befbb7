pub mod Explained
pub mod Migrated
mod Planned
mod Replayed
mod Seated
pub mod Threaded
