pub mod Cores
pub mod Drives
pub mod Replays
pub mod Reports
pub mod Stops
pub mod Views
pub mod Own
pub use Rattle.protocol_core.specs.of_count_laws as of_count_laws
