pub mod Clusters
pub mod Limits
pub mod Meant
pub mod Opening
pub mod Owed
pub mod Own
pub mod Pace
pub mod SameJobs
pub mod States
pub mod Steps
pub mod Views
pub use Rattle.count_laws.specs as of_count_laws
pub use Rattle.count_laws.specs.of_protocol_laws as of_protocol_laws
