pub mod Values
pub mod Listed
pub mod Cells
pub mod Faults
pub mod FaultCodes
pub use Rattle.ids.specs as of_ids
pub use Rattle.ids.specs.of_meaning as of_meaning
