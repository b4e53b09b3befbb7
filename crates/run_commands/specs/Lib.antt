pub mod Faults
pub mod Pages
pub mod Reports
pub mod RunReports
pub mod SimReports
pub mod SoFar
pub mod States
pub mod TrapReports
pub use Rattle.fault_runs.specs.of_protocol_board as of_protocol_board
pub use Rattle.fault_lists.specs as of_fault_lists
