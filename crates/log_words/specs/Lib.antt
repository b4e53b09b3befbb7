pub mod Calls
pub mod Contents
pub mod Faults
pub mod Index
pub mod Told
pub mod Ids
pub mod Tasks
pub use Rattle.made_objects.specs as of_made_objects
pub use Rattle.report_text.specs.of_event_log as of_event_log
pub use Rattle.report_text.specs.of_report_lines as of_report_lines
