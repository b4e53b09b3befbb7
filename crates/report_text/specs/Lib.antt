pub mod Report
pub use Rattle.report_lines.specs.of_event_log as of_event_log
pub use Rattle.report_lines.specs as of_report_lines
