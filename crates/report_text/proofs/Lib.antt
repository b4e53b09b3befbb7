pub use Rattle.report_lines.proofs as of_report_lines
