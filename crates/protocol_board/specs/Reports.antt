-- The report of a log as JSON, on one line.
use Rattle.std.specs.Prelude.{ℕ, List, ◌++◌, codes}
use Rattle.serde_json.specs.Written.{compact_text}
use Rattle.event_log.specs.Entries.{Entry}
use Rattle.report_json.specs.Report.{report_data}

abbrev pub json_text : List Entry → List ℕ
json_text log = compact_text (report_data log) ++ codes "\n"
