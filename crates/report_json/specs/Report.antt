-- The report of a log as JSON.
use Rattle.std.specs.Prelude.{List, None, codes}
use Rattle.std.specs.List.{flat_map}
use Rattle.serde_json.specs.Data.{Data, Members, array, object, member, no_members, put as with_member}
use Rattle.serde_json.specs.View.{items_of}
use Rattle.event_log.specs.Entries.{Entry}
use Rattle.report_text.specs.of_report_lines.Main.{main_end, main_fault}
use Rattle.report_json.specs.Main.{main_data}
use Rattle.report_json.specs.Attempts.{attempt_in}
use Rattle.report_json.specs.Objects.{print_in, release_in, resolve_in}
use Rattle.report_json.specs.Refusals.{refused_data}

-- the sections of the report, by their keys
abbrev pub report_data : List Entry → Data
report_data log =
    object (member (codes "attempts") (array (items_of (flat_map (attempt_in log) log)))
    (member (codes "main") (main_data (main_end log) (main_fault log))
    (member (codes "prints") (array (items_of (flat_map print_in log)))
    (member (codes "refused") (array (items_of (refused_data None log)))
    (member (codes "released") (array (items_of (flat_map release_in log)))
    (member (codes "resolved") (array (items_of (flat_map resolve_in log))) no_members))))))

-- members with these sections, each in place of one with its key
abbrev pub with_sections : List Entry → Members → Members
with_sections log ms =
    with_member (codes "resolved") (array (items_of (flat_map resolve_in log)))
    (with_member (codes "released") (array (items_of (flat_map release_in log)))
    (with_member (codes "refused") (array (items_of (refused_data None log)))
    (with_member (codes "prints") (array (items_of (flat_map print_in log)))
    (with_member (codes "main") (main_data (main_end log) (main_fault log))
    (with_member (codes "attempts") (array (items_of (flat_map (attempt_in log) log))) ms)))))
