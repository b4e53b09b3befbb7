use Rattle.std.proofs.Common.{◌≡◌, ◌++◌, string_bytes, take}
use Rattle.std.specs.List.{flat_map}
use Rattle.log_words.specs.Index.{IsIndexOf}
use Rattle.holder_text.specs.Holders.{holder_lines}
use Rattle.holder_text.proofs.holders.add_holders.Given as goal

abbrev pub invariant-loop-holder : goal.invariant-loop-holder
invariant-loop-holder l =
    IsIndexOf l.index l.log →
    string_bytes l.text ≡ string_bytes l.fn.text ++ flat_map (holder_lines l.log l.object l.row.removed) (take l.holder-index l.row.added)
