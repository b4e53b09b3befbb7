use Rattle.std.proofs.Common.{◌≡◌, ◌++◌, string_bytes, take}
use Rattle.std.specs.List.{flat_map}
use Rattle.holder_text.specs.Holders.{asker_line}
use Rattle.holder_text.proofs.holders.add_askers.Given as goal

abbrev pub invariant-loop-asker : goal.invariant-loop-asker
invariant-loop-asker l =
    string_bytes l.text ≡ string_bytes l.fn.text ++ flat_map (asker_line l.object) (take l.asker-index l.askers)
