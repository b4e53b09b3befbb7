use Rattle.std.proofs.Common.{◌≡◌, ◌++◌, string_bytes, take}
use Rattle.std.specs.List.{flat_map}
use Rattle.message_text.specs.Messages.{other_result}
use Rattle.message_text.proofs.kinds.write_other_results.Given as goal

abbrev pub invariant-loop-ended : goal.invariant-loop-ended
invariant-loop-ended l = string_bytes l.text ≡ string_bytes l.fn.text ++ flat_map (other_result l.contents) (take l.ended-index l.results)
