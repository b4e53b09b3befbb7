use Rattle.std.proofs.Common.{◌≡◌, ◌++◌, string_bytes, take}
use Rattle.std.specs.List.{flat_map}
use Rattle.log_words.specs.Index.{IsIndexOf}
use Rattle.endpoint_text.specs.Deaths.{broke_if}
use Rattle.endpoint_text.proofs.deaths.write_broken.Given as goal

abbrev pub invariant-loop-attempt : goal.invariant-loop-attempt
invariant-loop-attempt l =
    IsIndexOf l.index l.log → string_bytes l.text ≡ string_bytes l.fn.text ++ flat_map (broke_if l.log) (take l.attempt-index l.attempts)
