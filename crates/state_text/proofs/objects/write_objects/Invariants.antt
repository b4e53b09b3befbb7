use Rattle.std.proofs.Common.{◌≡◌, ◌++◌, string_bytes}
use Rattle.state_text.specs.Below.{below}
use Rattle.log_words.specs.Index.{IsIndexOf}
use Rattle.state_text.specs.Objects.{row_lines}
use Rattle.state_text.proofs.objects.write_objects.Given as goal

abbrev pub invariant-loop-place : goal.invariant-loop-place
invariant-loop-place l =
    IsIndexOf l.index l.log →
    string_bytes l.text ≡ string_bytes l.fn.text ++ below (row_lines l.log l.owner l.worker) l.place
