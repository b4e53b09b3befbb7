use Rattle.std.proofs.Common.{◌≡◌, ◌++◌, string_bytes}
use Rattle.state_text.specs.Below.{below}
use Rattle.log_words.specs.Index.{IsIndexOf}
use Rattle.state_text.specs.Objects.{worker_objects}
use Rattle.state_text.proofs.objects.write_all_objects.Given as goal

abbrev pub invariant-loop-place : goal.invariant-loop-place
invariant-loop-place l =
    IsIndexOf l.index l.log → string_bytes l.text ≡ string_bytes l.fn.text ++ below (worker_objects l.log l.whole) l.place
