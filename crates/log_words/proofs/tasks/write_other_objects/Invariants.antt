use Rattle.std.proofs.Common.{◌≡◌, ◌++◌, string_bytes, take}
use Rattle.std.specs.List.{flat_map}
use Rattle.log_words.specs.Tasks.{other_object}
use Rattle.log_words.proofs.tasks.write_other_objects.Given as goal

abbrev pub invariant-loop-object : goal.invariant-loop-object
invariant-loop-object l = string_bytes l.text ≡ string_bytes l.fn.text ++ flat_map other_object (take l.object-index l.others)
