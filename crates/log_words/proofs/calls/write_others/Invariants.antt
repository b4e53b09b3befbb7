use Rattle.std.proofs.Common.{◌≡◌, ◌++◌, string_bytes, take, map}
use Rattle.std.specs.List.{flat_map}
use Rattle.task_spec.specs.Births.{argument_of}
use Rattle.log_words.specs.Calls.{other_text}
use Rattle.log_words.proofs.calls.write_others.Given as goal

abbrev pub invariant-loop-argument : goal.invariant-loop-argument
invariant-loop-argument l = string_bytes l.text ≡ string_bytes l.fn.text ++ flat_map (other_text l.contents) (map argument_of (take l.argument-index l.arguments))
