use Rattle.std.proofs.Common.{◌≡◌, ◌++◌, string_bytes, take}
use Rattle.std.specs.List.{flat_map}
use Rattle.task_spec.specs.Births.{birth_of}
use Rattle.lineage_text.specs.Births.{object_text}
use Rattle.lineage_text.proofs.births.write_objects.Given as goal

abbrev pub invariant-loop-object : goal.invariant-loop-object
invariant-loop-object l =
    string_bytes l.text ≡ string_bytes l.fn.text
    ++ flat_map (object_text l.contents l.first (birth_of l.birth)) (take l.object-index l.objects)
