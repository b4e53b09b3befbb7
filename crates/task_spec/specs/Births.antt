-- What the code's births stand for.
use Rattle.std.specs.Prelude.{map, string_bytes}
use Rattle.std.specs.Arc.{arc_value}
use Rattle.values.specs.of_meaning.Values as meant
use Rattle.values.specs.Values.{value_of}
use Rattle.task_spec.specs.declared.birth.Argument.{Argument}
use Rattle.task_spec.specs.declared.birth.Birth.{Birth}
use Rattle.task_spec.specs.declared.birth.Birth.TheVariants as births

abbrev pub argument_of : Argument → meant.Argument
argument_of a = record { value = value_of a.value; marked = a.is_dereferenced }

abbrev pub birth_of : Birth → meant.Birth
birth_of (births.Put v) = meant.Put (value_of v)
birth_of (births.Task g args d k n) = meant.Task (string_bytes (arc_value g)) (map argument_of args) d k n
