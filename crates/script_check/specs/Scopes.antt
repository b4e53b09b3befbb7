-- What the code's scopes stand for.
use Rattle.std.specs.Prelude.{List, map, string_bytes}
use Rattle.meaning.specs.Kinds.{Typed, Context}
use Rattle.script_check.specs.Trees.{kind_of}
use Rattle.script_check.specs.declared.scope.Variable.{Variable}

abbrev pub typed_of : Variable → Typed
typed_of w = record { name = string_bytes w.name; kind = kind_of w.kind }

abbrev pub context_of : List Variable → Context
context_of = map typed_of
