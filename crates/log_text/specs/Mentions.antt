-- Whether an object stands in a value.
use Rattle.std.specs.Prelude.{Bool, List}
use Rattle.std.specs.List.{list_any}
use Rattle.meaning.specs.Values.{Id, Outcome, Argument, Birth, Put, Task}
use Rattle.meaning.specs.Births.{same_id}
use Rattle.values.specs.Listed.{ids_in_outcome, each_once}
use Rattle.log_words.specs.Ids.{ids_of}

abbrev pub is_among : Id → List Id → Bool
is_among o ids = list_any (λ p. same_id p o) ids

abbrev pub is_in_argument : Id → Argument → Bool
is_in_argument o a = is_among o (ids_of a.value)

-- it stands in the put value or in an argument
unfoldable pub is_in_birth : Id → Birth → Bool
is_in_birth o (Put v) = is_among o (ids_of v)
is_in_birth o (Task g args depth retries others) = list_any (is_in_argument o) args

unfoldable pub is_in_content : Id → Outcome → Bool
is_in_content o c = is_among o (each_once (ids_in_outcome c))

-- it stands in a content of the results
unfoldable pub is_in_contents : Id → List Outcome → Bool
is_in_contents o cs = list_any (is_in_content o) cs
