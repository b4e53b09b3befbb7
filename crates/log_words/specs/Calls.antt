-- The texts of births and calls, as the language writes them.
use Rattle.std.specs.Prelude.{ℕ, Bool, if◌then◌else◌, List, [], ◌∷◌, ◌++◌, codes}
use Rattle.std.specs.List.{flat_map}
use Rattle.std.specs.Fmt.{decimal}
use Rattle.meaning.specs.Values.{Name, Argument, Birth, Put, Task}
use Rattle.log_words.specs.declared.contents.Contents.{Contents}
use Rattle.log_words.specs.Contents.{shown_text}

-- before an argument that is dereferenced
abbrev pub mark_text : Bool → List ℕ
mark_text marked = if marked then codes "get " else []

abbrev pub argument_text : Contents → Argument → List ℕ
argument_text how a = mark_text a.marked ++ shown_text how a.value

-- an argument behind the first
abbrev pub other_text : Contents → Argument → List ℕ
other_text how a = codes ", " ++ argument_text how a

abbrev pub arguments_text : Contents → List Argument → List ℕ
arguments_text how [] = []
arguments_text how (a ∷ args) = argument_text how a ++ flat_map (other_text how) args

-- inc(get o1.1, 5)
abbrev pub call_text : Contents → Name → List Argument → List ℕ
call_text how g args = g ++ (codes "(" ++ (arguments_text how args ++ codes ")"))

-- put [1, 2], or remote(3) sq(7)
abbrev pub birth_text : Contents → Birth → List ℕ
birth_text how (Put v) = codes "put " ++ shown_text how v
birth_text how (Task g args depth retries others) = codes "remote(" ++ (decimal retries ++ (codes ") " ++ call_text how g args))
