-- Objects in a row, and which attempts are among others.
use Rattle.std.specs.Prelude.{ℕ, ◌-◌, Bool, nat_lt, if◌then◌else◌, List, [], ◌∷◌, ◌++◌, codes, length, take}
use Rattle.std.specs.List.{flat_map, list_any}
use Rattle.std.specs.Fmt.{decimal}
use Rattle.ids.specs.Texts.{object_text}
use Rattle.meaning.specs.Values.{Id}
use Rattle.event_log.specs.Entries.{Attempt}
use Rattle.event_log.specs.Words.{same_attempt}
use Rattle.log_words.specs.declared.contents.Contents.{Contents}
use Rattle.log_words.specs.declared.contents.Contents.TheVariants as contents

-- , o1.2
unfoldable pub next_text : Id → List ℕ
next_text o = codes ", " ++ object_text o

-- o1.1, o1.2
abbrev pub row_text : List Id → List ℕ
row_text [] = []
row_text (o ∷ rest) = object_text o ++ flat_map next_text rest

unfoldable pub more_text : ℕ → List ℕ
more_text n = codes " and " ++ (decimal n ++ codes " more")

-- o1.1, o1.2, o1.3 and 9 more
abbrev pub cut_row : List Id → List ℕ
cut_row ids = row_text (take 3 ids) ++ more_text (length ids - 3)

-- of more than 8 objects the first three, unless all are wanted
abbrev pub ids_text : Contents → List Id → List ℕ
ids_text contents.Whole ids = row_text ids
ids_text contents.Cut ids = if nat_lt 8 (length ids) then cut_row ids else row_text ids

-- the attempt is one of them
abbrev pub is_one_of : List Attempt → Attempt → Bool
is_one_of attempts a = list_any (λ b. same_attempt b a) attempts
