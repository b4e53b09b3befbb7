-- The texts of values and contents.
use Rattle.std.specs.Prelude.{ℕ, List, [], ◌∷◌, ◌++◌, codes}
use Rattle.std.specs.List.{flat_map}
use Rattle.meaning.specs.Values.{Value, Outcome, Val, Trapped}
use Rattle.report.specs.ValueTexts.{value_text}
use Rattle.report.specs.MainLines.{trap_name}
use Rattle.log_words.specs.declared.contents.Contents.{Contents}
use Rattle.log_words.specs.declared.contents.Contents.TheVariants.{Cut, Whole}
use Rattle.cut_values.specs.Cut.{cut_text}

-- as a report has it, or with its long lists cut
abbrev pub shown_text : Contents → Value → List ℕ
shown_text Whole v = value_text v
shown_text Cut v = cut_text v

-- a value, or trap DivZero
abbrev pub content_text : Contents → Outcome → List ℕ
content_text how (Val v) = shown_text how v
content_text how (Trapped t) = codes "trap " ++ trap_name t

-- a content behind the first
abbrev pub other_content : Contents → Outcome → List ℕ
other_content how c = codes ", " ++ content_text how c

-- a content for each result: 5, [1, 2]
abbrev pub contents_text : Contents → List Outcome → List ℕ
contents_text how [] = []
contents_text how (c ∷ cs) = content_text how c ++ flat_map (other_content how) cs
