-- What `clap` promises of the matches of a subcommand, as reading them wants it.
use Rattle.std.specs.Prelude.{◌≡◌, ⊤, ℕ, Bool, List, [], ◌∷◌, pos, Option, Some, true, false, is_some}
use Rattle.std.specs.Str.{bytes_eq}
use Rattle.clap.specs.Words.{IsSignedIn, Row, Rule, Shape, Text, first_of, one_of, without_minus}
use Rattle.clap.specs.declared.builder.value_parser.ValueParser.{ValueParser}
use Rattle.clap.specs.declared.builder.value_parser.ValueParser.TheVariants.{Signed}

-- the words give the id a text
abbrev pub HasText : List Row → Text → Type 0
HasText rows id = is_some (first_of id rows) ≡ true

-- where the words give the id a number, it is from `least` to `most`; a minus before a zero isn't read
abbrev pub IsWithin : List Row → Text → ℕ → ℕ → Type 0
IsWithin rows id least most = (t : Text) → one_of id rows ≡ Some t → (v : Text) × (t ≡ without_minus v) × IsSignedIn (pos least) (pos most) v

-- a number that the words give the id is one that its parser lets through
abbrev pub MeetsParser : Option ValueParser → Text → List Row → Type 0
MeetsParser (Some (Signed (pos least) (pos most))) id rows = IsWithin rows id least most
MeetsParser _ id rows = ⊤

-- a text that has to be there is there
abbrev pub MeetsNeed : Bool → Text → List Row → Type 0
MeetsNeed true id rows = HasText rows id
MeetsNeed false id rows = ⊤

-- the words meet each rule of a command
abbrev pub MeetsAll : List Rule → List Row → Type 0
MeetsAll [] rows = ⊤
MeetsAll (a ∷ rules) rows = MeetsNeed a.required a.id rows × MeetsParser a.parser a.id rows × MeetsAll rules rows

-- what is met where the name is a subcommand's, and where it is a later one's
abbrev pub MeetsNamed : Bool → Type 0 → Type 0 → Type 0
MeetsNamed true here later = here
MeetsNamed false here later = later

-- the words meet each rule of the subcommand of this name
abbrev pub MeetsOne : List Shape → Text → List Row → Type 0
MeetsOne [] name rows = ⊥
MeetsOne (s ∷ rest) name rows = MeetsNamed (bytes_eq s.name name) (MeetsAll s.rules rows) (MeetsOne rest name rows)
