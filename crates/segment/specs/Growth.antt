-- What a task does as answers come in.
use Rattle.std.specs.Prelude.{List, ◌++◌}
use Rattle.meaning.specs.Lists.{IsFirst}
use Rattle.meaning.specs.Values.{Birth, Id, Outcome}
use Rattle.meaning.specs.Syntax.{Script}
use Rattle.meaning.specs.Runs.{Piece}
use Rattle.meaning.specs.Meaning.{replay}

-- the first piece's births and prints begin the second's
pub record GrowsTo (p q : Piece) : Type 0 where
  pub births : IsFirst p.births q.births
  pub prints : IsFirst p.prints q.prints

-- with further answers a task goes on from what it did before
abbrev pub ReplaysGrow : Type 0
ReplaysGrow =
    (script : Script) (spec : Birth) (base : Id) (answers further : List Outcome) →
    GrowsTo (replay script spec base answers) (replay script spec base (answers ++ further))
