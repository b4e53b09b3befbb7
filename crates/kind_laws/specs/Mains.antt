-- In a log of a script that keeps main apart, main runs once, and alone prints.
use Rattle.std.specs.Prelude.{◌≡◌, ◌⊎◌, List, [], Some}
use Rattle.meaning.specs.Values.{Birth, Id}
use Rattle.meaning.specs.Runs.{Piece}
use Rattle.meaning.specs.Births.{birth_at}
use Rattle.meaning.specs.Mains.{KeepsMainApart, IsNotMains}
use Rattle.meaning_laws.specs.of_event_log.Entries.{Attempt, Entry, main_object}
use Rattle.meaning_laws.specs.of_event_log.Words.{births}
use Rattle.meaning_laws.specs.of_event_log.Rules.{Setting, Replays}
use Rattle.meaning_laws.specs.of_event_log.Legal.{Legal}

-- but for main's own object no birth is a task of main, and the replay of no other object's attempt prints
pub record HasMainApart (s : Setting) (log : List Entry) : Type 0 where
  pub births : (o : Id) (b : Birth) → birth_at (births log) o ≡ Some b → (o ≡ main_object) ⊎ IsNotMains b
  pub prints : (a : Attempt) (base : Id) (p : Piece) → Replays s log a base p → (a.object ≡ main_object) ⊎ (p.prints ≡ [])

-- every legal log of a script that keeps main apart
abbrev pub LegalLogsKeepMainApart : Type 0
LegalLogsKeepMainApart = (s : Setting) (log : List Entry) → KeepsMainApart s.script → Legal s log → HasMainApart s log
