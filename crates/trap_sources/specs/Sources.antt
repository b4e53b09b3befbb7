-- With what an attempt ran whose own code trapped.
use Rattle.std.specs.Prelude.{List, None, Option, Some, [], length, map, ◌∷◌}
use Rattle.meaning.specs.Births.{Bearing, birth_at}
use Rattle.meaning.specs.Values.{Birth, Id, Outcome}
use Rattle.event_log.specs.Entries.{Attempt, Entry}
use Rattle.event_log.specs.Words.{answers_of, births, own_births}
use Rattle.task_spec.specs.Births.{birth_of}
use Rattle.values.specs.Values.{content_of}
use Rattle.trap_sources.specs.Chains.{trap_origin}
use Rattle.trap_sources.specs.declared.source.TrapSource.{TrapSource}

-- an attempt, what it ran, the id of its first own birth, and what it was answered
pub record Source : Type 0 where
  pub attempt : Attempt
  pub spec : Birth
  pub base : Id
  pub answers : List Outcome

abbrev pub source_of : TrapSource → Source
source_of s = record { attempt = s.attempt; spec = birth_of s.spec; base = s.base; answers = map content_of s.answers.items }

abbrev pub first_or : Id → List Bearing → Id
first_or o [] = o
first_or o (x ∷ xs) = x.object

-- the id of the attempt's first own birth; one that bore nothing takes no id, and any would do
abbrev pub base_of : List Entry → Attempt → Id
base_of log a = first_or a.object (own_births a log)

abbrev pub source_with : List Entry → Attempt → Option Birth → Option Source
source_with log a None = None
source_with log a (Some b) = Some (record { attempt = a; spec = b; base = base_of log a; answers = answers_of a log })

abbrev pub source_from : List Entry → Option Attempt → Option Source
source_from log None = None
source_from log (Some a) = source_with log a (birth_at (births log) a.object)

-- where the trap comes from with which an attempt of the object ended
abbrev pub trap_source : List Entry → Id → Option Source
trap_source log o = source_from log (trap_origin log (length log) o)
