-- What a commit logs, part by part.
use Rattle.std.specs.Prelude.{List, [], ◌∷◌}
use Rattle.meaning.specs.Values.{Birth, Id}
use Rattle.meaning.specs.Runs.{behind}
use Rattle.event_log.specs.Entries.{Attempt, Entry, Born, Ended}
use Rattle.protocol.specs.Jobs.{Stopped, AtGet, AtEnd}

-- the births, which take ids from `next` on
abbrev pub born : Attempt → Id → List Birth → List Entry
born a next [] = []
born a next (b ∷ bs) = Born next a b ∷ born a (behind next b) bs

-- the end, if there is one
abbrev pub ended : Attempt → Stopped → List Entry
ended a (AtGet y) = []
ended a (AtEnd cs) = Ended a cs ∷ []
