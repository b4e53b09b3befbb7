-- What a replay that is over comes to, and what an attempt bore first.
use Rattle.std.proofs.Common.{◌≡◌, ℕ, List, [], ◌∷◌}
use Rattle.script_laws.specs.of_meaning.Values.{Outcome, Val, Trapped, Birth, Completion, Aborted, outcomes, Id}
use Rattle.script_laws.specs.of_meaning.Runs.{Run, Ends, Prints, Bears, Gets, Over, named, behind, piece}
use Rattle.script_laws.proofs.of_meaning.BirthLaws.{first_is_made}
use Rattle.event_log.specs.Entries.{Attempt, Entry, Born}
use Rattle.event_log.specs.Breaks.{Among}
use Rattle.event_log.specs.Holding.{Safe, Bore}

-- a replay that is over has an outcome for each result
pub over_outcomes : (n : ℕ) (run : Run) (base : Id) (answers : List Outcome) (cs : List Outcome) → (piece n run base answers).stop ≡ Over cs → (e : Completion) × (cs ≡ outcomes n e)
over_outcomes n (Ends e) base answers cs h = (e, cc)
over_outcomes n (Prints v next) base answers cs h = over_outcomes n next base answers cs h
over_outcomes n (Bears b made_by next) base answers cs h = over_outcomes n (next (named base b)) (behind base b) answers cs h
over_outcomes n (Gets t r next) base [] cs h = absurd (cc)
over_outcomes n (Gets t r next) base (Val v ∷ answers) cs h = over_outcomes n (next v) base answers cs h
over_outcomes n (Gets t r next) base (Trapped e ∷ answers) cs h = (Aborted e, cc)

-- the attempt bore it
pub bore-first : (log : List Entry) (a : Attempt) (z : Id) (b : Birth) → Among (Born z a b) log → Safe log a z
bore-first log a z b h = Bore a z z b h (first_is_made (record { object = z; birth = b }))
