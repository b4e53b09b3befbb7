-- What the commit of a job logs.
use Rattle.std.specs.Prelude.{◌≡◌, ℕ, true, false, List, [], ◌∷◌, ◌++◌, ◌⊎◌, Some}
use Rattle.std.specs.List.{flat_map}
use Rattle.script_laws.specs.of_meaning.Values.{Value, Birth, Id}
use Rattle.script_laws.specs.of_meaning.Runs.{Stop, Needs, Over, Piece, behind}
use Rattle.script_laws.specs.of_meaning.Births.{numbered}
use Rattle.event_log.specs.Entries.{Attempt, Commit, Entry, In, Born, Printed, Ended, main_attempt}
use Rattle.event_log.specs.Words.{births, next_serial, own_births, worker_of, printed_by}
use Rattle.event_log.specs.Events.{refused_next, worker_of_job, is_committed, is_live}
use Rattle.event_log.specs.Rules.{Setting, Replays}
use Rattle.event_log.specs.Legal.{has_event, outcome_in, EachAllowed}
use Rattle.event_log.specs.Laws.{MayAdd}

-- the births, which take ids from `next` on, then the prints, then the end if there is one
abbrev pub commit_entries : Attempt → Id → List Birth → List Value → Stop → List Entry
commit_entries a next (b ∷ bs) vs stop = Born next a b ∷ commit_entries a (behind next b) bs vs stop
commit_entries a next [] (v ∷ vs) stop = Printed v ∷ commit_entries a next [] vs stop
commit_entries a next [] [] (Over cs) = Ended a cs ∷ []
commit_entries a next [] [] (Needs r) = []

-- what is left to log of an attempt: its births and prints so far, followed by the new ones, are those of its replay
pub record IsLeft (s : Setting) (log : List Entry) (a : Attempt) (base next : Id) (p : Piece) (news : List Birth) (vs : List Value) : Type 0 where
  pub replays : Replays s log a base p
  pub fresh : next.serial ≡ next_serial next.owner (births log)
  pub own : own_births a log ++ numbered next news ≡ numbered base p.births
  pub prints : printed_by a log ++ vs ≡ p.prints
  pub of_main : (vs ≡ []) ⊎ (a ≡ main_attempt)

-- the job was given to the attempt's worker, which lives and owns what is born, and wasn't committed
pub record MayCommit (log : List Entry) (j : ℕ) (a : Attempt) (next : Id) : Type 0 where
  pub claimed : worker_of_job j log ≡ Some next.owner
  pub once : is_committed j log ≡ false
  pub lives : is_live next.owner log ≡ true
  pub runs : worker_of a log ≡ Some next.owner

-- entries of the same event that are no outcome of a job
pub record IsBeside (s : Setting) (before es : List Entry) : Type 0 where
  pub no_event : has_event es ≡ false
  pub unrefused : refused_next es ≡ false
  pub no_outcome : flat_map outcome_in es ≡ []
  pub each : EachAllowed s before es

-- a commit may add what is left to log of its job's attempt, and other entries behind it
abbrev pub LawOfCommits : Type 0
LawOfCommits =
    (s : Setting) (log : List Entry) (j seat : ℕ) (a : Attempt) (base next : Id) (p : Piece) (news : List Birth) (vs : List Value) (more : List Entry) →
    MayCommit log j a next → IsLeft s log a base next p news vs →
    IsBeside s (log ++ In (Commit j) seat ∷ commit_entries a next news vs p.stop) more →
    MayAdd s log (Commit j) seat (commit_entries a next news vs p.stop ++ more)
