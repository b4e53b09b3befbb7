-- What the claim of a job may log: that an attempt is accepted, and the answer for which the worker's attempt waits.
use Rattle.std.specs.Prelude.{◌≡◌, ℕ, true, false, List, [], ◌∷◌, Some}
use Rattle.script_laws.specs.of_meaning.Values.{Outcome, Id, Named}
use Rattle.script_laws.specs.of_meaning.Runs.{Needs}
use Rattle.script_laws.specs.of_meaning.Births.{same_id}
use Rattle.event_log.specs.Entries.{Attempt, Claim, Entry, Got, Accepted, main_object}
use Rattle.event_log.specs.Words.{worker_of, ends_of, accepts_of}
use Rattle.event_log.specs.Events.{has_job_out, is_live, was_told}
use Rattle.event_log.specs.Breaks.{Among}
use Rattle.event_log.specs.Rules.{Setting, Stops, HasContent, IsLast, IsUnresolved, AreUnspent}
use Rattle.event_log.specs.Laws.{MayAdd}

-- the worker lives and runs the attempt, which needs the object, whose content this is; it wasn't told that its owner is dead
pub record CanGet (s : Setting) (log : List Entry) (w : ℕ) (a : Attempt) (y : Id) (c : Outcome) : Type 0 where
  pub runs : worker_of a log ≡ Some w
  pub needs : Stops s log a (Needs (Named y))
  pub content : HasContent log y c
  pub untold : was_told w y.owner log ≡ false

-- the attempt of an object of the worker, not main's, has ended, is the last one, and its end isn't known yet
pub record CanAccept (log : List Entry) (w : ℕ) (b : Attempt) : Type 0 where
  pub owner : b.object.owner ≡ w
  pub not_main : same_id b.object main_object ≡ false
  pub contents : List Outcome
  pub ended : Among contents (ends_of b log)
  pub last : IsLast log b
  pub unresolved : IsUnresolved log b.object
  pub unspent : AreUnspent log b.object
  pub once : accepts_of b log ≡ []

-- the claim of a live worker of which no job is out may stand alone, with an answer, or with what is accepted and an answer
pub record ClaimsMayAdd (s : Setting) (log : List Entry) (w seat : ℕ) : Type 0 where
  pub alone : MayAdd s log (Claim w) seat []
  pub got : (a : Attempt) (y : Id) (c : Outcome) → CanGet s log w a y c → MayAdd s log (Claim w) seat (Got a y c ∷ [])
  pub accepted :
      (b a : Attempt) (y : Id) (c : Outcome) → CanAccept log w b → CanGet s log w a y c → MayAdd s log (Claim w) seat (Accepted b ∷ Got a y c ∷ [])

abbrev pub LawOfClaims : Type 0
LawOfClaims = (s : Setting) (log : List Entry) (w seat : ℕ) → is_live w log ≡ true → has_job_out w log ≡ false → ClaimsMayAdd s log w seat
