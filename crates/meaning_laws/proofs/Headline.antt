-- Main begins the serial run, and its faults have their causes.
use Rattle.std.proofs.Common.{◌≡◌, ℕ, zero, suc, Bool, true, false, List, [], ◌∷◌, ◌++◌, Some, refl, ap, subst}
use Rattle.std.specs.Prelude.{if◌then◌else◌, slice_get}
use Rattle.event_log.specs.Entries.{Attempt, Entry, Faulted, main_attempt}
use Rattle.event_log.specs.Words.{same_attempt, Lack, faults_of}
use Rattle.event_log.specs.Serial.{IsCaused}
use Rattle.event_log.proofs.WordLaws.{same_attempt-true}
use Rattle.event_log.specs.Laws.{FaultsHaveCauses}
use Rattle.event_log.proofs.Causes.{legal_faults_have_causes}
use Rattle.meaning_laws.specs.Law.{MainBeginsTheSerialRun}
use Rattle.meaning_laws.proofs.LogLaw.{legal_logs_read}

-- the entry of an attempt's fault, between what stands before it and what stands behind it
record Place (a : Attempt) (log : List Entry) (x : Lack) : Type 0 where
  before : List Entry
  after : List Entry
  parts : log ≡ before ++ Faulted a x.object x.fault ∷ after

further : (a : Attempt) (y : Entry) (log : List Entry) (x : Lack) → Place a log x → Place a (y ∷ log) x
further a y log x p = record { before = y ∷ p.before; after = p.after; parts = ap (λ l. y ∷ l) p.parts }

at_or_later : (t : Bool) (l : Lack) (ls : List Lack) (k : ℕ) (x : Lack) (R : Type 0) → slice_get ((if t then l ∷ [] else []) ++ ls) k ≡ Some x → (t ≡ true → l ≡ x → R) → ((j : ℕ) → slice_get ls j ≡ Some x → R) → R
at_or_later true l ls zero x R e here later = here refl (cc)
at_or_later true l ls (suc k) x R e here later = later k e
at_or_later false l ls k x R e here later = later k e

place_of : (a : Attempt) (log : List Entry) (k : ℕ) (x : Lack) → slice_get (faults_of a log) k ≡ Some x → Place a log x
place_of a [] k x e = absurd (cc)
place_of a (Faulted b y f ∷ log) k x e =
    at_or_later (same_attempt b a) (record { object = y; fault = f }) (faults_of a log) k x (Place a (Faulted b y f ∷ log) x) e
    (λ t h. subst (λ (l : Lack). Place a (Faulted b y f ∷ log) l) h (record { before = []; after = log; parts = ap (λ c. Faulted c y f ∷ log) (same_attempt-true b a t) }))
    (λ j h. further a (Faulted b y f) log x (place_of a log j x h))
place_of a (y ∷ log) k x e = further a y log x (place_of a log k x e)

caused : (log : List Entry) (x : Lack) → FaultsHaveCauses log → Place main_attempt log x → IsCaused log x
caused log x h p = record { before = p.before; after = p.after; parts = p.parts; cause = h.faulted p.before main_attempt x.object x.fault p.after p.parts }

pub main_begins : MainBeginsTheSerialRun
main_begins s log h = record {
  begins = (legal_logs_read s log h).main;
  faults = λ k x e. caused log x (legal_faults_have_causes s log h) (place_of main_attempt log k x e);
}
