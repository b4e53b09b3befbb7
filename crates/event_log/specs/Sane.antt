-- What follows of every legal log.
use Rattle.std.specs.Prelude.{◌≡◌, ℕ, ◌+◌, ◌<◌, ◌≤◌, List, length, slice_get, Some}
use Rattle.script_laws.specs.of_meaning.Values.{Outcome, Id}
use Rattle.script_laws.specs.of_meaning.Births.{AreGrouped, IsFirstOf}
use Rattle.script_laws.specs.of_meaning.Readings.{IsBorn}
use Rattle.event_log.specs.Entries.{Attempt, Entry, main_attempt}
use Rattle.event_log.specs.Words.{births, next_serial, runs_of, worker_of, ends_of, Lack, faults_of, accepts_of, resolves_of, releases_of}
use Rattle.event_log.specs.Events.{node_of}
use Rattle.event_log.specs.Breaks.{Among}
use Rattle.event_log.specs.Rules.{Setting}
use Rattle.event_log.specs.Legal.{Legal}

pub record Sane (log : List Entry) : Type 0 where
  -- worker 1 is on node 1 and runs main
  pub driver : node_of 1 log ≡ Some 1
  pub main : worker_of main_attempt log ≡ Some 1
  -- an object's serial is below the one that its owner gives next
  pub serials : (o : Id) → IsBorn (births log) o → o.serial < next_serial o.owner (births log)
  -- the birth of each object stands at its first object
  pub grouped : AreGrouped (births log)
  -- what was begun was born, and its worker was opened
  pub born : (o : Id) (k w : ℕ) → slice_get (runs_of o log) k ≡ Some w → IsFirstOf (births log) o
  pub opened : (o : Id) (k w : ℕ) → slice_get (runs_of o log) k ≡ Some w → (n : ℕ) × (node_of w log ≡ Some n)
  -- what ended or has a fault was begun
  pub ended : (a : Attempt) (k : ℕ) (cs : List Outcome) → slice_get (ends_of a log) k ≡ Some cs → (w : ℕ) × (worker_of a log ≡ Some w)
  pub faulted : (a : Attempt) (k : ℕ) (x : Lack) → slice_get (faults_of a log) k ≡ Some x → (w : ℕ) × (worker_of a log ≡ Some w)
  -- what was accepted has ended
  pub accepted : (a : Attempt) (k : ℕ) (b : Attempt) → slice_get (accepts_of a log) k ≡ Some b → (cs : List Outcome) × Among cs (ends_of a log)
  -- an attempt ends or has a fault at most once, and each of these comes at most once
  pub one_end : (a : Attempt) → length (ends_of a log) + length (faults_of a log) ≤ 1
  pub one_acceptance : (a : Attempt) → length (accepts_of a log) ≤ 1
  pub one_resolution : (o : Id) → length (resolves_of o log) ≤ 1
  pub one_release : (o : Id) → length (releases_of o log) ≤ 1

abbrev pub LegalLogsAreSane : Type 0
LegalLogsAreSane = (s : Setting) (log : List Entry) → Legal s log → Sane log
