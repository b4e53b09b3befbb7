-- The log counts what there is, and an event is refused 37 exactly where it would lead past a limit of these counts.
use Rattle.std.specs.Prelude.{◌≡◌, ◌<◌, ◌≤◌, ◌⊎◌, ℕ, ◌+◌, true, false, length, None}
use Rattle.event_log.specs.Causes.{shown}
use Rattle.event_log.specs.Entries.{Join}
use Rattle.event_log.specs.Entries.{Refusal, Limit}
use Rattle.event_log.specs.Rules.{Setting}
use Rattle.meaning.specs.Mains.{KeepsMainApart}
pub use Rattle.owed_laws.specs.Law.{AnswerPays, IsReached}
use Rattle.protocol.specs.Answers.{Refuses, Step, Takes}
use Rattle.protocol.specs.Refusals.{is_of_job, refusal}
use Rattle.owed_laws.specs.of_protocol_legal.Whole.{setting_of}
use Rattle.protocol_owed.specs.Runs.{Handing, Running, after_event, answer_to}
use Rattle.count_laws.specs.Counts.{Counts, behind, borne, counted, is_within, would_open}

-- the tables have as many nodes and workers as the log, and count as many objects
pub record AreCounted (s : Setting) (r : Running) : Type 0 where
  pub nodes : length r.whole.nodes ≡ (counted s r.log).nodes
  pub workers : length r.whole.workers ≡ (counted s r.log).workers
  pub objects : r.whole.made ≡ (counted s r.log).objects

-- log and network show no cause to refuse the event, and there would be more behind it than a limit
pub record PassesLimit (s : Setting) (r : Running) (g : Handing) : Type 0 where
  pub unshown : shown (setting_of s r.whole) r.log (is_of_job g.handed) g.event ≡ None
  pub beyond : is_within (behind (counted s r.log) r.whole g.event g.handed) ≡ false

-- by the log alone: it has 64 nodes, and one would join; or it has 1,024 workers; or more than 1,000,000 objects with those that the event bears
abbrev pub IsFull : Counts → Handing → Type 0
IsFull n g = ((g.event ≡ Join) × (n.nodes ≡ 64)) ⊎ (n.workers ≡ 1024) ⊎ (1000000 < n.objects + borne g.event g.handed)

-- one event
pub record IsLimited (s : Setting) (r : Running) (g : Handing) : Type 0 where
  -- it is refused 37 exactly where it would pass a limit
  pub refused : answer_to r g ≡ Refuses Limit → PassesLimit s r g
  pub passes : PassesLimit s r g → answer_to r g ≡ Refuses Limit
  -- by the log alone: only where that is full; a join exactly where there are 64 nodes; and always what bears too many objects, unless for another cause
  pub full : answer_to r g ≡ Refuses Limit → IsFull (counted s r.log) g
  pub joins : g.event ≡ Join → answer_to r g ≡ Refuses Limit → (counted s r.log).nodes ≡ 64
  pub no_join : g.event ≡ Join → (counted s r.log).nodes ≡ 64 → answer_to r g ≡ Refuses Limit
  pub no_births : shown (setting_of s r.whole) r.log (is_of_job g.handed) g.event ≡ None → 1000000 < (counted s r.log).objects + borne g.event g.handed →
      answer_to r g ≡ Refuses Limit
  -- where log and tables show no cause, so that it is tried: with those that it would open there are 1,025 workers at most, and so is each one's number
  pub numbers : refusal r.whole g.event g.handed ≡ None → (counted s r.log).workers + would_open r.whole g.event g.handed ≤ 1025
  -- behind it there are as many as there would be, if it is accepted, with one worker more at most; else as many as before
  pub accepted : (step : Step) → answer_to r g ≡ Takes step → counted s (after_event r g).log ≡ behind (counted s r.log) r.whole g.event g.handed
  pub one_opens : (step : Step) → answer_to r g ≡ Takes step → would_open r.whole g.event g.handed ≤ 1
  pub otherwise : (code : Refusal) → answer_to r g ≡ Refuses code → counted s (after_event r g).log ≡ counted s r.log
  -- which is within the limits
  pub within : is_within (counted s (after_event r g).log) ≡ true

-- in every run that was reached by commits of what replays do
abbrev pub RunsAreCounted : Type 0
RunsAreCounted = (s : Setting) (slots : ℕ) → 0 < s.nodes → KeepsMainApart s.script → (r : Running) → IsReached s slots r → AreCounted s r

-- in one that began with at most 64 nodes, there are no more than the limits, and each event is answered so
abbrev pub RunsAreWithin : Type 0
RunsAreWithin =
    (s : Setting) (slots : ℕ) → 0 < s.nodes → s.nodes ≤ 64 → KeepsMainApart s.script → (r : Running) → IsReached s slots r → is_within (counted s r.log) ≡ true

abbrev pub EventsAreLimited : Type 0
EventsAreLimited =
    (s : Setting) (slots : ℕ) → 0 < s.nodes → s.nodes ≤ 64 → KeepsMainApart s.script → (r : Running) → IsReached s slots r → (g : Handing) → IsLimited s r g
