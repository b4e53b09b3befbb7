-- A replay that comes to its end, or to a stop that isn't for want of memory, found memory for each event, and so did a run that was driven so.
use Rattle.std.proofs.Common.{◌≡◌, ◌∙◌, ℕ, zero, suc, true, false, List, [], ◌∷◌, Option, Some, None, inl, inr, refl, sym, ap, subst, take}
use Rattle.std.proofs.lemmas.Bool.{true≢false}
use Rattle.meaning.specs.Syntax.{Script}
use Rattle.segment.specs.Jobs.{Done, JobParts}
use Rattle.event_log.specs.Entries.{Commit, Event}
use Rattle.log_entries.specs.declared.refusal.Refusal.{Refusal}
use Rattle.log_entries.specs.declared.refusal.Refusal.TheVariants as refusals
use Rattle.event_files.specs.declared.line.Line.{Line}
use Rattle.event_files.specs.declared.line.Line.TheVariants as lines
use Rattle.event_files.specs.declared.event_file.EventFile.{EventFile}
use Rattle.event_files.specs.declared.event_file.EventFile.TheVariants as files
use Rattle.event_files.specs.declared.recorded.RecordedEvent.{RecordedEvent}
use Rattle.fault_runs.specs.of_protocol_board.Cores.{Accepts, Follows, GivesJob, Refuses, Reply, RunState, Size}
use Rattle.fault_runs.specs.of_protocol_board.Replays.{AllPlay, EventPlays, EventStops, FileStops, LinePlays, LineStops, OneStops, Play, PlaysFile, Settles, SettleStops}
use Rattle.fault_runs.specs.of_protocol_board.Replays.{Step, StopsAt, found_no_memory, is_no_memory, next_line}
use Rattle.fault_runs.specs.of_protocol_board.declared.stopped.ReplayStop.{ReplayStop}
use Rattle.fault_runs.specs.of_protocol_board.declared.stopped.ReplayStop.TheVariants as stops
use Rattle.fault_runs.specs.of_protocol_board.Drives.{BreaksAfter, BreaksOff, Course, EndsSo, Goes, IsTaken, StopsSo, Turn, Turns}
use Rattle.run_commands.specs.SimReports.{first_play}
use Rattle.run_commands.specs.RunReports.{first_run}
use Rattle.run_commands.specs.SoFar.{IsDriven, IsPlayed, replay_lacks_memory}

-- each event so far found memory
abbrev FoundMemory : RunState → Type 0
FoundMemory r = r.is_halted ≡ false

-- ---- a replay

behind_answer : (before after : RunState) (e : Event) (seat : ℕ) (done : Option Done) (told : Reply) → found_no_memory told ≡ false →
    Follows before e seat done after told → FoundMemory after
behind_answer before after e seat ran told memory (inl out) = absurd (true≢false (sym (ap found_no_memory out.told_so) ∙ memory))
behind_answer before after e seat ran told memory (inr (handed, is_handed, is)) = is.goes_on

behind_step : (script : Script) (before after : Play) (e : Event) (seat : ℕ) → Step script before e seat after → FoundMemory before.run → FoundMemory after.run
behind_step script before after e seat s h =
    let a = s.answered in
    behind_answer before.run after.run e seat a.0 s.told s.goes_on (a.2.follows h)

behind_settle : (script : Script) (but : List ℕ) (n : ℕ) (before after : Play) → Settles script but n before after → FoundMemory before.run →
    FoundMemory after.run
unfolding Settles
behind_settle script but zero before after same h = subst (λ (p : Play). FoundMemory p.run) (sym same) h
behind_settle script but (suc n) before after (between, e, settled, is_next, s) h =
    behind_step script between after e 0 s (behind_settle script but n before between settled h)

behind_line : (script : Script) (line : Line) (before after : Play) → LinePlays script line before after → FoundMemory before.run → FoundMemory after.run
behind_line script (lines.Event e) before after s h = behind_step script (next_line before) after e 0 s h
behind_line script (lines.Settle workers) before after (n, settled, rests) h = behind_settle script workers n (next_line before) after settled h

behind_event : (script : Script) (r : RecordedEvent) (before after : Play) → EventPlays script r before after → FoundMemory before.run → FoundMemory after.run
behind_event script r before after (s, given) h = behind_step script (next_line before) after r.event r.seat s h

behind_all : {A : Type 0} (plays : A → Play → Play → Type 0) →
    ((x : A) (before after : Play) → plays x before after → FoundMemory before.run → FoundMemory after.run) → (xs : List A) (before after : Play) →
    AllPlay plays xs before after → FoundMemory before.run → FoundMemory after.run
unfolding AllPlay
behind_all plays one [] before after same h = subst (λ (p : Play). FoundMemory p.run) (sym same) h
behind_all plays one (x ∷ xs) before after (between, here, rest) h = behind_all plays one xs between after rest (one x before between here h)

pub replay_goes_on : (script : Script) (says : EventFile) (size : Size) (after : Play) → PlaysFile script says (first_play size) after → FoundMemory after.run
replay_goes_on script (files.Lines lines) size after plays = behind_all (LinePlays script) (behind_line script) lines (first_play size) after plays refl
replay_goes_on script (files.Recorded events) size after plays = behind_all (EventPlays script) (behind_event script) events (first_play size) after plays refl

-- ---- a replay that stops, but not for want of memory

stop_at : (script : Script) (before after : Play) (e : Event) (seat : ℕ) (stopped : ReplayStop) → replay_lacks_memory stopped ≡ false →
    StopsAt script before e seat after stopped → FoundMemory before.run → FoundMemory after.run
stop_at script before after e seat stops.NoMemory other s h = absurd (true≢false other)
stop_at script before after e seat stops.TooLong other (same, full) h = subst (λ (p : Play). FoundMemory p.run) (sym same) h
stop_at script before after e seat stops.WrongJob other s h = absurd s

stop_in_line : (script : Script) (stopped : ReplayStop) → replay_lacks_memory stopped ≡ false → (line : Line) (before after : Play) →
    LineStops script line before after stopped → FoundMemory before.run → FoundMemory after.run
stop_in_line script stopped other (lines.Event e) before after s h = stop_at script (next_line before) after e 0 stopped other s h
stop_in_line script stopped other (lines.Settle workers) before after (n, between, e, settled, is_next, s) h =
    stop_at script between after e 0 stopped other s (behind_settle script workers n (next_line before) between settled h)

stop_in_event : (script : Script) (stopped : ReplayStop) → replay_lacks_memory stopped ≡ false → (r : RecordedEvent) (before after : Play) →
    EventStops script r before after stopped → FoundMemory before.run → FoundMemory after.run
stop_in_event script stops.NoMemory other r before after s h = absurd (true≢false other)
stop_in_event script stops.TooLong other r before after s h = stop_at script (next_line before) after r.event r.seat stops.TooLong other s h
stop_in_event script stops.WrongJob other r before after (given, gives, differs) h =
    behind_step script (next_line before) after r.event r.seat gives.0 h

stop_in_one : {A : Type 0} (plays : A → Play → Play → Type 0) (stop : A → Play → Play → ReplayStop → Type 0) (stopped : ReplayStop) →
    ((x : A) (before after : Play) → plays x before after → FoundMemory before.run → FoundMemory after.run) →
    ((x : A) (before after : Play) → stop x before after stopped → FoundMemory before.run → FoundMemory after.run) →
    (xs : List A) (before after : Play) → OneStops plays stop xs before after stopped → FoundMemory before.run → FoundMemory after.run
stop_in_one plays stop stopped one last xs before after (n, x, between, is_there, played, s) h =
    last x between after s (behind_all plays one (take n xs) before between played h)

stop_goes_on : (script : Script) (says : EventFile) (size : Size) (after : Play) (stopped : ReplayStop) → replay_lacks_memory stopped ≡ false →
    FileStops script says (first_play size) after stopped → FoundMemory after.run
stop_goes_on script (files.Lines lines) size after stopped other s =
    stop_in_one (LinePlays script) (LineStops script) stopped (behind_line script) (stop_in_line script stopped other) lines (first_play size) after s refl
stop_goes_on script (files.Recorded events) size after stopped other s =
    stop_in_one (EventPlays script) (EventStops script) stopped (behind_event script) (stop_in_event script stopped other) events (first_play size) after s refl

pub played_goes_on : (script : Script) (says : EventFile) (size : Size) (after : Play) → IsPlayed script says (first_play size) after → FoundMemory after.run
played_goes_on script says size after (inl plays) = replay_goes_on script says size after plays
played_goes_on script says size after (inr (stopped, other, s)) = stop_goes_on script says size after stopped other s

-- ---- a run that is driven

-- what is taken found memory
taken_finds : (told : Reply) → IsTaken told → found_no_memory told ≡ false
taken_finds Accepts taken = refl
taken_finds (GivesJob job) taken = refl
taken_finds _ taken = absurd taken

behind_going : (before after : Course) (e : Event) (done : Option Done) (told : Reply) → Goes before e done after told → IsTaken told → FoundMemory before.run →
    FoundMemory after.run
behind_going before after e done told goes taken h =
    behind_answer before.run after.run e 0 done told (taken_finds told taken) (goes.answers.follows h)

behind_turn : (script : Script) (before after : Course) (e : Event) → Turn script before e after → FoundMemory before.run → FoundMemory after.run
behind_turn script before after e (inl goes) h = behind_going before after e None Accepts goes tt h
behind_turn script before after e (inr (claimed, job, goes, commits)) h =
    behind_going claimed after (Commit job.number) (Some commits.work) commits.told commits.goes commits.taken
    (behind_going before claimed e None (GivesJob job) goes tt h)

behind_turns : (script : Script) (n : ℕ) (before after : Course) → Turns script n before after → FoundMemory before.run → FoundMemory after.run
unfolding Turns
behind_turns script zero before after same h = subst (λ (c : Course). FoundMemory c.run) (sym same) h
behind_turns script (suc n) before after (between, e, turned, is_next, turn) h =
    behind_turn script between after e turn (behind_turns script n before between turned h)

pub run_goes_on : (script : Script) (size : Size) (after : Course) → EndsSo script (first_run size) after → FoundMemory after.run
run_goes_on script size after (n, turned, rests) = behind_turns script n (first_run size) after turned refl

-- ---- a run that stops, but not for want of memory

other_refusal : (refusal : Refusal) → refusal ≡ refusals.NoMemory → is_no_memory refusal ≡ false → ⊥
other_refusal refusal same other = true≢false (sym (ap is_no_memory same) ∙ other)

behind_refusal : (before after : Course) (e : Event) (done : Option Done) (refusal : Refusal) → is_no_memory refusal ≡ false →
    Goes before e done after (Refuses refusal) → FoundMemory before.run → FoundMemory after.run
behind_refusal before after e done refusal other goes h =
    behind_answer before.run after.run e 0 done (Refuses refusal) other (goes.answers.follows h)

break_after : (script : Script) (claimed after : Course) (job : JobParts) (refusal : Refusal) → is_no_memory refusal ≡ false →
    BreaksAfter script claimed job after refusal → FoundMemory claimed.run → FoundMemory after.run
break_after script claimed after job refusal other (inl (same, lacking)) h = absurd (other_refusal refusal lacking other)
break_after script claimed after job refusal other (inr (work, own, is_true, goes)) h =
    behind_refusal claimed after (Commit job.number) (Some work) refusal other goes h

break_off : (script : Script) (before after : Course) (e : Event) (refusal : Refusal) → is_no_memory refusal ≡ false →
    BreaksOff script before e after refusal → FoundMemory before.run → FoundMemory after.run
break_off script before after e refusal other (inl (same, lacking)) h = absurd (other_refusal refusal lacking other)
break_off script before after e refusal other (inr (inl goes)) h = behind_refusal before after e None refusal other goes h
break_off script before after e refusal other (inr (inr (claimed, job, goes, breaks))) h =
    break_after script claimed after job refusal other breaks (behind_going before claimed e None (GivesJob job) goes tt h)

run_stop_goes_on : (script : Script) (size : Size) (after : Course) (refusal : Refusal) → is_no_memory refusal ≡ false →
    StopsSo script (first_run size) after refusal → FoundMemory after.run
run_stop_goes_on script size after refusal other (n, between, e, turned, is_next, breaks) =
    break_off script between after e refusal other breaks (behind_turns script n (first_run size) between turned refl)

pub driven_goes_on : (script : Script) (size : Size) (after : Course) → IsDriven script (first_run size) after → FoundMemory after.run
driven_goes_on script size after (inl ended) = run_goes_on script size after ended
driven_goes_on script size after (inr (refusal, other, s)) = run_stop_goes_on script size after refusal other s
