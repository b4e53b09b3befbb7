-- What `migrate` reads, refuses and writes.
use Rattle.std.proofs.Common.{◌≡◌, ◌≢◌, ◌⊎◌, ◌∙◌, ◌++◌, ℕ, Bool, true, false, List, [], ◌∷◌, Option, None, Some, inl, inr, refl, ap, sym, subst, take, codes}
use Rattle.std.specs.Prelude.{IfSome, ◌==◌}
use Rattle.std.specs.Io.KnownBytes.{Appends}
use Rattle.meaning.specs.Syntax.{Script}
use Rattle.log_entries.specs.Texts.{event_text}
use Rattle.event_log.specs.Entries.{Entry}
use Rattle.log_entries.specs.declared.event.Event.{Event}
use Rattle.log_entries.specs.declared.event.Event.TheVariants as events
use Rattle.event_files.specs.Files.{IsBadAt, IsRow, Passed, Row, Said, is_passed, row_text}
use Rattle.event_files.specs.Lines.{IsLine, line_text}
use Rattle.event_files.specs.Numbering.{line_numbers}
use Rattle.event_files.specs.Recorded.{IsEventFile, header, recorded_file}
use Rattle.event_files.specs.declared.event_file.EventFile.TheVariants as files
use Rattle.event_files.specs.declared.line.Line.{Line}
use Rattle.event_files.specs.declared.line.Line.TheVariants as lines
use Rattle.event_files.specs.LogHistory.{AreSeated, recorded_in}
use Rattle.replay_laws.proofs.of_migration.Alike.{migrated_is_same}
use Rattle.replay_laws.proofs.of_migration.Migrating.{histories_replay}
use Rattle.replay_laws.specs.of_migration.Migration.{Begins}
use Rattle.run_commands.specs.of_protocol_board.Cores.{Size}
use Rattle.run_commands.specs.of_protocol_board.Cores.{IsSoundLog}
use Rattle.run_commands.specs.of_protocol_board.Replays.{LineStops, Play, PlayStops, Plays}
use Rattle.run_commands.specs.of_protocol_board.declared.stopped.ReplayStop.TheVariants as stops
use Rattle.raysim_streams.specs.Settled.{IsOfWriting}
use Rattle.raysim_streams.specs.declared.Failure.{Failure}
use Rattle.raysim_streams.specs.declared.Failure.TheVariants.{Read, Write, Closed}
use Rattle.raysim_streams.specs.declared.CommandRefusal.{CommandRefusal}
use Rattle.raysim_streams.specs.declared.CommandRefusal.TheVariants.{At, NoMemory, Stopped, BadLine, WrongJob, Failed}
use Rattle.run_commands.proofs.Lasting.{replay_goes_on}
use Rattle.raysim_commands.proofs.Seated.{played_from_0}
use Rattle.raysim_commands.specs.Migrations.{ExplainsLines, ExplainsMigration, IsHistoryOf, IsLinesFile, IsLinesStop, IsMigrated, IsMigrationBegun}
use Rattle.script_commands.specs.Scripts.{Counts, Explains, FailedIn, IsAllowed, IsScript}
use Rattle.run_commands.specs.SimReports.{IfBoth, first_play}

-- ---- no line of format 1 says which job a claim gives

no_wrong_job_in : (script : Script) (line : Line) (before after : Play) → LineStops script line before after stops.WrongJob → ⊥
no_wrong_job_in script (lines.Event e) before after h = h
no_wrong_job_in script (lines.Settle workers) before after (n, between, e, settles, comes, stop) = stop

pub no_wrong_job : (script : Script) (lines : List Line) (before after : Play) → PlayStops script lines before after stops.WrongJob → ⊥
no_wrong_job script lines before after (n, line, between, stands, plays, stop) = no_wrong_job_in script line between after stop

-- ---- the first line of format 2 is none of format 1

abbrev first : List ℕ
first = codes "raysim 2"

-- no line of format 1 begins with its first envelope
begins_with_r : List ℕ → Bool
begins_with_r [] = false
begins_with_r (b ∷ rest) = b == 114

no_event : (e : Event) → begins_with_r (event_text e) ≡ false
unfolding begins_with_r
no_event (events.Claim w) = refl
no_event (events.Commit j) = refl
no_event (events.Deliver m) = refl
no_event (events.Tick w) = refl
no_event (events.Notice w v) = refl
no_event (events.NoticeNode w n) = refl
no_event (events.Evict n o) = refl
no_event (events.Lose n o) = refl
no_event (events.Kill w) = refl
no_event (events.KillNode n) = refl
no_event events.Join = refl

no_line : (l : Line) → begins_with_r (line_text l) ≡ false
unfolding begins_with_r
no_line (lines.Event e) = no_event e
no_line (lines.Settle []) = refl
no_line (lines.Settle (w ∷ ws)) = refl

so_it_begins : begins_with_r first ≡ true
unfolding begins_with_r
so_it_begins = refl

no_row : (r : Row Line) → IsRow IsLine r → row_text line_text r ≢ first
no_row (Passed bytes) h e = let f : is_passed bytes ≡ false = ap is_passed e in let g = h.0 in absurd (cc)
no_row (Said l) h e = let f : true ≡ false = sym so_it_begins ∙ ap begins_with_r (sym e) ∙ no_line l in absurd (cc)

-- one line is the first that is none of the format
abbrev pub OneIsBad : Type 0
OneIsBad = (bytes : List ℕ) (m n : ℕ) → IsBadAt IsLine line_text bytes m → IsBadAt IsLine line_text bytes n → m ≡ n

-- so it is the first line of such a file that is none
first_is_bad : OneIsBad → (bytes : List ℕ) (n : ℕ) → IsBadAt IsLine line_text bytes n → (rest : List ℕ) → bytes ≡ header ++ rest → n ≡ 1
first_is_bad one bytes n h rest e =
    one bytes n 1 h (record {
      rows = [];
      line = first;
      rest = 10 ∷ rest;
      are_rows = tt;
      written = e;
      place = refl;
      in_a_line = refl;
      is_bad = (refl, no_row);
    })

-- ---- what is written

-- the replay's history
pub history_so : (script named : Script) (size : Size) (lines : List Line) (first after : Play) (log : List Entry) (text : List ℕ) →
    script ≡ named → first ≡ first_play size → Plays named lines first after → IsSoundLog named after.run → log ≡ after.run.log →
    text ≡ recorded_file (recorded_in log) → (AreSeated log → IsEventFile text (files.Recorded (recorded_in log))) → IsHistoryOf script size lines text
history_so script named size lines first after log text own begins plays meant of_log written reads =
    let played = subst (λ s. Plays s lines (first_play size) after) (sym own) (subst (λ p. Plays named lines p after) begins plays) in
    let sound = subst (λ s. IsSoundLog s after.run) (sym own) meant in
    let start : Begins (first_play size) = record { log = refl; jobs = refl; goes_on = refl } in
    let h = histories_replay script lines (first_play size) after log start played of_log in
    record {
      play = after;
      replayed = record { plays = played; goes_on = replay_goes_on script (files.Lines lines) size after played; meant = sound };
      log = log;
      of_log = of_log;
      written = written;
      is_file = reads (subst AreSeated (sym of_log) (played_from_0 script lines size after played));
      again = h.0;
      replays = h.1;
      same = λ other p. migrated_is_same script lines (first_play size) after other log start played of_log p;
    }

-- the replay stops before an event more than it may apply
pub too_long_so : (script named : Script) (size : Size) (lines : List Line) (begun first after : Play) → script ≡ named → begun ≡ first → first ≡ first_play size →
    PlayStops named lines begun after stops.TooLong → PlayStops script lines (first_play size) after stops.TooLong
too_long_so script named size lines begun first after own same begins stop =
    subst (λ s. PlayStops s lines (first_play size) after stops.TooLong) (sym own) (subst (λ p. PlayStops named lines p after stops.TooLong) (same ∙ begins) stop)

-- all of it was written, where what was read is known
pub migrated_so : (size : Size) (known events : Option (List ℕ)) (script : Script) (lines : List Line) (history bytes : List ℕ)
    (before after : Option (List ℕ)) → IfSome known (λ t. IsScript t script) → IfSome events (λ e. IsLinesFile e lines) →
    IsHistoryOf script size lines history → bytes ≡ history → Appends before after bytes → IfBoth known events (λ t e. IsMigrated size t e before after)
migrated_so size None events script lines history bytes before after is ls h written a = tt
migrated_so size (Some t) None script lines history bytes before after is ls h written a = tt
migrated_so size (Some t) (Some e) script lines history bytes before after is ls h written a = record {
  script = script;
  lines = lines;
  history = history;
  is_script = is;
  are_lines = ls;
  migrated = h;
  written = subst (λ l. Appends before after l) written a;
}

-- a beginning of it was
pub migration_begun_so : (size : Size) (known events : Option (List ℕ)) (script : Script) (lines : List Line) (history bytes : List ℕ)
    (before after : Option (List ℕ)) → IfSome known (λ t. IsScript t script) → IfSome events (λ e. IsLinesFile e lines) →
    IsHistoryOf script size lines history → bytes ≡ history → (k : ℕ) × Appends before after (take k bytes) →
    IfBoth known events (λ t e. (after ≡ before) ⊎ IsMigrationBegun size t e before after)
migration_begun_so size None events script lines history bytes before after is ls h written a = tt
migration_begun_so size (Some t) None script lines history bytes before after is ls h written a = tt
migration_begun_so size (Some t) (Some e) script lines history bytes before after is ls h written (k, a) = inr (record {
  script = script;
  lines = lines;
  history = history;
  is_script = is;
  are_lines = ls;
  migrated = h;
  count = k;
  written = subst (λ l. Appends before after (take k l)) written a;
})

-- ---- why nothing is

-- a script is refused for the other commands' causes
pub explains_no_script : (size : Size) (known events : Option (List ℕ)) (a b w : Counts) (r : CommandRefusal) → Explains known a w r →
    ExplainsMigration size known events a b w r
explains_no_script size known events a b w (At code span) h = h
explains_no_script size known events a b w NoMemory h = tt
explains_no_script size known events a b w (Stopped code) h = absurd h
explains_no_script size known events a b w (BadLine line) h = absurd h
explains_no_script size known events a b w (WrongJob line) h = absurd h
explains_no_script size known events a b w (Failed Read) h = inl h
explains_no_script size known events a b w (Failed Write) h = h
explains_no_script size known events a b w (Failed Closed) h = h

-- what was read is a script that the rules allow, where it is known
allowed : (known : Option (List ℕ)) (script : Script) → IfSome known (λ t. IsScript t script) → IfSome known IsAllowed
allowed None script is = tt
allowed (Some t) script is = (script, is)

bad_line : OneIsBad → (size : Size) (known events : Option (List ℕ)) (a b w : Counts) (n : ℕ) → IfSome known IsAllowed → ExplainsLines events b (BadLine n) →
    ExplainsMigration size known events a b w (BadLine n)
bad_line one size None events a b w n is h = tt
bad_line one size (Some t) None a b w n is h = tt
bad_line one size (Some t) (Some e) a b w n is h = record { allowed = is; bad = h; of_recorded = first_is_bad one e n h }

-- the lines aren't read
pub explains_no_lines : OneIsBad → (size : Size) (known events : Option (List ℕ)) (script : Script) (a b w : Counts) (r : CommandRefusal) →
    IfSome known (λ t. IsScript t script) → ExplainsLines events b r → ExplainsMigration size known events a b w r
explains_no_lines one size known events script a b w (BadLine n) is h = bad_line one size known events a b w n (allowed known script is) h
explains_no_lines one size known events script a b w NoMemory is h = tt
explains_no_lines one size known events script a b w (Failed Read) is h = inr (h, allowed known script is)
explains_no_lines one size known events script a b w (Failed Write) is h = absurd h
explains_no_lines one size known events script a b w (Failed Closed) is h = absurd h
explains_no_lines one size known events script a b w (At code span) is h = absurd h
explains_no_lines one size known events script a b w (Stopped code) is h = absurd h
explains_no_lines one size known events script a b w (WrongJob n) is h = absurd h

too_long : (size : Size) (known events : Option (List ℕ)) (script : Script) (lines : List Line) (a b w : Counts) (code : ℕ) →
    IfSome known (λ t. IsScript t script) → IfSome events (λ e. IsLinesFile e lines) → IsLinesStop script size lines (Stopped code) →
    ExplainsMigration size known events a b w (Stopped code)
too_long size None events script lines a b w code is ls h = tt
too_long size (Some t) None script lines a b w code is ls h = tt
too_long size (Some t) (Some e) script lines a b w code is ls h = (h.0, script, files.Lines lines, line_numbers e, is, (ls, refl), h.1)

-- the lines' replay stops
pub explains_stop : (size : Size) (known events : Option (List ℕ)) (script : Script) (lines : List Line) (a b w : Counts) (r : CommandRefusal) →
    IfSome known (λ t. IsScript t script) → IfSome events (λ e. IsLinesFile e lines) → IsLinesStop script size lines r →
    ExplainsMigration size known events a b w r
explains_stop size known events script lines a b w (Stopped code) is ls h = too_long size known events script lines a b w code is ls h
explains_stop size known events script lines a b w NoMemory is ls h = tt
explains_stop size known events script lines a b w (At code span) is ls h = absurd h
explains_stop size known events script lines a b w (BadLine n) is ls h = absurd h
explains_stop size known events script lines a b w (WrongJob n) is ls h = absurd h
explains_stop size known events script lines a b w (Failed failure) is ls h = absurd h

-- a write failed
pub explains_no_write : (size : Size) (known events : Option (List ℕ)) (a b w : Counts) (f : Failure) → IsOfWriting f → FailedIn w →
    ExplainsMigration size known events a b w (Failed f)
explains_no_write size known events a b w Read kind h = absurd kind
explains_no_write size known events a b w Write kind h = h
explains_no_write size known events a b w Closed kind h = h
