-- What each worker runs, entry by entry.
use Rattle.std.specs.Prelude.{ℕ, Bool, false, if◌then◌else◌, ◌==◌, List, [], ◌∷◌, Option, Some, None}
use Rattle.std.specs.Option.{option_map}
use Rattle.ids.specs.Attempts.{Attempt}
use Rattle.event_log.specs.Words.{same_attempt}
use Rattle.event_log.specs.Events.{from_one}
use Rattle.log_entries.specs.declared.event.Event.{Event}
use Rattle.log_entries.specs.declared.event.Event.TheVariants.{Commit, Kill, KillNode}
use Rattle.event_log.specs.Entries.{Entry, In, Opened, Begun, Got, Ended, Faulted}
use Rattle.log_words.specs.Told.{Told}
use Rattle.timeline.specs.declared.rows.Row.{Row}
use Rattle.timeline.specs.declared.rows.Running.{Running}

abbrev pub is_attempt : Attempt → Option Running → Bool
is_attempt a None = false
is_attempt a (Some x) = same_attempt x.attempt a

-- the row's worker runs the attempt
abbrev pub runs : Attempt → Row → Bool
runs a r = is_attempt a r.running

-- what the row's worker runs waits since the event, or no longer
abbrev pub with_waits : Row → Option ℕ → Row
with_waits r waits =
    record { worker = r.worker; node = r.node; running = option_map (λ x. record { attempt = x.attempt; since = x.since; waits = waits }) r.running }

abbrev pub stopped : Row → Row
stopped r = record { worker = r.worker; node = r.node; running = None }

abbrev pub begins : Row → Attempt → ℕ → Row
begins r a clock = record { worker = r.worker; node = r.node; running = Some (record { attempt = a; since = clock; waits = None }) }

abbrev pub is_worker : Option ℕ → Row → Bool
is_worker None r = false
is_worker (Some w) r = w == r.worker

-- the commit of a worker's job begins a wait, unless the attempt ends or goes on in the same event
abbrev pub after_event : Told → Event → Row → Row
after_event told (Commit j) r = if is_worker (from_one told.jobs j) r then with_waits r (Some told.events) else r
after_event told (Kill w) r = if w == r.worker then stopped r else r
after_event told (KillNode n) r = if n == r.node then stopped r else r
after_event told _ r = r

-- `told` has the entry already, and `refused` says of an event that it is refused
abbrev pub row_after : Told → Entry → Bool → Row → Row
row_after told (Begun a w) refused r = if w == r.worker then begins r a told.events else r
row_after told (Got a y c) refused r = if runs a r then with_waits r None else r
row_after told (Ended a cs) refused r = if runs a r then stopped r else r
row_after told (Faulted a y f) refused r = if runs a r then stopped r else r
row_after told (In e seat) refused r = if refused then r else after_event told e r
row_after told _ refused r = r

abbrev pub new_rows : Entry → List Row
new_rows (Opened w n) = record { worker = w; node = n; running = None } ∷ []
new_rows _ = []
