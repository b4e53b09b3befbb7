-- What an event adds to the totals of the log, by its answer.
use Rattle.std.specs.Prelude.{◌≡◌, ℕ, Bool, List, [], true, false, if◌then◌else◌, length}
use Rattle.event_log.specs.Entries.{Commit, Entry, Event, Halted, NoMemory, Refusal}
use Rattle.event_log.specs.Events.{claims}
use Rattle.event_log.specs.Legal.{opening}
use Rattle.event_log.specs.Books.{Totals}
use Rattle.event_log.specs.Laws.{nothing, plus}
use Rattle.books.specs.SeatTotals.{seat_totals}
use Rattle.books.specs.Laws.{from_seat}
use Rattle.run_paths.specs.of_protocol_board.Cores.{RunState, Reply, GivesJob, Accepts, Refuses}

abbrev pub one_event : Totals
one_event = record nothing { events = 1 }

-- an event so refused stands in the log: any but one behind, or at, want of memory
abbrev pub is_logged : Refusal → Bool
is_logged Halted = false
is_logged NoMemory = false
is_logged _ = true

abbrev pub refused_totals : Refusal → Totals
refused_totals refusal = if is_logged refusal then one_event else nothing

-- an accepted commit also counts as that, with the number of its job
abbrev pub taken_totals : Event → Totals
taken_totals (Commit j) = record one_event { commits = 1; committed = j }
taken_totals _ = one_event

-- a claim that gives a job out also counts its number
abbrev pub counted : Event → Reply → Totals
counted e (GivesJob job) = record one_event { given = job.number }
counted e Accepts = taken_totals e
counted e (Refuses refusal) = refused_totals refusal

-- what came from the seat adds so much to the log's totals of the watched one, if it is that seat
abbrev pub AddsFrom : ℕ → ℕ → Totals → List Entry → List Entry → Type 0
AddsFrom watched seat more before after = seat_totals watched after ≡ plus (seat_totals watched before) (from_seat watched seat more)

-- unless an event found no memory, each accepted claim gave out a job
abbrev pub ClaimsGaveJobs : RunState → Type 0
ClaimsGaveJobs r = r.is_halted ≡ false → length (claims r.log) ≡ length r.whole.jobs

-- the run has begun, and there was no event yet
abbrev pub IsFresh : RunState → Type 0
IsFresh r = (r.log ≡ opening) × (r.whole.jobs ≡ []) × (r.is_halted ≡ false)
