-- A file of format 1 and the history of its replay.
use Rattle.std.specs.Prelude.{◌≡◌, ℕ, ◌+◌, Bool, false, if◌then◌else◌, List, [], ◌∷◌, Option, Some, None}
use Rattle.meaning.specs.Syntax.{Script}
use Rattle.event_log.specs.Entries.{Claim, Entry, Event, In}
use Rattle.event_log.specs.Events.{refused_next}
use Rattle.event_log.specs.Legal.{opening}
use Rattle.event_files.specs.declared.line.Line.{Line}
use Rattle.event_files.specs.declared.recorded.RecordedEvent.{RecordedEvent}
use Rattle.event_files.specs.LogHistory.{recorded_in}
use Rattle.seats.specs.of_protocol_board.Replays.{Gives, Play, Plays, PlaysHistory, next_line}

-- what a history says of an event
pub record Said : Type 0 where
  pub seat : ℕ
  pub event : Event
  pub given : Option ℕ

abbrev pub said_by : RecordedEvent → Said
said_by r = record { seat = r.seat; event = r.event; given = r.given }

-- the number of the job that a claim gives behind so many others that were accepted, 0 where it is refused; of another event none
abbrev pub given_at : Event → Bool → ℕ → Option ℕ
given_at (Claim w) refused claims = Some (if refused then 0 else claims + 1)
given_at e refused claims = None

abbrev pub claims_after : Event → Bool → ℕ → ℕ
claims_after (Claim w) refused claims = if refused then claims else claims + 1
claims_after e refused claims = claims

-- what a log says of its events, behind so many accepted claims
abbrev pub said_from : ℕ → List Entry → List Said
said_from claims [] = []
said_from claims (In e seat ∷ rest) =
    record { seat = seat; event = e; given = given_at e (refused_next rest) claims } ∷ said_from (claims_after e (refused_next rest) claims) rest
said_from claims (x ∷ rest) = said_from claims rest

-- an event from its seat, which gives that
abbrev pub SaidPlays : Script → Said → Play → Play → Type 0
SaidPlays script s before after = Gives script (next_line before) s.event s.seat after s.given

-- a replay that begins: its run has no event yet, and has memory
pub record Begins (p : Play) : Type 0 where
  pub log : p.run.log ≡ opening
  pub jobs : p.run.whole.jobs ≡ []
  pub goes_on : p.run.is_halted ≡ false

-- the history of a replay of a file of format 1 replays to the same run
abbrev pub HistoriesReplay : Type 0
HistoriesReplay =
    (script : Script) (lines : List Line) (first after : Play) (log : List Entry) →
    Begins first → Plays script lines first after → log ≡ after.run.log →
    (again : Play) × PlaysHistory script (recorded_in log) first again × (again.run ≡ after.run)

-- a history replays to one run
abbrev pub OneRun : Type 0
OneRun =
    (script : Script) (events : List RecordedEvent) (first one other : Play) → first.run.is_halted ≡ false →
    PlaysHistory script events first one → PlaysHistory script events first other → one.run ≡ other.run

-- whatever comes of the history of a replay of a file of format 1 is the same run, with the same log
abbrev pub MigratedIsSame : Type 0
MigratedIsSame =
    (script : Script) (lines : List Line) (first after again : Play) (log : List Entry) →
    Begins first → Plays script lines first after → log ≡ after.run.log →
    PlaysHistory script (recorded_in log) first again → again.run ≡ after.run
