-- Runs beside a plan each of whose events is the one that a turn names, or hands in what was done on a job.
use Rattle.std.specs.Prelude.{◌≡◌, ◌⊎◌, ℕ, zero, suc, Bool, false, List, [], Option, Some, None}
use Rattle.meaning.specs.Syntax.{Script}
use Rattle.event_files.specs.declared.plan.PlanLine.{PlanLine}
use Rattle.event_log.specs.Entries.{Event, Commit}
use Rattle.log_entries.specs.declared.refusal.Refusal.{Refusal}
use Rattle.log_entries.specs.declared.refusal.Refusal.TheVariants as refusals
use Rattle.segment.specs.Jobs.{Done}
use Rattle.run_paths.specs.of_protocol_board.Cores.{Answers, Reply, RunState, Size, first_state}
use Rattle.run_paths.specs.Paths.{IsTrueDone}
use Rattle.seats.specs.Held.{IsStillOut}
use Rattle.seats.specs.Turns.{Does, Follows, Plans, TurnState, choice, past_line}

-- a turn at that state names the event: one of the run's own, or that of the plan's next line, which is then taken
abbrev pub IsNamed : TurnState → Event → ℕ → Type 0
IsNamed t e taken = ((choice t ≡ Does e) × (taken ≡ t.taken)) ⊎ ((choice t ≡ Plans e) × (taken ≡ past_line t.plan t.taken))

-- the event commits a job with what was done on it
abbrev pub HandsIn : Event → Option Done → Type 0
HandsIn (Commit j) (Some d) = j ≡ d.job.number
HandsIn e handed = ⊥

-- a turn of a run that goes on names the event, and nothing is handed in; or it hands in what was done on a job that is still out; behind it so many of the
-- plan's lines are taken
abbrev pub IsRuled : TurnState → Event → Option Done → ℕ → Type 0
IsRuled t e done taken =
    (IsNamed t e taken × (done ≡ None) × (t.given_up ≡ None)) ⊎ (HandsIn e done × IsStillOut t done × (taken ≡ t.taken))

-- so many such events, one after the other, lead from the one state to the other
unfoldable pub RuledIn : Script → ℕ → TurnState → TurnState → Type 0
RuledIn script zero first now = now ≡ first
RuledIn script (suc n) first now =
    (before : TurnState) × (e : Event) × (seat : ℕ) × (done : Option Done) × (told : Reply) × (taken : ℕ)
    × RuledIn script n first before × IsRuled before e done taken × IsTrueDone script done × Answers before.run e seat done now.run told
    × Follows (record before { taken = taken }) e told now

-- such events lead from the one state to the other
abbrev pub Ruled : Script → TurnState → TurnState → Type 0
Ruled script first now = (n : ℕ) × RuledIn script n first now

-- a run that begins beside the plan on such a cluster
abbrev pub first_turn : List PlanLine → Size → TurnState
first_turn plan size = record { run = first_state size.nodes size.slots; plan = plan; taken = 0; out = []; given_up = None }

-- unless it is open, the run came of such events alone, and was given up for that or not: so each line of the plan was taken when it was due, or nothing
-- else was left to do
abbrev pub IsRuledRun : Script → Bool → List PlanLine → Size → Option Refusal → RunState → Type 0
IsRuledRun script is_open plan size given_up r =
    is_open ≡ false → (t : TurnState) × (t.run ≡ r) × (t.given_up ≡ given_up) × Ruled script (first_turn plan size) t

-- so it did, unless it is given up for want of memory
abbrev pub StaysRuled : Script → Bool → List PlanLine → Size → TurnState → Option Refusal → Type 0
StaysRuled script is_open plan size t None = is_open ≡ false → Ruled script (first_turn plan size) t
StaysRuled script is_open plan size t (Some refusals.Limit) = is_open ≡ false → Ruled script (first_turn plan size) t
StaysRuled script is_open plan size t (Some refusal) = Unit {0}
