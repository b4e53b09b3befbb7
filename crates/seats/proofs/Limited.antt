-- A run that is given up at a limit has the plan's lines that were taken in its log, and no other event from outside.
use Rattle.std.proofs.Common.{◌≡◌, ℕ, Bool, List, Option, Some, subst}
use Rattle.meaning.specs.Syntax.{Script}
use Rattle.event_files.specs.declared.plan.PlanLine.{PlanLine}
use Rattle.log_entries.specs.declared.refusal.Refusal.{Refusal}
use Rattle.log_entries.specs.declared.refusal.Refusal.TheVariants as refusals
use Rattle.run_paths.specs.of_protocol_board.Cores.{RunState, Size, first_state}
use Rattle.run_paths.specs.Paths.{Comes}
use Rattle.seats.specs.Ends.{IsAtLimit, Stands, first_events}
use Rattle.seats.specs.Outside.{KeepsToThem}
use Rattle.seats.specs.Ruled.{IsRuledRun}

pub is_at_limit : (script : Script) (is_open : Bool) (plan named : List PlanLine) (size : Size) (r : RunState) (taken : ℕ) (g : Option Refusal) →
    g ≡ Some refusals.Limit → named ≡ plan → Stands (first_events taken named) r.log g → KeepsToThem is_open (first_events taken named) r.log g →
    r.first_nodes ≡ size.nodes → Comes script (first_state size.nodes size.slots) r → IsRuledRun script is_open plan size (Some refusals.Limit) r →
    IsAtLimit script is_open plan size r
is_at_limit script is_open plan named size r taken g limited same stands keeps nodes came ruled =
    let s : Stands (first_events taken plan) r.log (Some refusals.Limit) =
    subst (λ p. Stands (first_events taken p) r.log (Some refusals.Limit)) same (subst (Stands (first_events taken named) r.log) limited stands) in
    let k : KeepsToThem is_open (first_events taken plan) r.log (Some refusals.Limit) =
    subst (λ p. KeepsToThem is_open (first_events taken p) r.log (Some refusals.Limit)) same
    (subst (KeepsToThem is_open (first_events taken named) r.log) limited keeps) in
    record { limited = s.1; taken = taken; planned = (s.0, k); on_nodes = nodes; came = came; ruled = ruled }
