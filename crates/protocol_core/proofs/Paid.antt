-- An event pays what it owes, and is refused for a limit exactly where it would pass one.
use Rattle.std.proofs.Common.{◌≡◌, ℕ, true, false, List, [], Option, IfSome, inl, inr, sym, ◌∙◌, subst}
use Rattle.meaning.specs.Syntax.{Script}
use Rattle.event_log.specs.Entries.{Entry, Event}
use Rattle.segment.specs.Jobs.{Done, IsTrueOf}
use Rattle.count_laws.proofs.Reached.{reached_pays}
use Rattle.count_laws.specs.Counts.{counted, is_within}
use Rattle.count_laws.proofs.Laws.{events_are_limited, runs_are_within}
use Rattle.protocol_core.specs.Limits.{IsWithin, Limits}
use Rattle.protocol_core.specs.Owed.{Pays}
use Rattle.protocol_core.specs.States.{IsSoundRun, RunState, beside, run_of}
use Rattle.protocol_core.specs.Steps.{Follows, Reply}
use Rattle.protocol_core.proofs.Jobs.{right}
use Rattle.protocol_core.proofs.Kept.{reached_now}

true_false : true ≡ false → ⊥
true_false e = cc

pub paid : (script : Script) (before after : RunState) (e : Event) (seat : ℕ) (work : Option Done) (told : Reply) → IsSoundRun script before →
    IfSome work (λ d. IsTrueOf script d) → (before.is_halted ≡ false → Follows before e seat work after told) → Pays script before e seat work after told
paid script before after e seat work told kept is_true follows goes on = elim (follows goes) [
  | inl r ↦ absurd (true_false (sym r.halted ∙ on))
  | inr a ↦ record {
    handed = a.0;
    is_handed = a.1;
    applied = a.2;
    pays = reached_pays (beside script before.first_nodes []) kept.reached.slots kept.nodes kept.reached.some kept.typed.main_apart (run_of before)
        (reached_now script before kept.reached goes) (record { event = e; seat = seat; handed = a.0 })
        (right script before.first_nodes before.whole e work a.0 a.1 is_true);
  }
]

pub limited : (script : Script) (before after : RunState) (e : Event) (seat : ℕ) (work : Option Done) (told : Reply) → IsSoundRun script before →
    (before.is_halted ≡ false → Follows before e seat work after told) → Limits script before e seat work after told
limited script before after e seat work told kept follows goes on = elim (follows goes) [
  | inl r ↦ absurd (true_false (sym r.halted ∙ on))
  | inr a ↦ record {
    handed = a.0;
    is_handed = a.1;
    applied = a.2;
    limited = events_are_limited (beside script before.first_nodes []) kept.reached.slots kept.nodes kept.few kept.typed.main_apart (run_of before)
        (reached_now script before kept.reached goes) (record { event = e; seat = seat; handed = a.0 });
  }
]

-- also where an event found no memory
pub within : (script : Script) (c : RunState) → IsSoundRun script c → IsWithin script c
within script c kept =
    subst (λ (log : List Entry). is_within (counted (beside script c.first_nodes []) log) ≡ true) kept.reached.log
    (runs_are_within (beside script c.first_nodes []) kept.reached.slots kept.nodes kept.few kept.typed.main_apart kept.reached.run kept.reached.reached)
