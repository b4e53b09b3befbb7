-- The cursor into the messages: it stays right behind each event, and the search for the next event may begin there.
use Rattle.std.proofs.Common.{◌≡◌, ℕ, zero, true, false, List, Option, sym, ap, ◌∙◌, subst, inl, inr}
use Rattle.std.specs.Option.{option_map}
use Rattle.step_laws.specs.Cursors.{IsAtFirst, IsPast}
use Rattle.step_laws.proofs.Delivered.{first_of_none, past_after, search_from}
use Rattle.event_log.specs.Entries.{Claim, Commit, Deliver, Event}
use Rattle.protocol.specs.Settling.{first_job, first_ready, next, or_event}
use Rattle.protocol.specs.Cluster.{ClusterState}
use Rattle.protocol_core.specs.States.{RunState, first_state}
use Rattle.protocol_core.specs.Steps.{Follows, Reply}
use Rattle.segment.specs.Jobs.{Done}
use Rattle.settling.specs.Turns.{next_from}

-- the search may begin at the cursor
pub next_there : (c : ClusterState) (k : ℕ) (but : List ℕ) → IsAtFirst k c.delivered → next_from k c but ≡ next c but
next_there c k but p =
    ap (λ o. or_event (option_map (λ j. Deliver j) o)
    (or_event (option_map (λ j. Commit j) (first_job but 1 c.workers)) (option_map (λ w. Claim w) (first_ready c but 1 c.workers))))
    (sym (search_from k c.delivered p.past))

-- what was delivered stays so, unless the run halts
pub past_behind : (before after : RunState) (e : Event) (seat : ℕ) (done : Option Done) (told : Reply) (k : ℕ) → Follows before e seat done after told →
    IsPast k before.whole.delivered → after.is_halted ≡ false → IsPast k after.whole.delivered
past_behind before after e seat done told k (inl out) p goes_on = absurd (true_false (sym out.halted ∙ goes_on))
  where
    true_false : true ≡ false → ⊥
    true_false e = cc
past_behind before after e seat done told k (inr h) p goes_on =
    subst (λ (c : ClusterState). IsPast k c.delivered) (sym h.2.whole) (past_after before.whole k e h.0 p)

-- before the first event no message was sent
pub first_in : (c : RunState) (nodes slots : ℕ) → c ≡ first_state nodes slots → IsAtFirst zero c.whole.delivered
first_in c nodes slots same = first_of_none c.whole.delivered (ap (λ (d : RunState). d.whole.delivered) same)
