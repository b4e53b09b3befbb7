-- Whoever was given or is busy keeps its slot, and no slot is free while something stands in a node's queue: of every run.
use Rattle.std.proofs.Common.{◌≡◌, ℕ, ◌<◌, ◌≤◌, List, [], ◌∷◌, length, Some, Option, refl, ap, sym, subst, ◌∙◌, ◌⊎◌, inl, inr, arith}
use Rattle.std.specs.Prelude.{true, false, nat_lt}
use Rattle.std.proofs.lemmas.Bool.Decides.{nat_tests}
use Rattle.std.proofs.lemmas.Bool.{both_ways}
use Rattle.meaning.proofs.BirthLaws.{at_test}
use Rattle.meaning.specs.Mains.{KeepsMainApart}
use Rattle.event_log.specs.Rules.{Setting}
use Rattle.protocol_laws.specs.of_protocol.Nodes.{Node, Scheduler, new_node}
use Rattle.protocol_laws.specs.of_protocol.Sets.{has, repeated}
use Rattle.protocol_laws.specs.of_protocol.Tables.{Worker}
use Rattle.protocol_laws.specs.of_protocol.Cluster.{first_whole, node_at, worker_at}
use Rattle.protocol_laws.specs.of_protocol_owed.Courses.{GoesOn, IsLeased, IsOut, LivesOn, course}
use Rattle.protocol_laws.specs.of_protocol_owed.Runs.{Handing, Running, SlotsAreSound, after_event, after_events, holders_in, opening_run, seen}
use Rattle.protocol_laws.specs.of_protocol_owed.Turns.{AskStands, IsBusy, RunnerStands}
use Rattle.protocol_laws.proofs.of_protocol_owed.FullNodes.{NodesAreFull, answered-full}
use Rattle.protocol_laws.proofs.of_protocol_owed.Nodes.{NodesAreRight, answered-right, changed_cases}
use Rattle.protocol_laws.proofs.of_protocol_owed.Opening.{law_of_slots, opens-full, opens-right}
use Rattle.protocol_laws.specs.of_protocol_owed.Told.{IsAsTold, pace_by}
use Rattle.lease_discipline.specs.Discipline.{Gave, IsOfNode}
use Rattle.lease_discipline.specs.Slots.{AreRight, KeepsSlots, LawOfKeptSlots, SlotsAreKept}
use Rattle.lease_discipline.specs.Told.{IsInStep}
use Rattle.lease_discipline.proofs.Opening.{only_driver}
use Rattle.lease_discipline.proofs.Told.{events_stay_in_step, lives_there, logs_tell, opening_is_in_step, locations}
use Rattle.lease_discipline.proofs.TurnEvents.{events_keep_turns}

-- ---- the opening

-- the driver is on node 1, and has a slot there
opens-turns : (nodes slots : ℕ) → KeepsSlots (first_whole nodes slots)
opens-turns nodes slots n node at = record {
  out = λ w x j there home live out. let d = only_driver w x there in absurd (goes_out j (ap (λ (y : Worker). pace_by y.run) d.1 ∙ out));
  ready = λ w x there home live ready.
      let d = only_driver w x there in
      let one : 1 ≡ n = ap (λ (y : Worker). y.node) d.1 ∙ home in
      inl (subst (λ v. has node.scheduler.slot_holders v ≡ true) (sym d.0) (first_has (subst (λ m. node_at (first_whole nodes slots) m ≡ Some node) (sym one) at)));
}
  where
    with_slot : Node → Node
    with_slot x = record x { scheduler = record x.scheduler { slot_holders = 1 ∷ [] } }

    goes_out : (j : ℕ) → GoesOn ≡ IsOut j → ⊥
    goes_out j e = absurd (cc)

    first_has : node_at (first_whole nodes slots) 1 ≡ Some node → has node.scheduler.slot_holders 1 ≡ true
    first_has e = elim (changed_cases (repeated nodes (new_node slots)) 1 1 with_slot node e) [
      | inl (_, x, _, is) ↦ ap (λ (y : Node). has y.scheduler.slot_holders 1) is
      | inr (apart, _) ↦ absurd (apart refl)
    ]

-- ---- a run

pub record RunKeeps (s : Setting) (r : Running) : Type 0 where
  pub step : IsInStep s r.log r.whole
  pub slots : KeepsSlots r.whole
  pub right : NodesAreRight r.whole
  pub full : NodesAreFull r.whole

runs_keep : (s : Setting) → KeepsMainApart s.script → (r : Running) (gs : List Handing) → RunKeeps s r → AreRight s r gs → RunKeeps s (after_events r gs)
runs_keep s apart r [] k right = k
runs_keep s apart r (g ∷ gs) k right =
    runs_keep s apart (after_event r g) gs (record {
      step = events_stay_in_step s apart r.log r.whole g.event g.seat g.handed k.step right.0;
      slots = events_keep_turns r.whole g.event g.handed k.step.leases k.slots;
      right = answered-right r.whole g.event g.handed k.right;
      full = answered-full r.whole g.event g.handed k.full;
    }) right.1

-- ---- what can be seen

some_answered : (xs : List ℕ) (w : ℕ) → has xs w ≡ true → 1 ≤ length xs
some_answered [] w e = absurd (cc)
some_answered (x ∷ xs) w e = omega arith

module _ (s : Setting) (r : Running) (k : RunKeeps s r) (n : ℕ) (node : Node) (at : node_at r.whole n ≡ Some node) where
  abbrev sched : Scheduler
  sched = node.scheduler

  seen_slot : (w : ℕ) → has sched.slot_holders w ≡ true → has ((seen s r).slot_holders n) w ≡ true
  seen_slot w e = ap (λ o. has (holders_in o) w) at ∙ e

  -- a live worker of the node
  pub record IsHere (w : ℕ) : Type 0 where
    pub worker : Worker
    pub there : worker_at r.whole w ≡ Some worker
    pub lives : worker.is_live ≡ true
    pub home : worker.node ≡ n
    pub told : IsAsTold (course (seen s r) w) worker

  is_here : (w : ℕ) → LivesOn (seen s r) w n → IsHere w
  is_here w on =
      let x = lives_there s r.log r.whole k.step.sound.between w on.lives in
      let f : ◌≡◌ {A = Option ℕ} (Some x.0.node) (Some n) = sym (locations s r.log r.whole k.step.sound.between w x.0 x.1) ∙ on.place in
      record { worker = x.0; there = x.1; lives = x.2; home = cc; told = logs_tell s r.log r.whole k.step w x.0 x.1 x.2 }

  leased_slot : (w : ℕ) → IsHere w → IsLeased (seen s r) w → has sched.slot_holders w ≡ true
  leased_slot w h l =
      let i : IsOfNode (worker_at r.whole) l.node w = k.step.leases.workers.envelopes _ l.given in
      let f : ◌≡◌ {A = Option Worker} (Some i.worker) (Some h.worker) = sym i.there ∙ h.there in
      let is : i.worker ≡ h.worker = cc in
      let same : l.node ≡ n = sym i.home ∙ ap (λ (x : Worker). x.node) is ∙ h.home in
      let gave : Gave r.whole.network n l.attempt w = subst (λ m. Gave r.whole.network m l.attempt w) same (l.hops, l.given) in
      ((k.step.leases.nodes n node at).promised w h.worker l.attempt h.there h.lives gave (sym (h.told.began l.attempt) ∙ l.unbegun)).slot

  busy_slot : (w : ℕ) → IsHere w → IsBusy (seen s r) w → has sched.slot_holders w ≡ true
  busy_slot w h (j, out) = (k.slots n node at).out w h.worker j h.there h.home h.lives (sym h.told.pace ∙ out)

  kept_slot : (w : ℕ) → IsHere w → (IsLeased (seen s r) w ⊎ IsBusy (seen s r) w) → has sched.slot_holders w ≡ true
  kept_slot w h (inl l) = leased_slot w h l
  kept_slot w h (inr b) = busy_slot w h b

  -- one that asks for a slot stands there only where none is free
  runner_full : length sched.slot_holders ≤ r.whole.slots → RunnerStands (seen s r) n → length sched.slot_holders ≡ r.whole.slots
  runner_full within run =
      let h : IsHere run.worker = is_here run.worker run.lives in
      let ready = (k.slots n node at).ready run.worker h.worker h.there h.home h.lives (sym h.told.pace ∙ run.goes_on) in
      let none : has sched.slot_holders run.worker ≡ false = sym (ap (λ o. has (holders_in o) run.worker) at) ∙ run.slotless in
      elim ready [
        | inl f ↦ absurd (both_ways _ none f)
        | inr f ↦ full_by (some_answered sched.answered run.worker f)
      ]
    where
      full_by : 1 ≤ length sched.answered → length sched.slot_holders ≡ r.whole.slots
      full_by one =
          at_test (λ b. nat_lt (length sched.slot_holders) sched.slots ≡ b → length sched.slot_holders ≡ r.whole.slots) (nat_lt (length sched.slot_holders) sched.slots)
          (λ _ e. let none = (k.full.each n node at).none_free (below e) in absurd (omega (arith, one, none)))
          (λ _ e. let same = (k.right.each n node at).slots in let over = above e in omega (arith, within, same, over)) refl
        where
          below : nat_lt (length sched.slot_holders) sched.slots ≡ true → length sched.slot_holders < sched.slots
          below e = grind (arith, nat_tests)

          above : nat_lt (length sched.slot_holders) sched.slots ≡ false → sched.slots ≤ length sched.slot_holders
          above e = grind (arith, nat_tests)

  pub slots_kept : SlotsAreSound (seen s r) n → SlotsAreKept (seen s r) n
  slots_kept sound = record {
    distinct = sound.distinct;
    within = sound.within;
    kept = λ w on which. seen_slot w (kept_slot w (is_here w on) which);
    none_free = λ stands. by_case stands;
  }
    where
      by_case : (AskStands (seen s r) n ⊎ RunnerStands (seen s r) n) → length ((seen s r).slot_holders n) ≡ r.whole.slots
      by_case (inl ask) = sound.none_free ask
      by_case (inr run) =
          let slot_holders : length (holders_in (node_at r.whole n)) ≡ length sched.slot_holders = ap (λ o. length (holders_in o)) at in
          let within : length (holders_in (node_at r.whole n)) ≤ r.whole.slots = sound.within in
          slot_holders ∙ runner_full (omega (arith, slot_holders, within)) run

pub law_of_kept_slots : LawOfKeptSlots
law_of_kept_slots s slots some slot apart gs right n node at =
    let first : RunKeeps s (opening_run s.nodes slots) = record {
      step = opening_is_in_step s slots some;
      slots = opens-turns s.nodes slots;
      right = opens-right s.nodes slots slot;
      full = opens-full s.nodes slots slot;
    } in
    let r : Running = after_events (opening_run s.nodes slots) gs in
    slots_kept s r (runs_keep s apart (opening_run s.nodes slots) gs first right) n node at (law_of_slots s slots slot gs n node at)
