-- In every run the slots of live nodes are right.
use Rattle.std.proofs.Common.{◌≡◌, ℕ, zero, suc, ◌+◌, ◌<◌, ◌≤◌, List, [], ◌∷◌, ◌++◌, length, Some, refl, ap, sym, subst, ◌∙◌, inl, inr, arith}
use Rattle.std.specs.Prelude.{Bool, true, false, not, ◌&&◌, nat_lt}
use Rattle.std.proofs.lemmas.Bool.Decides.{nat_tests}
use Rattle.sequence.proofs.Places.{and_left, and_right}
use Rattle.meaning.specs.Mains.{KeepsMainApart}
use Rattle.event_log.specs.Events.{joins, node_is_killed, node_lives}
use Rattle.event_log.specs.Rules.{Setting}
use Rattle.protocol.specs.Nodes.{Node}
use Rattle.protocol.specs.Sets.{has}
use Rattle.protocol.specs.Tables.{Worker}
use Rattle.protocol.specs.Cluster.{ClusterState, node_at, worker_at}
use Rattle.lease_discipline.specs.of_protocol_legal.Whole.{Between}
use Rattle.protocol_owed.specs.Courses.{LivesOn, course}
use Rattle.protocol_owed.specs.Runs.{Handing, Running, after_event, after_events, holders_in, opening_run, seen}
use Rattle.protocol_owed.specs.Turns.{IsOneToRun}
use Rattle.protocol_owed.proofs.Opening.{opens-full, runs-full}
use Rattle.protocol_owed.specs.Told.{IsAsTold}
use Rattle.lease_discipline.specs.Slots.{AreRight}
use Rattle.lease_discipline.proofs.SlotLaw.{law_of_kept_slots}
use Rattle.lease_discipline.proofs.Told.{logs_tell, locations}
use Rattle.owed_asks.specs.Law.{SlotsAreAllRight}
use Rattle.owed_asks.proofs.Laws.{RunKeeps, all_right, one_more, runs_keep}
use Rattle.owed_asks.proofs.SlotUsers.{HasUse, IsUser}
use Rattle.owed_asks.proofs.Splits.{item_below}
use Rattle.owed_asks.proofs.UserEvents.{KeepsUses, Knowing, events_keep_uses, opening_keeps_uses}

-- ---- a run

-- the first part of what is right
right_first : (s : Setting) (r : Running) (before : List Handing) (g : Handing) (gs : List Handing) → AreRight s r before →
    AreRight s (after_events r before) (g ∷ gs) →
    AreRight s r (before ++ g ∷ []) × AreRight s (after_events r (before ++ g ∷ [])) gs
right_first s r before g gs first rest =
    (all_right s r before g first rest.0, subst (λ q. AreRight s q gs) (sym (one_more r before g)) rest.1)

module _ (s : Setting) (slots : ℕ) (some : 0 < s.nodes) (slot : 1 ≤ slots) (apart : KeepsMainApart s.script) where
  abbrev start : Running
  start = opening_run s.nodes slots

  knowing : (gs : List Handing) → AreRight s start gs → Knowing (after_events start gs).whole
  knowing gs right =
      let k : RunKeeps s (after_events start gs) = runs_keep s slots some slot apart gs right in
      record {
        leases = k.step.leases;
        asks = k.asks;
        right = k.right;
        full = runs-full start gs (opens-full s.nodes slots slot);
        housed = k.step.sound.between.knows.housed;
      }

  uses_after : (before gs : List Handing) → AreRight s start before → AreRight s (after_events start before) gs →
      KeepsUses (after_events start before).whole →
      KeepsUses (after_events (after_events start before) gs).whole
  uses_after before [] first right k = k
  uses_after before (g ∷ gs) first right k =
      let r : Running = after_events start before in
      let two = right_first s start before g gs first right in
      let next : KeepsUses (after_event r g).whole = events_keep_uses r.whole g.event g.handed (knowing before first) k in
      subst (λ q. KeepsUses (after_events q gs).whole) (one_more start before g)
      (uses_after (before ++ g ∷ []) gs two.0 two.1 (subst (λ q. KeepsUses q.whole) (sym (one_more start before g)) next))

  pub run_uses : (gs : List Handing) → AreRight s start gs → KeepsUses (after_events start gs).whole
  run_uses gs right = uses_after [] gs tt right (opening_keeps_uses s.nodes slots)

-- ---- what can be seen

twice_negated : (t : Bool) → not t ≡ false → t ≡ true
twice_negated true e = refl
twice_negated false e = absurd (cc)

one_not : (t u : Bool) → not t ≡ true → t ≡ not u → u ≡ true
one_not true u e f = absurd (cc)
one_not false u e f = twice_negated u (sym f)

module _ (s : Setting) (r : Running) (keeps : RunKeeps s r) (uses : KeepsUses r.whole) where
  abbrev c : ClusterState
  c = r.whole

  abbrev b : Between s r.log c
  b = keeps.step.sound.between

  -- a live node is there
  pub there : (n : ℕ) → node_lives s.nodes n r.log ≡ true → (node : Node) × (node_at c n ≡ Some node) × (node.is_live ≡ true)
  unfolding node_lives
  there n e =
      let numbers : (nat_lt 0 n && nat_lt n (s.nodes + length (joins r.log) + 1)) ≡ true =
      and_left (nat_lt 0 n && nat_lt n (s.nodes + length (joins r.log) + 1)) (not (node_is_killed n r.log)) e in
      let stays : not (node_is_killed n r.log) ≡ true = and_right (nat_lt 0 n && nat_lt n (s.nodes + length (joins r.log) + 1)) (not
      (node_is_killed n r.log)) e in
      let node = by_number n (above (and_left (nat_lt 0 n) (nat_lt n (s.nodes + length (joins r.log) + 1)) numbers))
      (below (and_right (nat_lt 0 n) (nat_lt n (s.nodes + length (joins r.log) + 1)) numbers)) in
      (node.0, node.1, one_not (node_is_killed n r.log) node.0.is_live stays (b.knows.node_lives n node.0 node.1))
    where
      above : nat_lt 0 n ≡ true → 0 < n
      above f = grind (arith, nat_tests)

      below : nat_lt n (s.nodes + length (joins r.log) + 1) ≡ true → n < s.nodes + length (joins r.log) + 1
      below f = grind (arith, nat_tests)

      by_number : (n : ℕ) → 0 < n → n < s.nodes + length (joins r.log) + 1 → (node : Node) × (node_at c n ≡ Some node)
      by_number zero f g = absurd (omega (arith, f))
      by_number (suc i) f g = let count = b.knows.nodes in item_below c.nodes i (omega (arith, g, count))

  runner : (n w : ℕ) → IsUser (worker_at c) c.network n w → LivesOn (seen s r) w n × IsOneToRun (seen s r) w
  runner n w u =
      let x : Worker = u.here.worker in
      let told : IsAsTold (course (seen s r) w) x = logs_tell s r.log c keeps.step w x u.here.there u.here.lives in (
        record { place = locations s r.log c b w x u.here.there ∙ ap (λ m. Some m) u.here.home; lives = b.knows.lives w x u.here.there ∙ u.here.lives },
        by_use x told u.why,
      )
    where
      by_use : (x : Worker) → IsAsTold (course (seen s r) w) x → HasUse c.network n w x → IsOneToRun (seen s r) w
      by_use x told (inl goes) = inr (inr (told.pace ∙ goes))
      by_use x told (inr (inl out)) = inr (inl (out.0, told.pace ∙ out.1))
      by_use x told (inr (inr leased)) = inl (record {
        attempt = leased.0;
        hops = leased.1.0;
        node = n;
        given = leased.1.1;
        unbegun = told.began leased.0 ∙
            leased.2;
      })

  pub of_runners : (n : ℕ) (node : Node) → node_at c n ≡ Some node → node.is_live ≡ true → (w : ℕ) → has ((seen s r).slot_holders n) w ≡ true →
      LivesOn (seen s r) w n × IsOneToRun (seen s r) w
  of_runners n node at live w e =
      elim ((uses n node at live).slot_holders w (ap (λ o. has (holders_in o) w) (sym at) ∙ e)) [ inl u ↦ runner n w u | inr f ↦ absurd f ]

pub slots_are_all_right : SlotsAreAllRight
slots_are_all_right s slots some slot apart gs right n lives =
    let r : Running = after_events (opening_run s.nodes slots) gs in
    let keeps : RunKeeps s r = runs_keep s slots some slot apart gs right in
    let uses : KeepsUses r.whole = run_uses s slots some slot apart gs right in
    let node = there s r keeps uses n lives in
    let kept = law_of_kept_slots s slots some slot apart gs right n node.0 node.1 in
    record {
      distinct = kept.distinct;
      within = kept.within;
      of_runners = of_runners s r keeps uses n node.0 node.1 node.2;
      kept = kept.kept;
      none_free = kept.none_free;
    }
