-- A run begins with its leases in order.
use Rattle.std.proofs.Common.{◌≡◌, ℕ, zero, suc, ◌<◌, List, [], ◌∷◌, Some, refl, ap, sym, subst, ◌∙◌, inl, inr, arith}
use Rattle.std.specs.Prelude.{true, false}
use Rattle.std.proofs.lemmas.Bool.{both_ways}
use Rattle.sequence.proofs.Places.{or_cases, or_left}
use Rattle.event_log.specs.Entries.{main_attempt}
use Rattle.event_log.specs.Words.{same_attempt}
use Rattle.event_log.proofs.WordLaws.{same_attempt-true, same_attempt-refl}
use Rattle.protocol_laws.specs.of_protocol.Numbered.{item_at}
use Rattle.protocol_laws.proofs.of_step_laws.Places.{counted}
use Rattle.protocol_laws.specs.of_protocol.Sets.{repeated}
use Rattle.protocol_laws.specs.of_protocol.Nodes.{Node, new_node, new_scheduler}
use Rattle.protocol_laws.specs.of_protocol.Tables.{Out, OwnTask, Ready, Execution, Worker, task_of}
use Rattle.protocol_laws.specs.of_protocol.Cluster.{ClusterState, driver, first_whole, main_run, node_at, worker_at}
use Rattle.protocol_laws.specs.of_protocol_owed.Courses.{has_begun}
use Rattle.protocol_laws.proofs.of_protocol_owed.Nodes.{changed_cases, there_still}
use Rattle.protocol_laws.proofs.of_protocol_owed.CourseEvents.{one_of}
use Rattle.protocol_laws.proofs.of_protocol_owed.Envelopes.{among-nothing}
use Rattle.lease_discipline.specs.Discipline.{KeepsLeases, NodeKeeps, WorkerKeeps}

pub only_driver : (w : ℕ) (x : Worker) → item_at (driver ∷ []) w ≡ Some x → (w ≡ 1) × (driver ≡ x)
only_driver zero x e = absurd (cc)
only_driver (suc zero) x e = (refl, cc)
only_driver (suc (suc i)) x e = absurd (cc)

driver_keeps : WorkerKeeps [] [] 1 driver
driver_keeps = record {
  began = λ a e. elim (or_cases (same_attempt main_attempt a) false e) [ inl f ↦ inl (sym (same_attempt-true main_attempt a f), refl) | inr f ↦ absurd (cc) ];
  present = λ run e. let is : main_run ≡ run = cc in subst (λ (r : Execution). has_begun r.attempt driver.began ≡ true) is
      (or_left (same_attempt main_attempt main_attempt) false (same_attempt-refl main_attempt));
  stopped = λ run e o. let is : main_run ≡ run = cc in absurd (both_ways run.is_over (ap (λ (r : Execution). r.is_over) (sym is)) o);
  out = λ run j e o. let is : main_run ≡ run = cc in absurd (ready_out j (ap (λ (r : Execution). r.phase) is ∙ o));
  runs = λ k task v n e. absurd (none k task e);
}
  where
    ready_out : (j : ℕ) → Ready ≡ Out j → ⊥
    ready_out j e = absurd (cc)

    none : (k : ℕ) (task : OwnTask) → task_of (item_at driver.objects k) ≡ Some task → ⊥
    none zero task e = cc
    none (suc i) task e = cc

new_keeps : (nodes slots n : ℕ) (slot_holders : List ℕ) → NodeKeeps (worker_at (first_whole nodes slots)) [] n (record (new_scheduler slots) { slot_holders = slot_holders })
new_keeps nodes slots n slot_holders = record {
  idle = λ w e. absurd (cc);
  promised = λ w x a at live gave unbegun. absurd (among-nothing _ gave.1);
  busy = λ w x run at home e over b f. absurd (cc);
  replied = λ key w e. absurd (cc);
}

first_node : (nodes slots : ℕ) → 0 < nodes → (k : Node) × (item_at (repeated nodes (new_node slots)) 1 ≡ Some k)
first_node zero slots some = absurd (omega (arith, some))
first_node (suc m) slots some = (new_node slots, refl)

pub opens : (nodes slots : ℕ) → 0 < nodes → KeepsLeases (first_whole nodes slots)
opens nodes slots some = record {
  workers = record {
    each = λ w x e. let d = only_driver w x e in subst (λ i. WorkerKeeps [] [] i x) (sym d.0) (subst (WorkerKeeps [] [] 1) d.1 driver_keeps);
    envelopes = λ l h. absurd (among-nothing l h);
  };
  nodes = λ n node e. elim (changed_cases (repeated nodes (new_node slots)) 1 n with_slot node e) [
    | inl (_, x, at, is) ↦
        let new : new_node slots ≡ x = one_of 1 nodes n (new_node slots) x (counted (repeated nodes (new_node slots)) n at) in
        subst (λ (y : Node). NodeKeeps (worker_at start) [] n y.scheduler) (ap with_slot new ∙ sym is) (new_keeps nodes slots n (1 ∷ []))
    | inr (_, at) ↦
        let new : new_node slots ≡ node = one_of 1 nodes n (new_node slots) node (counted (repeated nodes (new_node slots)) n at) in
        subst (λ (y : Node). NodeKeeps (worker_at start) [] n y.scheduler) new (new_keeps nodes slots n [])
  ];
  homes = λ w x e.
      let d = only_driver w x e in
      let f = first_node nodes slots some in
      subst (λ (y : Worker). (k : Node) × (node_at start y.node ≡ Some k)) d.1 (there_still (repeated nodes (new_node slots)) 1 1 with_slot f.0 f.1);
}
  where
    start : ClusterState
    start = first_whole nodes slots

    with_slot : Node → Node
    with_slot node = record node { scheduler = record node.scheduler { slot_holders = 1 ∷ [] } }
