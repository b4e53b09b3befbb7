-- An own object that an attempt comes to need, and whose content is there: what the owner keeps itself and a copy on the own node answer at once,
-- another copy is fetched.
use Rattle.std.proofs.Common.{◌≡◌, ◌≢◌, ℕ, List, [], ◌∷◌, Some, None, Option, refl, ap, sym, subst, ◌∙◌, ◌⊎◌, inl, inr}
use Rattle.std.specs.Prelude.{Bool, true, false, if◌then◌else◌, not, ◌==◌, ◌||◌}
use Rattle.std.specs.List.{find}
use Rattle.std.proofs.lemmas.Bool.{eqb-false, eqb-true}
use Rattle.meaning.proofs.BirthLaws.{at_test}
use Rattle.meaning.specs.Values.{Id, Outcome}
use Rattle.event_log.specs.Breaks.{Among}
use Rattle.event_log.specs.Entries.{OwnerDied}
use Rattle.protocol.specs.Commits.{asks_where, rests_if_waiting}
use Rattle.protocol.specs.Messages.{Fetch, TheNode, TheWorker, Where, envelope}
use Rattle.protocol.specs.Locations.{looks_elsewhere, looks_elsewhere_by, looks_for, looks_for_by, looks_here_by, needs_at, needs_by, needs_own, needs_released}
use Rattle.protocol.specs.Recovery.{recovers}
use Rattle.protocol.specs.Releases.{release_step}
use Rattle.protocol.specs.Runs.{faults, fetches, gives_slot_back, with_answer}
use Rattle.protocol.specs.Sets.{fault, has, is_empty, without_number}
use Rattle.protocol.specs.Stores.{copy_in}
use Rattle.protocol.specs.Steps.{WorkerContext, changes, is_own, object_at, says, store_here, with_phase}
use Rattle.protocol.specs.Tables.{Object, Ready, Execution, Waits, has_content, is_lost, is_waiting_for, knows_dead, settled_number, without_location}
use Rattle.protocol_owed.proofs.Envelopes.{among-last}
use Rattle.protocol_owed.proofs.Moves.{rests_if_waiting-kept}
use Rattle.protocol_owed.proofs.Replying.{Sent, sent_after, sent_stays}
use Rattle.protocol_owed.proofs.Sets.{has-gone}
use Rattle.owed_asks.proofs.of_protocol_legal.Needing.{has_without}
use Rattle.owed_replies.proofs.Committing.{release_step-run}

-- the attempt goes on
abbrev pub GoesOnHere : WorkerContext → Type 0
GoesOnHere g = (next : Execution) × (g.worker.run ≡ Some next) × (next.phase ≡ Ready)

-- the worker of that node fetches the object's content of that number from another node
abbrev pub Fetches : ℕ → ℕ → Id → ℕ → WorkerContext → Type 0
Fetches me home y number g = (n : ℕ) × (n ≢ home) × Sent (envelope (TheWorker me) (TheNode n) (Fetch y number)) g

abbrev pub IsServed : ℕ → ℕ → Id → ℕ → WorkerContext → Type 0
IsServed me home y number g = GoesOnHere g ⊎ Fetches me home y number g

-- where a place is listed, none of which is known dead, it fetches
elsewhere : (g : WorkerContext) (run : Execution) (y : Id) (x : Object) (number : ℕ) → settled_number x ≡ number → g.worker.dead_nodes ≡ [] →
    is_empty x.locations ≡ false → has x.locations g.worker.node ≡ false →
    Fetches g.me g.worker.node y number (looks_elsewhere (with_phase g run (Waits y None)) y x)
elsewhere g run y x number number_is no_dead some not_here =
    let h : WorkerContext = with_phase g run (Waits y None) in
    let first = found x.locations some not_here in
    subst (λ o. Fetches g.me g.worker.node y number (looks_elsewhere_by h y x o)) (sym (ap (λ ds. find (λ i. not (has ds i)) x.locations) no_dead ∙ first.1)) (
      first.0,
      first.2,
      subst (λ i. Among (envelope (TheWorker g.me) (TheNode first.0) (Fetch y i)) (fetches h y (settled_number x) first.0).there.out.envelopes) number_is
          (among-last g.there.out.envelopes (envelope (TheWorker g.me) (TheNode first.0) (Fetch y (settled_number x)))),
    )
  where
    other : (m k : ℕ) (rest t : Bool) → (m == k) ≡ t → (t || rest) ≡ false → m ≢ k
    other m k rest true e f = absurd (cc)
    other m k rest false e f = eqb-false m k e

    found : (ns : List ℕ) → is_empty ns ≡ false → has ns g.worker.node ≡ false → (m : ℕ) × (find (λ i. not (has [] i)) ns ≡ Some m) × (m ≢ g.worker.node)
    found [] e f = absurd (cc)
    found (m ∷ ns) e f = (m, refl, other m g.worker.node (has ns g.worker.node) (m == g.worker.node) refl f)

module _ (g : WorkerContext) (run : Execution) (y : Id) (z : Object) (number n : ℕ) (item : object_at g y ≡ Some z) (unfaulted : z.fault ≡ None) (whole : has_content z ≡ true)
    (number_is : settled_number z ≡ number) (place : z.kept ≡ None → has z.locations n ≡ true) (no_dead : g.worker.dead_nodes ≡ [])
    (stored : z.kept ≡ None → n ≡ g.worker.node → (d : Outcome) × (copy_in (store_here g) y number ≡ Some d)) where
  abbrev h : WorkerContext
  h = with_phase g run (Waits y None)

  some_place : (ns : List ℕ) → has ns n ≡ true → is_empty ns ≡ false
  some_place [] e = absurd (cc)
  some_place (m ∷ ns) e = refl

  looked : (P : WorkerContext → Type 0) → P (looks_for h y z) → P (needs_own h y)
  looked P p =
      subst (λ o. P (needs_at h y o)) (sym item)
      (subst (λ o. P (needs_by h y z o)) (sym unfaulted)
      (subst (λ t. P (if t then looks_for h y z else if is_lost h.worker.objects z then recovers h y else if z.is_released then needs_released h z.dead_holder else h)) (sym whole) p))

  copied : (d : Outcome) → GoesOnHere (looks_here_by h y z (Some d))
  copied d = (with_answer (record run { phase = Waits y None }) d, refl, refl)

  is_stored : (d : Outcome) → copy_in (store_here g) y number ≡ Some d → copy_in (store_here g) y (settled_number z) ≡ Some d
  is_stored d e = ap (copy_in (store_here g) y) number_is ∙ e

  -- the owner keeps the content
  kept_here : (d : Outcome) → GoesOnHere (looks_for_by h y z (Some d))
  kept_here d = (with_answer (record run { phase = Waits y None }) d, refl, refl)

  -- the own node has the copy
  pub answers_here : n ≡ g.worker.node → GoesOnHere (needs_own h y)
  answers_here here_too = looked GoesOnHere (by_kept z.kept refl)
    where
      by_kept : (k : Option Outcome) → z.kept ≡ k → GoesOnHere (looks_for_by h y z k)
      by_kept (Some d) e = kept_here d
      by_kept None e =
          let q = stored e here_too in
          subst (λ t. GoesOnHere (if t then looks_here_by h y z (copy_in (store_here g) y (settled_number z)) else looks_elsewhere h y z))
          (sym (subst (λ m. has z.locations m ≡ true) here_too (place e)))
          (subst (λ o. GoesOnHere (looks_here_by h y z o)) (sym (is_stored q.0 q.1)) (copied q.0))

  -- some node has one
  pub serves : IsServed g.me g.worker.node y number (needs_own h y)
  serves = looked (IsServed g.me g.worker.node y number) (by_kept z.kept refl)
    where
      none_some : (d : Outcome) → ◌≡◌ {A = Option Outcome} None (Some d) → ⊥
      none_some d f = cc

      apart : z.kept ≡ None → copy_in (store_here g) y (settled_number z) ≡ None → (t : Bool) → (n == g.worker.node) ≡ t → (n == g.worker.node) ≡ false
      apart k e false f = f
      apart k e true f = let q = stored k (eqb-true n g.worker.node f) in absurd (none_some q.0 (sym e ∙ is_stored q.0 q.1))

      by_copy : z.kept ≡ None → (o : Option Outcome) → copy_in (store_here g) y (settled_number z) ≡ o →
          IsServed g.me g.worker.node y number (looks_here_by h y z o)
      by_copy k (Some d) e = inl (copied d)
      by_copy k None e = inr (elsewhere (changes g y (without_location g.worker.node)) run y (without_location g.worker.node z) number number_is no_dead
          (some_place (without_number z.locations g.worker.node) (has_without z.locations g.worker.node n (apart k e (n == g.worker.node) refl) (place k))) (has-gone z.locations g.worker.node))

      by_kept : (k : Option Outcome) → z.kept ≡ k → IsServed g.me g.worker.node y number (looks_for_by h y z k)
      by_kept (Some d) e = inl (kept_here d)
      by_kept None e =
          at_test (λ t. has z.locations g.worker.node ≡ t → IsServed g.me g.worker.node y number (if t then looks_here_by h y z (copy_in (store_here g) y (settled_number z)) else looks_elsewhere h y z)) (has z.locations g.worker.node)
          (λ _ _. by_copy e (copy_in (store_here g) y (settled_number z)) refl)
          (λ _ not_here. inr (elsewhere g run y z number number_is no_dead (some_place z.locations (place e)) not_here)) refl

-- ---- to the end of the event

-- an own need is looked for
pub own_where : (P : WorkerContext → Type 0) (h : WorkerContext) (y : Id) → is_own h y ≡ true → P (needs_own h y) → P (asks_where h y)
own_where P h y own p =
    subst (λ t. P (if t then needs_own h y else if knows_dead h.worker y.owner then faults h (fault OwnerDied y) else says h y.owner (Where y))) (sym own) p

pub goes_on_then : (h : WorkerContext) (y : Id) → GoesOnHere h → GoesOnHere (release_step (rests_if_waiting h y))
goes_on_then h y (next, is, ready) = (next, release_step-run (rests_if_waiting h y) ∙ rested ∙ is, ready)
  where
    rested : (rests_if_waiting h y).worker.run ≡ h.worker.run
    rested = at_test (λ t. (if t then gives_slot_back h else h).worker.run ≡ h.worker.run) (is_waiting_for h.worker y) (λ _. refl) (λ _. refl)

pub fetches_then : (me home : ℕ) (h : WorkerContext) (y : Id) (number : ℕ) → Fetches me home y number h →
    Fetches me home y number (release_step (rests_if_waiting h y))
fetches_then me home h y number (n, other, sent) =
    let l = envelope (TheWorker me) (TheNode n) (Fetch y number) in
    (n, other, sent_after l (rests_if_waiting h y) (rests_if_waiting-kept (Sent l) (sent_stays l) h y sent))
