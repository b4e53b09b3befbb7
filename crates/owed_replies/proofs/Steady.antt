-- What a worker's step leaves: its attempt is the same, and whoever waits for an own object waits on. Where it is asked for one, whoever asks waits.
use Rattle.std.proofs.Common.{◌≡◌, ℕ, List, [], ◌∷◌, ◌++◌, Some, None, Option, refl, ap, sym, subst, ◌∙◌, inl, inr, arith}
use Rattle.std.specs.Prelude.{true, false, if◌then◌else◌, not, ◌==◌, ◌&&◌, is_some, is_none}
use Rattle.std.specs.List.{filter}
use Rattle.std.proofs.lemmas.Bool.Decides.{nat_tests}
use Rattle.sequence.proofs.Places.{and_left, list_any-push_right}
use Rattle.meaning.proofs.BirthLaws.{at_test}
use Rattle.meaning.specs.Values.{Id}
use Rattle.event_log.specs.Entries.{Attempt, Fault, main_attempt}
use Rattle.event_log.specs.Words.{same_attempt}
use Rattle.protocol.specs.Messages.{At, TheWorker}
use Rattle.protocol.specs.Numbered.{changed_at, item_at}
use Rattle.protocol.specs.Sets.{has, is_empty, with_number}
use Rattle.protocol.specs.Tables.{HasFaulted, Object, Execution, Worker, has_content, has_stopped, is_lost, is_whole, knows_dead, owner_of, settled_number}
use Rattle.protocol.specs.Tables.{with_asker, without_location, is_nowhere}
use Rattle.protocol.specs.Steps.{WorkerContext, changes, is_own, object_at, own_object, says, with_run}
use Rattle.protocol.specs.Runs.{is_heard, leaves, leaves_by, leaves_if_free, tells}
use Rattle.protocol.specs.Locations.{answers_asker, answers_unsettled, asker_by, hands_missing_on, is_present, lets_wait, missing_reached, takes_location, tells_released, takes_location_by, where_reached}
use Rattle.protocol.specs.Recovery.{recovers}
use Rattle.smallest_steps.proofs.Known.{changed_here}
use Rattle.owed_replies.specs.Kept.{IsAwaitedBy}
use Rattle.owed_replies.proofs.Objects.{Grows, IsGrown, grows_itself, looked_up, then_grows}
use Rattle.owed_replies.proofs.Moves.{IsKept, recovers-kept}
use Rattle.protocol_owed.specs.Told.{attempt_by}
use Rattle.smallest_steps.proofs.Untouched.{tells_stop-worker}

pub record Steady (xs : List Object) (a : Option Attempt) (x : Worker) : Type 0 where
  pub grows : Grows xs x.objects
  pub attempt : attempt_by x.run ≡ a

module _ (xs : List Object) (a : Option Attempt) where
  abbrev pub IsSteady : WorkerContext → Type 0
  IsSteady h = Steady xs a h.worker

  run_steady : (h : WorkerContext) (run next : Execution) → h.worker.run ≡ Some run → next.attempt ≡ run.attempt → IsSteady h → IsSteady (with_run h next)
  run_steady h run next e same s = record { grows = s.grows; attempt = ap (λ b. Some b) same ∙ sym (ap attempt_by e) ∙ s.attempt }

  told_worker : (h : WorkerContext) (over : Execution) → (tells h over).worker ≡ (with_run h over).worker
  told_worker h over = tells_stop-worker (with_run h over) over over.phase

  pub leaves_steady : (h : WorkerContext) → IsSteady h → IsSteady (leaves_if_free h)
  leaves_steady h s = by_run h.worker.run refl
    where
      by_run : (r : Option Execution) → h.worker.run ≡ r → IsSteady (leaves_by h r)
      by_run None e = s
      by_run (Some run) e =
          let over : Execution = record run { is_over = true } in
          let told : IsSteady (tells h over) = subst (Steady xs a) (sym (told_worker h over)) (run_steady h run over e refl s) in
          at_test (λ b. IsSteady (if b then leaves h over else h)) (has_stopped run.phase && not run.is_over && is_empty run.holds)
          (λ _. at_test (λ b. IsSteady (if b then with_run h (record over { is_acknowledged = true }) else
          if knows_dead h.worker (owner_of over) then is_heard (tells h over) over else tells h over)) (same_attempt run.attempt main_attempt)
          (λ _. run_steady h run (record over { is_acknowledged = true }) e refl s)
          (λ _. at_test (λ b. IsSteady (if b then is_heard (tells h over) over else tells h over)) (knows_dead h.worker (owner_of over))
          (λ _. run_steady (tells h over) over (record over { is_acknowledged = true }) (ap (λ (x : Worker). x.run) (told_worker h over)) refl told) (λ _. told)))
          (λ _. s)

  pub steady_kept : IsKept IsSteady
  steady_kept = record {
    writes = λ h es q s. s;
    says = λ h w m i s. s;
    says_to_node = λ h n m s. s;
    objects = λ h ys g s. record { grows = then_grows xs h.worker.objects ys s.grows g; attempt = s.attempt };
    passes = λ h ks s. record { grows = s.grows; attempt = s.attempt };
    deaths = λ h vs ns s. record { grows = s.grows; attempt = s.attempt };
    store = λ h t s. s;
    frees = λ h s. s;
    fetches = λ h run y f g e q s. run_steady h run _ e refl s;
    heard = λ h run e s. run_steady h run _ e refl s;
    gets = λ h run c y f e q s. run_steady h run _ e refl s;
    faults = λ h run f y g e q s. leaves_steady _ (run_steady h run (record run { phase = HasFaulted f }) e refl s);
    acknowledged = λ h run test e s. leaves_steady _ (run_steady h run (record run { holds = filter test run.holds }) e refl s);
  }

-- ---- whoever asks waits

-- the worker waits for the object of that serial, or it is answered
pub record IsAwaited (k v : ℕ) (ys : List Object) : Type 0 where
  pub object : Object
  pub there : item_at ys k ≡ Some object
  pub waits : IsAwaitedBy v object

pub still_awaited : (k v : ℕ) (xs ys : List Object) → Grows xs ys → IsAwaited k v xs → IsAwaited k v ys
still_awaited k v xs ys grows w =
    let y : IsGrown ys k w.object = grows k w.object w.there in
    record { object = y.object; there = y.there; waits = elim w.waits [ inl e ↦ y.succeeds.askers v e | inr i ↦ inr (y.succeeds.answered i) ] }

has_asker : (ws : List ℕ) (v : ℕ) → has (with_number ws v) v ≡ true
has_asker ws v = at_test (λ b. has ws v ≡ b → has (if b then ws else ws ++ v ∷ []) v ≡ true) (has ws v) (λ _ e. e)
    (λ _ _. list_any-push_right (λ i. i == v) ws v (equal v)) refl
  where
    equal : (n : ℕ) → (n == n) ≡ true
    equal n = grind (arith, nat_tests)

module _ (h : WorkerContext) (v : ℕ) (o : Id) where
  abbrev Awaited : WorkerContext → Type 0
  Awaited g = IsAwaited o.serial v g.worker.objects

  waits_now : (x : Object) → item_at h.worker.objects o.serial ≡ Some x → Awaited (changes h o (with_asker v))
  waits_now x at = record {
    object = with_asker v x;
    there = changed_here h.worker.objects o.serial (with_asker v) x at;
    waits = inl (has_asker x.askers v);
  }

  lets_it_wait : (x : Object) → item_at h.worker.objects o.serial ≡ Some x → Awaited (lets_wait h o v x)
  lets_it_wait x at =
      let g : WorkerContext = changes h o (with_asker v) in
      at_test (λ b. Awaited (if b then recovers g o else g)) (is_lost h.worker.objects x)
      (λ _. still_awaited o.serial v g.worker.objects (recovers g o).worker.objects
      (recovers-kept (IsSteady g.worker.objects (attempt_by g.worker.run)) (steady_kept g.worker.objects (attempt_by g.worker.run)) g o
      (record { grows = grows_itself g.worker.objects; attempt = refl })).grows (waits_now x at))
      (λ _. waits_now x at)

  settled_of : (x : Object) → has_content x ≡ true → is_some x.settled ≡ true
  settled_of x e =
      and_left (is_some x.settled) (is_none x.fault)
      (and_left (is_some x.settled && is_none x.fault) (not x.is_released) (and_left (is_whole x) (not (is_nowhere x)) e))

  -- a released one has a fault or a content
  abbrev Rests : Object → Type 0
  Rests x = x.is_released ≡ true → x.fault ≡ None → is_some x.settled ≡ true

  told_waits : (x : Object) → item_at h.worker.objects o.serial ≡ Some x → is_some x.settled ≡ true → (e : Option Id) → Awaited (tells_released h o v e)
  told_waits x at settled None = record { object = x; there = at; waits = inr (inl settled) }
  told_waits x at settled (Some e) = record { object = x; there = at; waits = inr (inl settled) }

  asker_waits : (x : Object) → item_at h.worker.objects o.serial ≡ Some x → Rests x → (f : Option Fault) → x.fault ≡ f → Awaited (answers_asker h o v x f)
  asker_waits x at rests None e =
      at_test (λ b. has_content x ≡ b → Awaited (if b then says h v (At o (settled_number x) x.locations x.kept) else answers_unsettled h o v x)) (has_content x)
      (λ _ t. record { object = x; there = at; waits = inr (inl (settled_of x t)) })
      (λ _ _. at_test (λ b. Awaited (if b then tells_released h o v x.dead_holder else lets_wait h o v x)) x.is_released
      (λ r. told_waits x at (rests r e) x.dead_holder) (λ _. lets_it_wait x at)) refl
  asker_waits x at rests (Some f) e = record { object = x; there = at; waits = inr (inr (ap is_some e)) }

  pub where_waits : (x : Object) → object_at h o ≡ Some x → Rests x → (v == h.me) ≡ false → Awaited (where_reached h v o)
  where_waits x at rests other =
      subst (λ y. Awaited (asker_by h o v y)) (sym at)
      (subst (λ b. Awaited (if b then h else answers_asker h o v x x.fault)) (sym other) (asker_waits x (looked_up h o x at) rests x.fault refl))

-- after a place was taken out too
pub missing_waits : (h : WorkerContext) (v : ℕ) (o : Id) (number n : ℕ) (x : Object) → is_own h o ≡ true → item_at h.worker.objects o.serial ≡ Some x →
    (x.is_released ≡ true → x.fault ≡ None → is_some x.settled ≡ true) → (v == h.me) ≡ false →
    IsAwaited o.serial v (missing_reached h (TheWorker v) o number n).worker.objects
missing_waits h v o number n x own at rests other =
    let there : object_at h o ≡ Some x = ap (λ b. if b then own_object h o.serial else None) own ∙ at in
    subst (λ b. IsAwaited o.serial v (if b then where_reached (takes_location h o number n) v o else hands_missing_on h o number n).worker.objects) (sym own)
    (subst (λ y. IsAwaited o.serial v (where_reached (takes_location_by h o number n y) v o).worker.objects) (sym there)
    (at_test (λ b. IsAwaited o.serial v (where_reached (if b then changes h o (without_location n) else h) v o).worker.objects) (is_present number x)
    (λ _. where_waits (changes h o (without_location n)) v o (without_location n x)
    (ap (λ b. if b then item_at (changed_at h.worker.objects o.serial (without_location n)) o.serial else None) own ∙
    changed_here h.worker.objects o.serial (without_location n) x at) rests other)
    (λ _. where_waits h v o x there rests other)))
