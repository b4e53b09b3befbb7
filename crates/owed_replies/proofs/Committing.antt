-- How an attempt begins here, is given out and is committed, and how an end is accepted, keeps what is true of messages and attempts.
use Rattle.std.proofs.Common.{◌≡◌, ℕ, zero, suc, ◌+◌, List, [], ◌∷◌, ◌++◌, length, Some, None, Option, refl, ap, sym, subst, ◌∙◌, ◌⊎◌, inl, inr}
use Rattle.std.specs.Prelude.{map, Bool, true, false, if◌then◌else◌, not, ◌==◌, ◌&&◌}
use Rattle.std.specs.List.{list_any}
use Rattle.std.proofs.lemmas.Bool.{both_ways}
use Rattle.meaning.proofs.BirthLaws.{at_test}
use Rattle.meaning.specs.Readings.{IsBorn}
use Rattle.meaning.specs.Runs.{Needs, Over, Stop, behind, ids_from, next_id}
use Rattle.meaning.specs.Values.{Birth, Id, Outcome, Put, Task, Value, results_of}
use Rattle.values.specs.Listed.{each_once, ids_in_outcome}
use Rattle.event_log.specs.Commits.{commit_entries}
use Rattle.event_log.specs.Breaks.{Among}
use Rattle.event_log.specs.Entries.{Accepted, Attempt, Ended, Entry, Faulted, OwnerDied, Released}
use Rattle.event_log.specs.Holding.{ids_of_birth}
use Rattle.event_log.specs.Words.{attempt, births, same_attempt}
use Rattle.protocol.specs.Jobs.{AtEnd, AtGet, Outcomes, Stopped, stop_of}
use Rattle.protocol.specs.Messages.{EndedResult}
use Rattle.protocol.specs.Messages.{Ask, Hold, Envelope, TheWorker, Unhold, WasReleased, Where}
use Rattle.protocol.specs.Numbered.{item_at}
use Rattle.protocol.specs.Sets.{fault}
use Rattle.protocol.specs.Stores.{Store, with_ended}
use Rattle.protocol.specs.Tables.{AskedAt, HasEnded, HasFaulted, Holding, Object, Out, OwnTask, Execution, Waits, is_waiting_for, knows_dead, needed_by}
use Rattle.protocol.specs.Tables.{new_run, new_task, put_object, released, with_content, with_dead_holder, with_holder, without_holder}
use Rattle.protocol.specs.Steps.{WorkerContext, changes, each_from, is_own, logs_all, object_at, own_id, own_object, says, says_to_node, store_here, with_run, with_store}
use Rattle.protocol.specs.Steps.{with_task_of, with_worker}
use Rattle.protocol.specs.Runs.{begins_run, faults, gives_slot_back, is_free, push_reached}
use Rattle.protocol.specs.Asking.{asks_at, rests}
use Rattle.protocol.specs.Locations.{needs_own}
use Rattle.protocol.specs.Holders.{adds_holder, awaits_hold_by, holding, holds_id, holds_ids, same_holding, sends_hold, unhold_reached, with_holding}
use Rattle.protocol.specs.Commits.{bears, bears_all, claim_by, claim_step, commit_by, commit_step, ends, needs}
use Rattle.protocol.specs.Commits.{each_holds, keeps_content, keeps_contents, next_id_here, rests_if_waiting, stops, stops_by, task_objects, with_objects, with_outcomes}
use Rattle.protocol.specs.Ends.{accepts, finished_reached, settles}
use Rattle.protocol.specs.Releases.{drops_copies, going_with, lets_all_go, marks_released, may_release, lets_go, lets_go_of, release_pass, release_passes, release_step, releases_all, releases_by, entries_made}
use Rattle.protocol_owed.proofs.Envelopes.{among-append_cases, among-push_cases}
use Rattle.owed_replies.specs.Kept.{IsBornIn, IsOverInTime, RunIsRight}
use Rattle.owed_replies.proofs.Objects.{Grows, joined_grows, put_grows, same_grows, succeeds_alike}
use Rattle.smallest_steps.proofs.Over.{each_from-kept, settles-kept}
use Rattle.owed_replies.proofs.Moves.{finished_reached-kept, needs_own-kept, rests_if_waiting-kept}
use Rattle.owed_replies.proofs.Paying.{Does, Pays, frees_does, leaves_pays, objects_does, pays_kept, run_does, said, says_to_node_does, writes_does}

-- ---- releases leave the attempt as it is

abbrev IsAs : Option Execution → WorkerContext → Type 0
IsAs r h = h.worker.run ≡ r

either_run : (r : Option Execution) (b : Bool) (x y : WorkerContext) → IsAs r x → IsAs r y → IsAs r (if b then x else y)
either_run r true x y p q = p
either_run r false x y p q = q

lets_go_of-run : (r : Option Execution) (h : WorkerContext) (e o : Id) → IsAs r h → IsAs r (lets_go_of h e o)
lets_go_of-run r h e o p = either_run r (is_own h o) (unhold_reached h e o WasReleased) (says h o.owner (Unhold e o WasReleased)) (either_run r (is_own h o) (changes h o (without_holder e)) h p p) p

lets_go-run : (r : Option Execution) (h : WorkerContext) (e : Id) (os : List Id) → IsAs r h → IsAs r (lets_go h e os)
lets_go-run r h e [] p = p
lets_go-run r h e (o ∷ os) p = lets_go-run r (lets_go_of h e o) e os (lets_go_of-run r h e o p)

drops_copies-run : (r : Option Execution) (h : WorkerContext) (e : Id) (ns : List ℕ) → IsAs r h → IsAs r (drops_copies h e ns)
drops_copies-run r h e [] p = p
drops_copies-run r h e (n ∷ ns) p = drops_copies-run r (says_to_node h n (Unhold e e WasReleased)) e ns p

each-run : (r : Option Execution) (f : WorkerContext → ℕ → WorkerContext) → ((g : WorkerContext) (k : ℕ) → IsAs r g → IsAs r (f g k)) → (h : WorkerContext) (k n : ℕ) → IsAs r h → IsAs r (each_from f h k n)
each-run r f each h k zero p = p
each-run r f each h k (suc n) p = each-run r f each (f h k) (k + 1) n (each h k p)

lets_all_go-run : (r : Option Execution) (h : WorkerContext) (e : Id) (x : Option Object) → IsAs r h → IsAs r (lets_all_go h e x)
lets_all_go-run r h e None p = p
lets_all_go-run r h e (Some x) p = drops_copies-run r (lets_go h e x.ids) e x.all_locations (lets_go-run r h e x.ids p)

releases_all-run : (r : Option Execution) (h : WorkerContext) (k n : ℕ) → IsAs r h → IsAs r (releases_all h k n)
releases_all-run r h k n p =
    each-run r (λ g i. lets_all_go g (own_id g i) (own_object g i)) (λ g i q. lets_all_go-run r g (own_id g i) (own_object g i) q)
    (logs_all (marks_released h k n) (map Released (ids_from (own_id h k) n))) k n
    (each-run r (λ g i. changes g (own_id g i) released) (λ g i q. q) h k n p)

releases_by-run : (r : Option Execution) (h : WorkerContext) (k : ℕ) (x : Option Object) → IsAs r h → IsAs r (releases_by h k x)
releases_by-run r h k None p = p
releases_by-run r h k (Some x) p =
    either_run r (may_release h.worker k x) (releases_all h k (going_with x.source)) h (releases_all-run r h k (going_with x.source) p) p

release_pass-run : (r : Option Execution) (h : WorkerContext) → IsAs r h → IsAs r (release_pass h)
release_pass-run r h p = each-run r (λ g k. releases_by g k (own_object g k)) (λ g k q. releases_by-run r g k (own_object g k) q) h 1 (length h.worker.objects) p

release_passes-run : (r : Option Execution) (b : Bool) (n : ℕ) (h : WorkerContext) → IsAs r h → IsAs r (release_passes b n h)
release_passes-run r true n h p = p
release_passes-run r false zero h p = p
release_passes-run r false (suc n) h p =
    release_passes-run r (entries_made (release_pass h) == entries_made h) n (release_pass h) (release_pass-run r h p)

pub release_step-run : (h : WorkerContext) → (release_step h).worker.run ≡ h.worker.run
release_step-run h = release_passes-run h.worker.run false (length h.worker.objects + 1) h refl

-- ---- what a commit logs

commits_accept_none : (a b : Attempt) (o : Id) (bs : List Birth) (vs : List Value) (stop : Stop) → Among (Accepted b) (commit_entries a o bs vs stop) → ⊥
commits_accept_none a b o (x ∷ bs) vs stop (zero, e) = cc
commits_accept_none a b o (x ∷ bs) vs stop (suc k, e) = commits_accept_none a b (behind o x) bs vs stop (k, e)
commits_accept_none a b o [] (v ∷ vs) stop (zero, e) = cc
commits_accept_none a b o [] (v ∷ vs) stop (suc k, e) = commits_accept_none a b o [] vs stop (k, e)
commits_accept_none a b o [] [] (Over c) (zero, e) = cc
commits_accept_none a b o [] [] (Over c) (suc k, e) = cc
commits_accept_none a b o [] [] (Needs y) (k, e) = cc

commits_end_own : (a b : Attempt) (c : List Outcome) (o : Id) (bs : List Birth) (vs : List Value) (stop : Stop) → Among (Ended b c) (commit_entries a o bs vs stop) → a ≡ b
commits_end_own a b c o (x ∷ bs) vs stop (zero, e) = absurd (cc)
commits_end_own a b c o (x ∷ bs) vs stop (suc k, e) = commits_end_own a b c (behind o x) bs vs stop (k, e)
commits_end_own a b c o [] (v ∷ vs) stop (zero, e) = absurd (cc)
commits_end_own a b c o [] (v ∷ vs) stop (suc k, e) = commits_end_own a b c o [] vs stop (k, e)
commits_end_own a b c o [] [] (Over d) (zero, e) = cc
commits_end_own a b c o [] [] (Over d) (suc k, e) = absurd (cc)
commits_end_own a b c o [] [] (Needs y) (k, e) = absurd (cc)

pub held_among : (ks : List Holding) (k j : Holding) → Among j (with_holding ks k) → Among j ks ⊎ (j ≡ k)
held_among ks k j =
    at_test (λ b. Among j (if b then ks else ks ++ k ∷ []) → Among j ks ⊎ (j ≡ k)) (list_any (λ i. same_holding i k) ks)
    (λ _ i. inl i) (λ _ i. among-push_cases ks k j i)

-- ---- an acceptance

pub own_item : (h : WorkerContext) (o : Id) (x : Object) → object_at h o ≡ Some x → (is_own h o ≡ true) × (item_at h.worker.objects o.serial ≡ Some x)
own_item h o x e =
    at_test (λ b. is_own h o ≡ b → (if b then own_object h o.serial else None) ≡ Some x → (is_own h o ≡ true) × (item_at h.worker.objects o.serial ≡ Some x))
    (is_own h o) (λ _ t f. (t, f)) (λ _ _ f. absurd (cc)) refl e

-- ---- steps that stand apart

module _ (log : List Entry) (net : List Envelope) (me : ℕ) (old : List Object) (ok fin : Attempt → Type 0) where
  abbrev Q : WorkerContext → Type 0
  Q = Does log net me old ok fin

  abbrev P : WorkerContext → Type 0
  P = Pays log net me old ok fin

  some_run : (x r : Execution) → Some x ≡ Some r → x ≡ r
  some_run x r e = cc

  in_phase_there : (g : WorkerContext) (next : Execution) → g.worker.run ≡ Some next → IsOverInTime next → Q g → P g
  in_phase_there g next e i q = record { does = q; in_time = λ r f. subst IsOverInTime (some_run next r (sym e ∙ f)) i }

  in_phase : (h : WorkerContext) (next : Execution) → IsOverInTime next → Q (with_run h next) → P (with_run h next)
  in_phase h next i q = record { does = q; in_time = λ r e. subst IsOverInTime (some_run next r e) i }

  -- an attempt begins, and none was answered so far
  pub push_pays : (h : WorkerContext) (a : Attempt) (spec : Birth) → P h → P (push_reached h a spec)
  push_pays h a spec p =
      at_test (λ b. P (if b then begins_run h a spec else h)) (is_free h.worker.run && not (list_any (λ b. same_attempt b a) h.worker.began))
      (λ _. record {
        does = record {
          who = p.does.who;
          objects = p.does.objects;
          run = λ r e. let same : new_run a spec (own_id h (length h.worker.objects + 1)) ≡ r = some_run _ r e in
              subst (RunIsRight log (net ++ h.there.out.envelopes) me) same (record {
                needs = λ y i. absurd (cc);
                holds = λ k i. absurd (none k i);
                told = λ c i. absurd (cc);
                main = λ _ i. absurd (cc);
              });
          out = p.does.out;
        };
        in_time = λ r e. subst IsOverInTime (some_run _ r e) (λ t. absurd (cc));
      }) (λ _. p)
    where
      none : (k : Holding) → Among k [] → ⊥
      none k (i, e) = cc

  pub claim_pays : (h : WorkerContext) (j : ℕ) → P h → P (claim_step h j)
  claim_pays h j p = by_run h.worker.run refl
    where
      by_run : (r : Option Execution) → h.worker.run ≡ r → P (claim_by h j r)
      by_run None e = p
      by_run (Some run) e =
          let r = p.does.run run e in
          in_phase h (record run { phase = Out j }) (λ t. absurd (cc)) (run_does log net me old ok fin h (record run { phase = Out j })
          (record { needs = λ y i. absurd (cc); holds = r.holds; told = λ c i. absurd (cc); main = r.main }) p.does)

  -- ---- births

  -- the attempt isn't over
  abbrev IsGoing : WorkerContext → Type 0
  IsGoing h = (run : Execution) → h.worker.run ≡ Some run → run.is_over ≡ false

  sends_hold_does : (h : WorkerContext) (e o : Id) → IsBornIn log o → Q h → IsGoing h → Q (sends_hold h e o) × IsGoing (sends_hold h e o)
  sends_hold_does h e o b q g = by_run h.worker.run refl
    where
      by_run : (r : Option Execution) → h.worker.run ≡ r → Q (says (awaits_hold_by h (holding e o) r) o.owner (Hold e o)) × IsGoing (says (awaits_hold_by h (holding e o) r) o.owner (Hold e o))
      by_run None i = (said log net me old ok fin h (TheWorker o.owner) (Hold e o) (refl, b) q, g)
      by_run (Some run) i =
          let r = q.run run i in
          let next : Execution = record run { holds = with_holding run.holds (holding e o) } in (
            said log net me old ok fin (with_run h next) (TheWorker o.owner) (Hold e o) (refl, b) (run_does log net me old ok fin h next (record {
              needs = r.needs;
              holds = λ k j. elim (held_among run.holds (holding e o) k j) [ inl f ↦ r.holds k f | inr f ↦ subst (λ (m : Holding). IsBornIn log m.object) (sym f) b ];
              told = r.told;
              main = r.main;
            }) q),
            λ s f. let same : next ≡ s = some_run next s f in subst (λ (x : Execution). x.is_over ≡ false) same (g run i),
          )

  abbrev Both : WorkerContext → Type 0
  Both h = Q h × IsGoing h

  either_both : (b : Bool) (x y : WorkerContext) → Both x → Both y → Both (if b then x else y)
  either_both true x y p q = p
  either_both false x y p q = q

  changes_both : (h : WorkerContext) (ys : List Object) → Grows h.worker.objects ys → Both h → Both (with_worker h (record h.worker { objects = ys }))
  changes_both h ys grows b = (objects_does log net me old ok fin h ys grows b.0, b.1)

  adds_holder_does : (h : WorkerContext) (e o : Id) → Both h → Both (adds_holder h e o)
  adds_holder_does h e o q =
      let g : WorkerContext = changes h o (with_holder e) in
      let added : Both g = changes_both h _ (same_grows h.worker.objects o.serial (with_holder e) (λ y. succeeds_alike y (with_holder e y) refl refl refl)) q in
      either_both (knows_dead h.worker e.owner) _ _
      (changes_both g _ (same_grows g.worker.objects o.serial (with_dead_holder e) (λ y. succeeds_alike y (with_dead_holder e y) refl refl refl)) added) added

  holds_id_does : (h : WorkerContext) (e o : Id) → IsBornIn log o → Both h → Both (holds_id h e o)
  holds_id_does h e o b q =
      either_both (is_own h o) _ _ (adds_holder_does h e o q)
      (either_both (knows_dead h.worker o.owner) h (sends_hold h e o) q (sends_hold_does h e o b q.0 q.1))

  holds_ids_does : (h : WorkerContext) (e : Id) (os : List Id) → ((o : Id) → Among o os → IsBornIn log o) → Both h → Both (holds_ids h e os)
  holds_ids_does h e [] b q = q
  holds_ids_does h e (o ∷ os) b q = holds_ids_does (holds_id h e o) e os (λ p i. b p (suc i.0, i.1)) (holds_id_does h e o (b o (zero, refl)) q)

  passes_both : (h : WorkerContext) (ks : List Holding) → Both h → Both (with_worker h (record h.worker { passed_on = ks }))
  passes_both h ks (q, g) = (record { who = q.who; objects = q.objects; run = q.run; out = q.out }, g)

  with_store_both : (h : WorkerContext) (s : Store) → Both h → Both (with_store h s)
  with_store_both h s (q, g) = (record { who = q.who; objects = q.objects; run = q.run; out = record { envelopes = q.out.envelopes; quiet = q.out.quiet; ended = q.out.ended } }, g)

  asks_both : (h : WorkerContext) (o : Id) (task : OwnTask) (t n : ℕ) → Both h → Both (asks_at h o task t n)
  asks_both h o task t n q =
      let next : OwnTask = record task { progress = AskedAt t n } in
      let r = changes_both h _ (put_grows h o next) q in
      (says_to_node_does log net me old ok fin (with_task_of h o next) n (Ask (attempt o task.number) t) r.0, r.1)

  each_holds_both : (h : WorkerContext) (e : Id) (task : OwnTask) (ids : List Id) → ((o : Id) → Among o ids → IsBornIn log o) → Both h → Both (each_holds h e task ids)
  each_holds_both h e task ids born q =
      each_from-kept Both (λ g k. holds_ids g (own_id g k) ids) (λ g k. holds_ids_does g (own_id g k) ids born) h e.serial (results_of task.spec) q

  bears_both : (h : WorkerContext) (a : Attempt) (b : Birth) → ((o : Id) → Among o (each_once (ids_of_birth b)) → IsBornIn log o) → Both h → Both (bears h a b)
  bears_both h a (Put v) ids q =
      holds_ids_does _ (next_id_here h) (each_once (ids_of_birth (Put v))) ids
      (with_store_both _ _ (changes_both h _ (joined_grows h.worker.objects (put_object a (each_once (ids_of_birth (Put v))) h.worker.node ∷ [])) q))
  bears_both h a (Task g args depth retries others) ids q =
      let spec : Birth = Task g args depth retries others in
      let names : List Id = each_once (ids_of_birth spec) in
      let xs : List Object = task_objects a (next_id_here h).serial spec others names in
      asks_both (each_holds (with_objects h xs) (next_id_here h) (new_task spec) names) (next_id_here h) (new_task spec) 0 _
      (each_holds_both (with_objects h xs) (next_id_here h) (new_task spec) names ids (changes_both h _ (joined_grows h.worker.objects xs) q))

  bears_all_both : (h : WorkerContext) (a : Attempt) (bs : List Birth) → ((b : Birth) → Among b bs → (o : Id) → Among o (each_once (ids_of_birth b)) → IsBornIn log o) → Both h → Both (bears_all h a bs)
  bears_all_both h a [] ids q = q
  bears_all_both h a (b ∷ bs) ids q = bears_all_both (bears h a b) a bs (λ c i. ids c (suc i.0, i.1)) (bears_both h a b (ids b (zero, refl)) q)

  -- ---- stops

  if_run : (b : Bool) (x y : WorkerContext) (r : Option Execution) → x.worker.run ≡ r → y.worker.run ≡ r → (if b then x else y).worker.run ≡ r
  if_run true x y r p q = p
  if_run false x y r p q = q

  abbrev NeedIsBorn : WorkerContext → Id → Type 0
  NeedIsBorn g y = needed_by g.worker.run ≡ Some y → (y.owner == me) ≡ false → IsBorn (births log) y

  needs_pays : (h : WorkerContext) (run : Execution) (y : Id) → h.worker.run ≡ Some run → NeedIsBorn (needs h run y) y → Both h → P (needs h run y)
  needs_pays h run y e later q =
      let r = q.0.run run e in
      let next : Execution = record run { phase = Waits y None } in
      let g : WorkerContext = with_run h next in
      at_test (λ b. is_own h y ≡ b →
      NeedIsBorn (rests_if_waiting (if b then needs_own g y else if knows_dead h.worker y.owner then faults g (fault OwnerDied y) else says g y.owner (Where y)) y) y →
      P (rests_if_waiting (if b then needs_own g y else if knows_dead h.worker y.owner then faults g (fault OwnerDied y) else says g y.owner (Where y)) y))
      (is_own h y)
      (λ _ own _. rests_if_waiting-kept P (pays_kept log net me old ok fin) (needs_own g y) y (needs_own-kept P (pays_kept log net me old ok fin) g y
      (in_phase h next (λ t. absurd (cc)) (run_does log net me old ok fin h next (record {
        needs = λ z i foreign. absurd (not_own y z (subst (λ v. (y.owner == v) ≡ true) q.0.who own) foreign (same_need z i));
        holds = r.holds;
        told = λ c i. absurd (cc);
        main = r.main;
      }) q.0))))
      (λ _ foreign needed.
      at_test (λ b. NeedIsBorn (rests_if_waiting (if b then faults g (fault OwnerDied y) else says g y.owner (Where y)) y) y →
      P (rests_if_waiting (if b then faults g (fault OwnerDied y) else says g y.owner (Where y)) y)) (knows_dead h.worker y.owner)
      (λ _ _. rests_if_waiting-kept P (pays_kept log net me old ok fin) (faults g (fault OwnerDied y)) y
      (leaves_pays log net me old ok fin _ (frees_does log net me old ok fin _ (writes_does log net me old ok fin (with_run h (record run { phase = HasFaulted (fault OwnerDied y) }))
      (Faulted run.attempt y (fault OwnerDied y) ∷ []) refl
      (run_does log net me old ok fin h (record run { phase = HasFaulted (fault OwnerDied y) })
      (record { needs = λ z i. absurd (cc); holds = r.holds; told = λ c i. absurd (cc); main = r.main }) q.0)))))
      (λ _ needs_it.
      let said_so : WorkerContext = says g y.owner (Where y) in
      let is_born : IsBorn (births log) y = needs_it (ap needed_by (if_run (is_waiting_for said_so.worker y) (gives_slot_back said_so) said_so (Some next) refl refl))
      (subst (λ v. (y.owner == v) ≡ false) q.0.who foreign) in
      rests_if_waiting-kept P (pays_kept log net me old ok fin) said_so y
      (in_phase_there said_so next refl (λ t. absurd (cc))
      (said log net me old ok fin g (TheWorker y.owner) (Where y) (refl, foreign, is_born)
      (run_does log net me old ok fin h next (record {
        needs = λ z i _. subst (IsBorn (births log)) (same_need z i) is_born;
        holds = r.holds;
        told = λ c i. absurd (cc);
        main = r.main;
      }) q.0)))) needed) refl later
    where
      same_need : (z : Id) → Some y ≡ Some z → y ≡ z
      same_need z i = cc

      not_own : (x z : Id) → (x.owner == me) ≡ true → (z.owner == me) ≡ false → x ≡ z → ⊥
      not_own x z own foreign same = let f : (z.owner == me) ≡ true = subst (λ (i : Id). (i.owner == me) ≡ true) same own in cc

  keeps_contents_both : (h : WorkerContext) (o : Id) (number : ℕ) (cs : List Outcome) →
      ((c : Outcome) → Among c cs → (z : Id) → Among z (each_once (ids_in_outcome c)) → IsBornIn log z) → Both h → Both (keeps_contents h o number cs)
  keeps_contents_both h o number [] ids q = q
  keeps_contents_both h o number (c ∷ cs) ids q =
      let stored : WorkerContext = with_store h (with_ended (store_here h) o number c) in
      keeps_contents_both (keeps_content h o number c) (next_id o) number cs (λ d i. ids d (suc i.0, i.1))
      (holds_ids_does _ o (each_once (ids_in_outcome c)) (ids c (zero, refl)) (passes_both stored _ (with_store_both _ _ q)))

  ends_pays : (h : WorkerContext) (run : Execution) (cs : List Outcome) → h.worker.run ≡ Some run →
      ((c : Outcome) → Among c cs → (o : Id) → Among o (each_once (ids_in_outcome c)) → IsBornIn log o) → Both h → P (ends h run cs)
  ends_pays h run cs e ids q =
      let r = q.0.run run e in
      let next : Execution = record run { phase = HasEnded cs } in
      let going : run.is_over ≡ false = q.1 run e in
      let ended : Both (with_run h next) = (
        run_does log net me old ok fin h next (record {
          needs = λ z i. absurd (cc);
          holds = r.holds;
          told = λ _ _ over. absurd (both_ways run.is_over going over);
          main = r.main;
        }) q.0,
        λ s f. let same : next ≡ s = some_run next s f in subst (λ (x : Execution). x.is_over ≡ false) same going,
      ) in
      let held = keeps_contents_both (with_run h next) run.attempt.object run.attempt.number cs ids ended in
      (pays_kept log net me old ok fin).frees _ (leaves_pays log net me old ok fin _ held.0)

  stops_pays : (h : WorkerContext) (stop : Stopped) → ((y : Id) → stop ≡ AtGet y → NeedIsBorn (stops h stop) y) → ((cs : List Outcome) → stop ≡ AtEnd cs → (c : Outcome) → Among c cs → (o : Id) → Among o (each_once (ids_in_outcome c)) → IsBornIn log o) →
      Both h → P (stops h stop)
  stops_pays h stop later ids q = by_run h.worker.run refl stop refl
    where
      nobody : (r : Execution) → None ≡ Some r → IsOverInTime r
      nobody r g = absurd (cc)

      by_run : (r : Option Execution) → h.worker.run ≡ r → (s : Stopped) → stop ≡ s → P (stops_by h s r)
      by_run None e s f = record { does = q.0; in_time = λ r g. nobody r (sym e ∙ g) }
      by_run (Some run) e (AtGet y) f = needs_pays h run y e (subst (λ i. NeedIsBorn i y) (there f) (later y f)) q
        where
          there : stop ≡ AtGet y → stops h stop ≡ needs h run y
          there g = ap (stops h) g ∙ ap (stops_by h (AtGet y)) e
      by_run (Some run) e (AtEnd cs) f = ends_pays h run cs e (ids cs f) q

  -- ---- a commit

  -- what the commit's births and its end name was born, and so was what the attempt waits for then
  pub record NamesBorn (h : WorkerContext) (d : Outcomes) : Type 0 where
    pub births : (b : Birth) → Among b d.births → (o : Id) → Among o (each_once (ids_of_birth b)) → IsBornIn log o
    pub end : (cs : List Outcome) → d.stop ≡ AtEnd cs → (c : Outcome) → Among c cs → (o : Id) → Among o (each_once (ids_in_outcome c)) → IsBornIn log o
    pub need : (y : Id) → d.stop ≡ AtGet y → NeedIsBorn (commit_step h d) y

  -- births, prints and the attempt's own end
  writes_commit : (h : WorkerContext) (run : Execution) (d : Outcomes) (g : WorkerContext) → fin run.attempt → Q g →
      Q (logs_all g (commit_entries run.attempt (next_id_here h) d.births d.prints (stop_of d.stop)))
  writes_commit h run d g fine q =
      let es : List Entry = commit_entries run.attempt (next_id_here h) d.births d.prints (stop_of d.stop) in
      record {
        who = q.who;
        objects = q.objects;
        run = q.run;
        out = record {
          envelopes = q.out.envelopes;
          quiet = λ b i. elim (among-append_cases g.there.out.entries es _ i) [
            | inl f ↦ q.out.quiet b f
            | inr f ↦ absurd (commits_accept_none run.attempt b (next_id_here h) d.births d.prints (stop_of d.stop) f)
          ];
          ended = λ b c i. elim (among-append_cases g.there.out.entries es _ i) [
            | inl f ↦ q.out.ended b c f
            | inr f ↦ subst fin (commits_end_own run.attempt b c (next_id_here h) d.births d.prints (stop_of d.stop) f) fine
          ];
        };
      }

  pub commit_pays : (h : WorkerContext) (d : Outcomes) (run : Execution) → h.worker.run ≡ Some run → run.is_over ≡ false → fin run.attempt → NamesBorn h d → P h →
      P (commit_step h d)
  commit_pays h d run e going fine names p =
      let r = p.does.run run e in
      let next : Execution = with_outcomes run d in
      let entries : List Entry = commit_entries run.attempt (next_id_here h) d.births d.prints (stop_of d.stop) in
      let logged : Both (logs_all (with_run h next) entries) = (
        writes_commit h run d (with_run h next) fine (run_does log net me old ok fin h next (record { needs = λ z i. absurd (cc); holds = r.holds; told = λ c i. absurd (cc); main = r.main }) p.does),
        λ s f. subst (λ (x : Execution). x.is_over ≡ false) (some_run next s f) going,
      ) in
      let bore = bears_all_both (logs_all (with_run h next) entries) run.attempt d.births names.births logged in
      let same : commit_step h d ≡ stops (bears_all (logs_all (with_run h next) entries) run.attempt d.births) d.stop = ap (commit_by h d) e in
      subst P (sym same)
      (stops_pays (bears_all (logs_all (with_run h next) entries) run.attempt d.births) d.stop (λ y f. subst (λ g. NeedIsBorn g y) same (names.need y f)) names.end bore)

  -- ---- an acceptance

  accepts_pays : (h : WorkerContext) (a : Attempt) (task : OwnTask) (n : ℕ) (rs : List EndedResult) → ok a → P h → P (accepts h a task n rs)
  accepts_pays h a task n rs k p =
      let kept = pays_kept log net me old ok fin in
      let g : WorkerContext = with_task_of h a.object (rests task) in
      let q : P g = kept.objects h _ (put_grows h a.object (rests task)) p in
      let settled : P (settles g a.object a.number n (results_of task.spec) rs) = settles-kept P
      (λ x o number m r t. kept.objects x _
      (same_grows x.worker.objects o.serial (with_content number m r.ids r.kept) (λ y. record { askers = λ w f. inr (inl refl); answered = λ _. inl refl })) t)
      (results_of task.spec) g a.object a.number n rs q in
      let before : List Entry = (settles g a.object a.number n (results_of task.spec) rs).there.out.entries in
      record {
        does = record {
          who = settled.does.who;
          objects = settled.does.objects;
          run = settled.does.run;
          out = record {
            envelopes = settled.does.out.envelopes;
            ended = λ b c i. elim (among-push_cases before (Accepted a) (Ended b c) i) [
              | inl f ↦ settled.does.out.ended b c f
              | inr f ↦ absurd (no_end b c f)
            ];
            quiet = λ b i. elim (among-push_cases before (Accepted a) (Accepted b) i) [
              | inl f ↦ settled.does.out.quiet b f
              | inr f ↦ let same : b ≡ a = cc in subst ok (sym same) k
            ];
          };
        };
        in_time = settled.in_time;
      }
    where
      no_end : (b : Attempt) (c : List Outcome) → Ended b c ≡ Accepted a → ⊥
      no_end b c e = absurd (cc)

  pub finish_pays : (h : WorkerContext) (w : ℕ) (a : Attempt) (n : ℕ) (rs : List EndedResult) → ok a → P h → P (finished_reached h w a n rs)
  finish_pays h w a n rs k p =
      finished_reached-kept P (pays_kept log net me old ok fin) (λ _ b. ok b) (λ g b task m ts u e t _ q. accepts_pays g b task m ts t q) h w a n rs k p
