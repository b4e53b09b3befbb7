-- What a commit logs of births, and of ends whose content isn't small, is in the store once it is done.
use Rattle.std.proofs.Common.{[], ap, arith, false, if◌then◌else◌, inl, inr, length, List, refl, Some, subst, suc, sym, zero, ℕ, ◌++◌, ◌+◌, ◌∙◌}
use Rattle.std.proofs.Common.{◌∷◌, ◌≡◌}
use Rattle.meaning.specs.Runs.{behind, Needs, next_id, Over, Stop}
use Rattle.meaning.specs.Values.{Birth, Id, Outcome, Put, Task, Val, Value}
use Rattle.values.specs.Cells.{is_small}
use Rattle.values.specs.Listed.{each_once, ids_in_outcome}
use Rattle.event_log.specs.Commits.{commit_entries}
use Rattle.event_log.specs.Breaks.{Among}
use Rattle.event_log.specs.Entries.{Attempt, Born, Ended, Entry}
use Rattle.event_log.specs.Holding.{ids_of_birth}
use Rattle.event_log.specs.Words.{attempt}
use Rattle.protocol.specs.Commits.{bears, bears_all, commit_by, commit_step, keeps_content, keeps_contents, next_id_here, stops_by, task_objects, with_objects, with_outcomes}
use Rattle.protocol.specs.Holders.{holds_ids, passes_on}
use Rattle.protocol.specs.Jobs.{AtEnd, AtGet, Outcomes, Stopped, stop_of}
use Rattle.protocol.specs.Runs.{leaves_if_free}
use Rattle.protocol.specs.Stores.{with_ended, with_primary}
use Rattle.protocol.specs.Steps.{WorkerContext, logs_all, own_id, store_here, with_phase, with_run, with_store}
use Rattle.protocol.specs.Tables.{HasEnded, Execution, put_object}
use Rattle.owed_asks.proofs.of_protocol_legal.Bearing.{still_holds}
use Rattle.protocol_owed.proofs.Owing.{next_birth}
use Rattle.smallest_steps.proofs.Over.{each_from-kept}
use Rattle.protocol.specs.Sets.{object_id}
use Rattle.std.specs.Prelude.{slice_get}
use Rattle.owed_laws.proofs.MadeCopies.{IsNewEnd, IsNewIn, IsNewPut, Stays, stays_kept}
use Rattle.smallest_steps.proofs.SlotMoves as S
use Rattle.owed_laws.proofs.StoreMoves as M
use Rattle.owed_laws.proofs.StoreMoves.{IsKept, Stores, stores_now}

-- ---- a copy that is there stays there

module _ (o : Id) (n : ℕ) where
  abbrev pub IsStored : WorkerContext → Type 0
  IsStored h = Stores (store_here h) o n

  there_stored : S.KeepsSlots (λ t. Stores t.node.store o n)
  there_stored = record { opens = λ t w p. p; replies = λ t k x p. p; scheduler = λ t s p. p }

  pub stored_stays : IsKept IsStored
  stored_stays = record {
    logs = λ h es q p. p;
    says = λ h w m p. p;
    says_to_node = λ h m x p. p;
    worker = λ h x _ _ p. p;
    store = λ h s keeps p. keeps o n p;
    frees = λ h p. S.frees-kept (λ t. Stores t.node.store o n) there_stored h.there h.me p;
    asks = λ h p. S.asks_slot-kept (λ t. Stores t.node.store o n) there_stored h.there h.me p;
  }

-- ---- births

no_birth : (a b : Attempt) (next o : Id) (vs : List Value) (stop : Stop) (x : Birth) → Among (Born o b x) (commit_entries a next [] vs stop) → ⊥
no_birth a b next o (v ∷ vs) stop x (zero, e) = cc
no_birth a b next o (v ∷ vs) stop x (suc k, e) = no_birth a b next o vs stop x (k, e)
no_birth a b next o [] (Over c) x (zero, e) = cc
no_birth a b next o [] (Over c) x (suc k, e) = cc
no_birth a b next o [] (Needs y) x (k, e) = cc

-- what is born is of the owner whose ids come next
born_own : (a b : Attempt) (next o : Id) (x : Birth) (bs : List Birth) (vs : List Value) (stop : Stop) → Among (Born o b x) (commit_entries a next bs vs stop) →
    o.owner ≡ next.owner
born_own a b next o x (y ∷ bs) vs stop (zero, e) = let same : next ≡ o = cc in ap (λ (i : Id). i.owner) (sym same)
born_own a b next o x (y ∷ bs) vs stop (suc k, e) = born_own a b (behind next y) o x bs vs stop (k, e)
born_own a b next o x [] vs stop i = absurd (no_birth a b next o vs stop x i)

-- each put that the commit bears is in the store
births_stored : (bs : List Birth) (h : WorkerContext) (a : Attempt) (vs : List Value) (stop : Stop) (o : Id) (b : Attempt) (v : Value) →
    Among (Born o b (Put v)) (commit_entries a (next_id_here h) bs vs stop) → IsStored o 0 (bears_all h a bs)
births_stored [] h a vs stop o b v born = absurd (no_birth a b (next_id_here h) o vs stop (Put v) born)
births_stored (Task g args depth retries others ∷ bs) h a vs stop o b v (zero, e) = absurd (cc)
births_stored (Put u ∷ bs) h a vs stop o b v (zero, e) =
    let same : next_id_here h ≡ o = cc in
    let ids : List Id = each_once (ids_of_birth (Put u)) in
    let p : Id = next_id_here h in
    let g : WorkerContext = with_store (with_objects h (put_object a ids h.worker.node ∷ [])) (with_primary (store_here h) p 0 (Val u)) in
    let held : IsStored p 0 (bears h a (Put u)) = M.holds_ids-kept (IsStored p 0) (stored_stays p 0) g p ids (stores_now (store_here h) p 0 (Val u)) in
    subst (λ i. IsStored i 0 (bears_all h a (Put u ∷ bs))) same (M.bears_all-kept (IsStored p 0) (stored_stays p 0) (bears h a (Put u)) a bs held)
births_stored (b ∷ bs) h a vs stop o d v (suc k, e) =
    births_stored bs (bears h a b) a vs stop o d v
    (subst (λ n. Among (Born o d (Put v)) (commit_entries a n bs vs stop)) (sym (next_birth h a b)) (k, e))

-- ---- ends

-- the attempt stays the one that it was
abbrev Runs : Attempt → WorkerContext → Type 0
Runs a h = (run : Execution) × (h.worker.run ≡ Some run) × (run.attempt ≡ a)

held_runs : (a : Attempt) (h : WorkerContext) (e : Id) (os : List Id) → Runs a h → Runs a (holds_ids h e os)
held_runs a h e os (run, is, same) =
    let s = still_holds h.me h.worker.node (length h.worker.objects) run e h os (record { me = refl; node = refl; count = refl; holds = run.holds; runs = is }) in
    (record run { holds = s.holds }, s.runs, same)

bears_runs : (a : Attempt) (h : WorkerContext) (b : Birth) → Runs a h → Runs a (bears h a b)
bears_runs a h (Put v) r =
    let ids : List Id = each_once (ids_of_birth (Put v)) in
    held_runs a (with_store (with_objects h (put_object a ids h.worker.node ∷ [])) (with_primary (store_here h) (next_id_here h) 0 (Val v))) (next_id_here h) ids r
bears_runs a h (Task g args depth retries others) r =
    let spec : Birth = Task g args depth retries others in
    let ids : List Id = each_once (ids_of_birth spec) in
    let o : Id = next_id_here h in
    each_from-kept (Runs a) (λ x k. holds_ids x (own_id x k) ids) (λ x k q. held_runs a x (own_id x k) ids q)
    (with_objects h (task_objects a o.serial spec others ids)) o.serial (suc others) r

bears_all_runs : (a : Attempt) (bs : List Birth) (h : WorkerContext) → Runs a h → Runs a (bears_all h a bs)
bears_all_runs a [] h r = r
bears_all_runs a (b ∷ bs) h r = bears_all_runs a bs (bears h a b) (bears_runs a h b r)

end_logged : (a b : Attempt) (c : List Outcome) (o : Id) (bs : List Birth) (vs : List Value) (stop : Stop) → Among (Ended b c) (commit_entries a o bs vs stop) → (a ≡ b) × (stop ≡ Over c)
end_logged a b c o (x ∷ bs) vs stop (zero, e) = absurd (cc)
end_logged a b c o (x ∷ bs) vs stop (suc k, e) = end_logged a b c (behind o x) bs vs stop (k, e)
end_logged a b c o [] (v ∷ vs) stop (zero, e) = absurd (cc)
end_logged a b c o [] (v ∷ vs) stop (suc k, e) = end_logged a b c o [] vs stop (k, e)
end_logged a b c o [] [] (Over d) (zero, e) = let same : a ≡ b = cc in let f : d ≡ c = cc in (same, ap Over f)
end_logged a b c o [] [] (Over d) (suc k, e) = absurd (cc)
end_logged a b c o [] [] (Needs y) (k, e) = absurd (cc)

-- each content that isn't small is in the store
content_stored : (h : WorkerContext) (o : Id) (n : ℕ) (c : Outcome) → is_small c ≡ false → IsStored o n (keeps_content h o n c)
content_stored h o n c big =
    let ids : List Id = each_once (ids_in_outcome c) in
    let g : WorkerContext = passes_on (with_store h (with_ended (store_here h) o n c)) o ids in
    let now : Stores (with_ended (store_here h) o n c) o n =
    subst (λ b. Stores (if b then store_here h else with_primary (store_here h) o n c) o n) (sym big) (stores_now (store_here h) o n c) in
    M.holds_ids-kept (IsStored o n) (stored_stays o n) g o ids now

contents_stored : (cs : List Outcome) (h : WorkerContext) (o : Id) (n i : ℕ) (c : Outcome) → slice_get cs i ≡ Some c → is_small c ≡ false →
    IsStored (object_id o.owner (o.serial + i)) n (keeps_contents h o n cs)
contents_stored [] h o n i c e big = absurd (cc)
contents_stored (d ∷ cs) h o n zero c e big =
    let same : d ≡ c = cc in
    let first : object_id o.owner (o.serial + 0) ≡ o = ap (object_id o.owner) (no_more o.serial) in
    let now : IsStored o n (keeps_content h o n d) = content_stored h o n d (ap is_small same ∙ big) in
    M.keeps_contents-kept (IsStored (object_id o.owner (o.serial + 0)) n) (stored_stays (object_id o.owner (o.serial + 0)) n) (keeps_content h o n d) (next_id o) n cs
    (subst (λ p. IsStored p n (keeps_content h o n d)) (sym first) now)
  where
    no_more : (m : ℕ) → m + 0 ≡ m
    no_more m = omega arith
contents_stored (d ∷ cs) h o n (suc i) c e big =
    subst (λ k. IsStored (object_id o.owner k) n (keeps_contents h o n (d ∷ cs))) (one_more o.serial i)
    (contents_stored cs (keeps_content h o n d) (next_id o) n i c e big)
  where
    one_more : (m j : ℕ) → (m + 1) + j ≡ m + suc j
    one_more m j = omega arith

ends_stored : (h : WorkerContext) (run : Execution) (cs : List Outcome) (i : ℕ) (c : Outcome) → slice_get cs i ≡ Some c → is_small c ≡ false →
    IsStored (object_id run.attempt.object.owner (run.attempt.object.serial + i)) run.attempt.number (stops_by h (AtEnd cs) (Some run))
ends_stored h run cs i c e big =
    let o : Id = object_id run.attempt.object.owner (run.attempt.object.serial + i) in
    let n : ℕ = run.attempt.number in
    let held : WorkerContext = keeps_contents (with_phase h run (HasEnded cs)) run.attempt.object n cs in
    let kept = stored_stays o n in
    kept.frees (leaves_if_free held)
    (M.leaves_if_free-kept (IsStored o n) kept held (contents_stored cs (with_phase h run (HasEnded cs)) run.attempt.object n i c e big))

stop_ends : (t : Stopped) (cs : List Outcome) → stop_of t ≡ Over cs → t ≡ AtEnd cs
stop_ends (AtGet y) cs e = absurd (cc)
stop_ends (AtEnd d) cs e = let f : d ≡ cs = cc in ap AtEnd f

-- ---- the commit

module _ (h : WorkerContext) (d : Outcomes) (run : Execution) (at : h.worker.run ≡ Some run) where
  abbrev pub es : List Entry
  es = commit_entries run.attempt (next_id_here h) d.births d.prints (stop_of d.stop)

  abbrev logged : WorkerContext
  logged = logs_all (with_run h (with_outcomes run d)) es

  abbrev borne : WorkerContext
  borne = bears_all logged run.attempt d.births

  -- what it logs is there
  pub new_stored : (o : Id) (n : ℕ) → IsNewIn es o n → IsStored o n (commit_step h d)
  new_stored o n (inl (a, v, i, z)) =
      subst (λ k. IsStored o k (commit_step h d)) (sym z)
      (subst (λ r. IsStored o 0 (commit_by h d r)) (sym at)
      (M.stops_by-kept (IsStored o 0) (stored_stays o 0) borne d.stop borne.worker.run (births_stored d.births logged run.attempt d.prints (stop_of d.stop) o a v i)))
  new_stored o n (inr (first, e)) =
      let q = end_logged run.attempt (attempt first n) e.contents (next_id_here h) d.births d.prints (stop_of d.stop) e.ended in
      let r = bears_all_runs run.attempt d.births logged (with_outcomes run d, refl, refl) in
      let same : r.0.attempt ≡ attempt first n = r.2 ∙ q.0 in
      let stored = ends_stored borne r.0 e.contents e.place e.content e.has e.big in
      subst (λ x. IsStored o n (commit_by h d x)) (sym at)
      (subst (λ t. IsStored o n (stops_by borne t borne.worker.run)) (sym (stop_ends d.stop e.contents q.1))
      (subst (λ x. IsStored o n (stops_by borne (AtEnd e.contents) x)) (sym r.1)
      (subst (λ p. IsStored p n (stops_by borne (AtEnd e.contents) (Some r.0))) (sym e.is)
      (subst (λ (b : Attempt). IsStored (object_id b.object.owner (b.object.serial + e.place)) b.number (stops_by borne (AtEnd e.contents) (Some r.0))) same stored))))

  -- nothing else is made, and nothing goes
  pub commit_stays : h.there.out.entries ≡ [] → Stays (store_here h) es (commit_step h d)
  commit_stays silent =
      let kept = stays_kept (store_here h) es in
      let begun : Stays (store_here h) es logged = record {
        copies = λ o n q. q;
        puts = λ o n q. subst (λ xs. IsNewPut (xs ++ es) o n) silent q;
        ends = λ f o n q. subst (λ xs. IsNewEnd (xs ++ es) f o n) silent q;
      } in
      subst (λ r. Stays (store_here h) es (commit_by h d r)) (sym at)
      (M.stops_by-kept (Stays (store_here h) es) kept borne d.stop borne.worker.run (M.bears_all-kept (Stays (store_here h) es) kept logged run.attempt d.births begun))

  -- what is put is the worker's own
  pub new_put_own : (o : Id) (n : ℕ) → IsNewPut es o n → o.owner ≡ h.me
  new_put_own o n (a, v, i, z) = born_own run.attempt a (next_id_here h) o (Put v) d.births d.prints (stop_of d.stop) i

  -- what ends is its attempt
  pub new_end_own : (first o : Id) (n : ℕ) → IsNewEnd es first o n → run.attempt ≡ attempt first n
  new_end_own first o n q = (end_logged run.attempt (attempt first n) q.contents (next_id_here h) d.births d.prints (stop_of d.stop) q.ended).0
