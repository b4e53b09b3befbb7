-- What a step logs of births and openings: none of births but a commit's own, and of openings one for each worker that its node opened.
use Rattle.std.proofs.Common.{◌≡◌, ℕ, ◌+◌, List, [], ◌∷◌, ◌++◌, length, Some, refl, sym, ap, ◌∙◌, subst, arith, length-append}
use Rattle.std.specs.Prelude.{true}
use Rattle.std.specs.List.{flat_map}
use Rattle.std.proofs.lemmas.List.Concat.{flat_map-append}
use Rattle.sequence.proofs.Places.{and_left, and_right}
use Rattle.meaning.specs.Runs.{Needs, Over, Stop, behind}
use Rattle.meaning.specs.Births.{Bearing}
use Rattle.meaning.specs.Values.{Birth, Id, Value, results_of}
use Rattle.event_log.specs.Commits.{commit_entries}
use Rattle.event_log.specs.Entries.{Accepted, Attempt, Begun, Born, Ended, Entry, Faulted, Got, In, Opened, Printed, Refused, Released, Resolved}
use Rattle.event_log.specs.Words.{born_in, opened, opened_in}
use Rattle.protocol.specs.Commits.{bears_all, commit_by, commit_step, next_id_here, with_outcomes}
use Rattle.protocol.specs.Events.{objects_made}
use Rattle.protocol.specs.Jobs.{Outcomes, stop_of}
use Rattle.protocol.specs.Nodes.{NodeContext, no_out}
use Rattle.protocol.specs.Steps.{WorkerContext, logs_all, with_run}
use Rattle.protocol.specs.Tables.{Execution}
use Rattle.smallest_steps.proofs.SlotMoves as S
use Rattle.count_laws.specs.Counts.{objects_born}
use Rattle.owed_laws.proofs.StoreMoves as M
use Rattle.owed_laws.proofs.StoreMoves.{IsKept, is_mute, is_quiet}

-- as many of the one as of the other
pub many : {X : Type 0} (f : Entry → List X) (es fs : List Entry) → length (flat_map f (es ++ fs)) ≡ length (flat_map f es) + length (flat_map f fs)
many f es fs = ap length (flat_map-append f es fs) ∙ length-append (flat_map f es) (flat_map f fs)

born_more : (bs ds : List Bearing) → objects_born (bs ++ ds) ≡ objects_born bs + objects_born ds
born_more [] ds = omega arith
born_more (b ∷ bs) ds = regrouped (results_of b.birth) (objects_born bs) (objects_born ds) _ (born_more bs ds)
  where
    regrouped : (n i k l : ℕ) → l ≡ i + k → n + l ≡ (n + i) + k
    regrouped n i k l e = omega (arith, e)

-- as many objects of the one as of the other
pub many_born : (es fs : List Entry) → objects_born (flat_map born_in (es ++ fs)) ≡ objects_born (flat_map born_in es) + objects_born (flat_map born_in fs)
many_born es fs = ap objects_born (flat_map-append born_in es fs) ∙ born_more (flat_map born_in es) (flat_map born_in fs)

-- births of so many objects were logged, and an opening for each worker that was opened
pub record Adds (k : ℕ) (t : NodeContext) : Type 0 where
  pub born : objects_born (flat_map born_in t.out.entries) ≡ k
  pub opens : length (opened t.out.entries) ≡ t.opened

-- neither a birth nor an opening
record IsNeither (es : List Entry) : Type 0 where
  born : objects_born (flat_map born_in es) ≡ 0
  opens : length (opened es) ≡ 0

mute_neither : (x : Entry) (es : List Entry) → is_mute x ≡ true → IsNeither es → IsNeither (x ∷ es)
mute_neither (In e seat) es q p = absurd (cc)
mute_neither (Refused code) es q p = absurd (cc)
mute_neither (Opened w n) es q p = absurd (cc)
mute_neither (Born o a b) es q p = absurd (cc)
mute_neither (Ended a c) es q p = absurd (cc)
mute_neither (Begun a w) es q p = record { born = p.born; opens = p.opens }
mute_neither (Got a y c) es q p = record { born = p.born; opens = p.opens }
mute_neither (Printed v) es q p = record { born = p.born; opens = p.opens }
mute_neither (Accepted a) es q p = record { born = p.born; opens = p.opens }
mute_neither (Faulted a y f) es q p = record { born = p.born; opens = p.opens }
mute_neither (Resolved o f) es q p = record { born = p.born; opens = p.opens }
mute_neither (Released o) es q p = record { born = p.born; opens = p.opens }

quiet_neither : (es : List Entry) → is_quiet es ≡ true → IsNeither es
quiet_neither [] q = record { born = refl; opens = refl }
quiet_neither (x ∷ es) q = mute_neither x es (and_left (is_mute x) (is_quiet es) q) (quiet_neither es (and_right (is_mute x) (is_quiet es) q))

module _ (k : ℕ) where
  pub there_adds : S.KeepsSlots (Adds k)
  there_adds = record {
    opens = λ t w p.
        let e = many_born t.out.entries (Opened w t.number ∷ []) in
        let f = many opened_in t.out.entries (Opened w t.number ∷ []) in
        let b = p.born in
        let o = p.opens in
        record { born = more (objects_born (flat_map born_in t.out.entries)) k _ b e; opens = one_more (length (opened t.out.entries)) t.opened _ o f };
    replies = λ t j x p. record { born = p.born; opens = p.opens };
    scheduler = λ t s p. record { born = p.born; opens = p.opens };
  }
    where
      more : (n m l : ℕ) → n ≡ m → l ≡ n + 0 → l ≡ m
      more n m l e f = omega (arith, e, f)

      one_more : (n m l : ℕ) → n ≡ m → l ≡ n + 1 → l ≡ m + 1
      one_more n m l e f = omega (arith, e, f)

  pub here_adds : IsKept (λ h. Adds k h.there)
  here_adds = record {
    logs = λ h es q p.
        let n = quiet_neither es q in
        record {
          born = none_more (objects_born (flat_map born_in h.there.out.entries)) k (objects_born (flat_map born_in es)) _ p.born n.born (many_born h.there.out.entries es);
          opens = none_more (length (opened h.there.out.entries)) h.there.opened (length (opened es)) _ p.opens n.opens (many opened_in h.there.out.entries es);
        };
    says = λ h w m p. record { born = p.born; opens = p.opens };
    says_to_node = λ h n m p. record { born = p.born; opens = p.opens };
    worker = λ h x _ _ p. record { born = p.born; opens = p.opens };
    store = λ h s keeps p. record { born = p.born; opens = p.opens };
    frees = λ h p. S.frees-kept (Adds k) there_adds h.there h.me p;
    asks = λ h p. S.asks_slot-kept (Adds k) there_adds h.there h.me p;
  }
    where
      none_more : (n m i l : ℕ) → n ≡ m → i ≡ 0 → l ≡ n + i → l ≡ m
      none_more n m i l e f g = omega (arith, e, f, g)

-- ---- a commit

commit_bears : (a : Attempt) (o : Id) (bs : List Birth) (vs : List Value) (stop : Stop) → objects_born (flat_map born_in (commit_entries a o bs vs stop)) ≡ objects_made bs
commit_bears a o (b ∷ bs) vs stop = ap (λ n. results_of b + n) (commit_bears a (behind o b) bs vs stop)
commit_bears a o [] (v ∷ vs) stop = commit_bears a o [] vs stop
commit_bears a o [] [] (Over c) = refl
commit_bears a o [] [] (Needs y) = refl

commit_opens : (a : Attempt) (o : Id) (bs : List Birth) (vs : List Value) (stop : Stop) → length (opened (commit_entries a o bs vs stop)) ≡ 0
commit_opens a o (b ∷ bs) vs stop = commit_opens a (behind o b) bs vs stop
commit_opens a o [] (v ∷ vs) stop = commit_opens a o [] vs stop
commit_opens a o [] [] (Over c) = refl
commit_opens a o [] [] (Needs y) = refl

pub commit_adds : (h : WorkerContext) (d : Outcomes) (run : Execution) → h.worker.run ≡ Some run → h.there.out ≡ no_out → h.there.opened ≡ 0 → Adds (objects_made d.births) (commit_step h d).there
commit_adds h d run at silent closed =
    let es : List Entry = commit_entries run.attempt (next_id_here h) d.births d.prints (stop_of d.stop) in
    let g : WorkerContext = logs_all (with_run h (with_outcomes run d)) es in
    let begun : Adds (objects_made d.births) g.there = record {
      born = ap (λ o. objects_born (flat_map born_in (o.entries ++ es))) silent ∙ commit_bears run.attempt (next_id_here h) d.births d.prints (stop_of d.stop);
      opens = ap (λ o. length (opened (o.entries ++ es))) silent ∙ commit_opens run.attempt (next_id_here h) d.births d.prints (stop_of d.stop) ∙ sym closed;
    } in
    let b : WorkerContext = bears_all g run.attempt d.births in
    let kept = here_adds (objects_made d.births) in
    subst (λ r. Adds (objects_made d.births) (commit_by h d r).there) (sym at)
    (M.stops_by-kept (λ x. Adds (objects_made d.births) x.there) kept b d.stop b.worker.run (M.bears_all-kept (λ x. Adds (objects_made d.births) x.there) kept g run.attempt d.births begun))
