-- What is true of the commits of a log by the test.
use Rattle.std.proofs.Common.{◌≡◌, ◌≤◌, ℕ, zero, suc, Bool, true, false, List, [], ◌∷◌, ◌++◌, refl, sym, ap, ◌∙◌, arith}
use Rattle.std.specs.Prelude.{◌&&◌, ◌||◌, ◌==◌, not}
use Rattle.std.proofs.lemmas.Bool.{and_parts, eq-eqb, eqb-true, not-true, true≢false}
use Rattle.meaning.proofs.BirthLaws.{at_test}
use Rattle.event_log.specs.Entries.{Claim, Commit, Entry, Event, In, Kill, Refused}
use Rattle.event_log.specs.Entries.{Pinned, NoCopy, NoWorker, NotReady, NoJob, Stale, NoMessage, NotDead, NoNode, Limit, Halted, NoMemory}
use Rattle.event_log.specs.Events.{accepted_events}
use Rattle.run_paths.specs.Handing.{AllHandedIn, Examples, HandsInOnce, IsTested, hands_in_once, has_commit, refused_unknown, two_given}

or_false : (a b : Bool) → (a || b) ≡ false → (a ≡ false) × (b ≡ false)
or_false false false e = (refl, refl)
or_false true b e = absurd (true≢false e)
or_false false true e = absurd (true≢false e)

-- up to an event and at it
pub no_commit : (j : ℕ) (log rest : List Entry) (e : Event) (seat : ℕ) → has_commit j (log ++ In e seat ∷ rest) ≡ false →
    (has_commit j log ≡ false) × (e ≡ Commit j → ⊥)
no_commit j [] rest e seat h =
    (refl, λ is. true≢false (sym (ap (λ b. b || has_commit j rest) (eq-eqb j j refl)) ∙ sym (ap (λ x. has_commit j (In x seat ∷ rest)) is) ∙ h))
no_commit j (In (Commit i) s ∷ log) rest e seat h =
    let two = or_false (i == j) (has_commit j (log ++ In e seat ∷ rest)) h in
    let k = no_commit j log rest e seat two.1 in
    (ap (λ b. b || has_commit j log) two.0 ∙ k.0, k.1)
no_commit j (x ∷ log) rest e seat h = no_commit j log rest e seat h

-- ---- the test

none_passes : (a b : Bool) → (a && false && b) ≡ true → ⊥
none_passes true b e = true≢false (sym e)
none_passes false b e = true≢false (sym e)

passed_out : (before after : List Entry) (j seat : ℕ) → hands_in_once (before ++ In (Commit j) seat ∷ Refused NoJob ∷ after) ≡ true → ⊥
passed_out [] after j seat e = none_passes (not (has_commit j after)) (hands_in_once after) e
passed_out (In (Commit i) s ∷ before) after j seat e =
    let rest : List Entry = before ++ In (Commit j) seat ∷ Refused NoJob ∷ after in
    passed_out before after j seat (and_parts (not (has_commit i rest) && not (refused_unknown rest)) (hands_in_once rest) e).1
passed_out (x ∷ before) after j seat e = passed_out before after j seat e

other_number : (i j : ℕ) → (Commit j ≡ Commit i → ⊥) → (i == j) ≡ false
other_number i j apart = at_test (λ b. (i == j) ≡ b → b ≡ false) (i == j) (λ _ e. absurd (apart (ap Commit (sym (eqb-true i j e))))) (λ _ e. refl) refl

passed_once : (before after : List Entry) (j seat : ℕ) → hands_in_once (before ++ In (Commit j) seat ∷ after) ≡ true → has_commit j before ≡ false
passed_once [] after j seat e = refl
passed_once (In (Commit i) s ∷ before) after j seat e =
    let rest : List Entry = before ++ In (Commit j) seat ∷ after in
    let both = and_parts (not (has_commit i rest) && not (refused_unknown rest)) (hands_in_once rest) e in
    let first = and_parts (not (has_commit i rest)) (not (refused_unknown rest)) both.0 in
    let apart = no_commit i before after (Commit j) seat (not-true (has_commit i rest) first.0) in
    ap (λ b. b || has_commit j before) (other_number i j apart.1) ∙ passed_once before after j seat both.1
passed_once (x ∷ before) after j seat e = passed_once before after j seat e

once_of : (log : List Entry) → hands_in_once log ≡ true → HandsInOnce log
once_of log e = record {
  out = λ before after j seat is. passed_out before after j seat (ap hands_in_once (sym is) ∙ e);
  once = λ before after j seat is. passed_once before after j seat (ap hands_in_once (sym is) ∙ e);
}

-- ---- and back

rest_none : (j : ℕ) (x : Entry) (log : List Entry) → has_commit j (x ∷ log) ≡ false → has_commit j log ≡ false
rest_none j (In (Commit i) seat) log e = (or_false (i == j) (has_commit j log) e).1
rest_none j x log e = e

rest_once : (x : Entry) (log : List Entry) → HandsInOnce (x ∷ log) → HandsInOnce log
rest_once x log h = record {
  out = λ before after j seat is. h.out (x ∷ before) after j seat (ap (λ es. x ∷ es) is);
  once = λ before after j seat is. rest_none j x before (h.once (x ∷ before) after j seat (ap (λ es. x ∷ es) is));
}

-- where the commit stands
record Found (j : ℕ) (log : List Entry) : Type 0 where
  pub before : List Entry
  pub seat : ℕ
  pub after : List Entry
  pub is : log ≡ before ++ In (Commit j) seat ∷ after

found_later : (j : ℕ) (x : Entry) (log : List Entry) → Found j log → Found j (x ∷ log)
found_later j x log f = record { before = x ∷ f.before; seat = f.seat; after = f.after; is = ap (λ es. x ∷ es) f.is }

found : (j : ℕ) (log : List Entry) → has_commit j log ≡ true → Found j log
found j [] e = absurd (true≢false (sym e))
found j (In (Commit i) seat ∷ log) e =
    at_test (λ b. (i == j) ≡ b → Found j (In (Commit i) seat ∷ log)) (i == j)
    (λ _ is. record { before = []; seat = seat; after = log; is = ap (λ n. In (Commit n) seat ∷ log) (eqb-true i j is) })
    (λ _ is. found_later j (In (Commit i) seat) log (found j log (sym (ap (λ b. b || has_commit j log) is) ∙ e))) refl
found j (x ∷ log) e = found_later j x log (found j log e)

none_later : (j seat : ℕ) (log : List Entry) → HandsInOnce (In (Commit j) seat ∷ log) → has_commit j log ≡ false
none_later j seat log h = by_test (has_commit j log) refl
  where
    by_test : (b : Bool) → has_commit j log ≡ b → has_commit j log ≡ false
    by_test false e = e
    by_test true e =
        let f = found j log e in
        let none : (j == j) || has_commit j f.before ≡ false =
        h.once (In (Commit j) seat ∷ f.before) f.after j f.seat (ap (λ es. In (Commit j) seat ∷ es) f.is) in
        absurd (true≢false (sym (ap (λ b. b || has_commit j f.before) (eq-eqb j j refl)) ∙ none))

known : (j seat : ℕ) (log : List Entry) → HandsInOnce (In (Commit j) seat ∷ log) → refused_unknown log ≡ false
known j seat (Refused NoJob ∷ log) h = absurd (h.out [] log j seat refl)
known j seat (Refused Pinned ∷ log) h = refl
known j seat (Refused NoCopy ∷ log) h = refl
known j seat (Refused NoWorker ∷ log) h = refl
known j seat (Refused NotReady ∷ log) h = refl
known j seat (Refused Stale ∷ log) h = refl
known j seat (Refused NoMessage ∷ log) h = refl
known j seat (Refused NotDead ∷ log) h = refl
known j seat (Refused NoNode ∷ log) h = refl
known j seat (Refused Limit ∷ log) h = refl
known j seat (Refused Halted ∷ log) h = refl
known j seat (Refused NoMemory ∷ log) h = refl
known j seat [] h = refl
known j seat (x ∷ log) h = refl

passed_by : (log : List Entry) → HandsInOnce log → hands_in_once log ≡ true
passed_by [] h = refl
passed_by (In (Commit j) seat ∷ log) h =
    ap (λ b. not b && not (refused_unknown log) && hands_in_once log) (none_later j seat log h) ∙ ap (λ b. not b && hands_in_once log) (known j seat log h)
    ∙ passed_by log (rest_once (In (Commit j) seat) log h)
passed_by (x ∷ log) h = passed_by log (rest_once x log h)

pub is_tested : IsTested
is_tested = record { once = once_of; passed = passed_by }

-- ---- worked logs

both_handed_in : AllHandedIn (two_given ++ In (Commit 2) 2 ∷ Refused Stale ∷ [])
unfolding accepted_events
both_handed_in zero some few = absurd (omega (arith, some))
both_handed_in (suc zero) some few = refl
both_handed_in (suc (suc zero)) some few = refl
both_handed_in (suc (suc (suc j))) some few = absurd (omega (arith, few))

one_dropped : AllHandedIn two_given → ⊥
unfolding accepted_events
one_dropped h = true≢false (sym (h 2 (omega arith) (omega arith)))

one_with_nothing : AllHandedIn (two_given ++ In (Commit 2) 2 ∷ Refused NoJob ∷ []) → ⊥
unfolding accepted_events
one_with_nothing h = true≢false (sym (h 2 (omega arith) (omega arith)))

pub examples : Examples
examples = record {
  once = once_of _ refl;
  twice = λ h. true≢false (h.once (In (Claim 2) 2 ∷ In (Kill 2) 0 ∷ In (Commit 1) 2 ∷ Refused Stale ∷ []) (Refused Stale ∷ []) 1 2 refl);
  unknown = λ h. h.out (In (Claim 1) 1 ∷ []) [] 2 1 refl;
  both = both_handed_in;
  dropped = one_dropped;
  with_nothing = one_with_nothing;
}
