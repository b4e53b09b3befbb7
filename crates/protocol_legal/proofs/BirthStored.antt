-- What a commit puts into the store of its node: what is put, and the contents with which an attempt ends.
use Rattle.std.proofs.Common.{◌≡◌, ℕ, zero, suc, ◌+◌, ◌-◌, ◌<◌, ◌≤◌, Bool, true, false, List, [], ◌∷◌, ◌++◌, length, Some, None, inl, inr, refl, sym, ap, ◌∙◌, subst, arith}
use Rattle.std.specs.Prelude.{◌==◌, ◌||◌, ◌&&◌, not, slice_get, ◌⊎◌, if◌then◌else◌}
use Rattle.std.specs.List.{filter, list_any, AllByRecursion}
use Rattle.std.proofs.lemmas.Bool.Decides.{nat_tests}
use Rattle.std.proofs.lemmas.Bool.{and_parts, eqb-true}
use Rattle.meaning.specs.Values.{Value, Outcome, Val, Birth, Put, Task, results_of, Id}
use Rattle.meaning.specs.Runs.{next_id}
use Rattle.meaning.specs.Births.{birth_at, same_id, is_made_by, Part, part_of, part_at}
use Rattle.meaning.proofs.BirthLaws.{at_test, same_id-true, same_id-refl, is_made, made_from, made_owner, part_is_made}
use Rattle.kind_laws.specs.of_event_log.Entries.{Attempt, Entry, Born}
use Rattle.kind_laws.specs.of_event_log.Words.{attempt, same_attempt, births, worker_of, ended_in, ends_of}
use Rattle.kind_laws.specs.of_event_log.Events.{node_of}
use Rattle.kind_laws.specs.of_event_log.Breaks.{Among}
use Rattle.kind_laws.specs.of_event_log.Rules.{Setting, MayBear}
use Rattle.kind_laws.specs.of_event_log.Sane.{Sane}
use Rattle.kind_laws.proofs.of_event_log.OwnLaws.{live-plain}
use Rattle.kind_laws.proofs.of_event_log.FreshLaws.{born_if_first}
use Rattle.kind_laws.proofs.of_event_log.WordLaws.{same_attempt-true}
use Rattle.values.specs.Cells.{is_small}
use Rattle.step_laws.specs.of_protocol.Stores.{Copy, Store, copy, is_copy_of, with_ended, with_primary}
use Rattle.step_laws.specs.of_protocol.Nodes.{Node}
use Rattle.protocol_legal.specs.Past.{Asking, Past, past}
use Rattle.protocol_legal.specs.Made.{HasResult, IsPutAt, IsEndedAt, IsMadeAt, IsCopy, IsTaken}
use Rattle.protocol_legal.specs.Grows.{Grows}
use Rattle.protocol_legal.specs.Knows.{IsTask}
use Rattle.protocol_legal.specs.Stores.{IsTrueCopy, KnowsNode, KnowsScheduler, KnowsStore}
use Rattle.protocol_legal.specs.Whole.{IsCalm}
use Rattle.protocol_legal.proofs.Firsts.{first_part}
use Rattle.protocol_legal.proofs.Breaking.{among_one}
use Rattle.protocol_legal.proofs.Growing.{grows_by, word_kept, taken_grows, copy_grows, home_grows, runs_grows}
use Rattle.protocol_legal.proofs.Calm.{birth_last, part_last}
use Rattle.protocol_legal.proofs.Logging.{scheduler_grows, node_grows}
use Rattle.protocol_legal.proofs.Slots.{all_filter, all_push}
use Rattle.protocol_legal.proofs.BirthKnown.{bearing, birth_unborn, part_unborn}

-- ---- a primary copy

copy_same : (o : Id) (i : ℕ) (x : Copy) → is_copy_of o i x ≡ true → (x.object ≡ o) × (x.number ≡ i)
copy_same o i x e = let t = and_parts (same_id x.object o) (x.number == i) e in (same_id-true x.object o t.0, eqb-true x.number i t.1)

copy_is : (o : Id) (i : ℕ) (x : Copy) → x.object ≡ o → x.number ≡ i → is_copy_of o i x ≡ true
copy_is o i x e f =
    let t : same_id x.object o ≡ true = subst (λ z. same_id x.object z ≡ true) e (same_id-refl x.object) in
    let u : (x.number == i) ≡ true = grind (arith, nat_tests, f) in
    ap (λ c. c && (x.number == i)) t ∙ u

any_last : {X : Type 0} (t : X → Bool) (xs : List X) (y : X) → t y ≡ true → list_any t (xs ++ y ∷ []) ≡ true
any_last t [] y e = ap (λ c. c || false) e
any_last t (x ∷ xs) y e = or_true (t x) (list_any t (xs ++ y ∷ [])) (any_last t xs y e)
  where
    or_true : (a b : Bool) → b ≡ true → (a || b) ≡ true
    or_true true b f = refl
    or_true false b f = f

-- the copies that there were are there, or are taken over by the new one
still_there : (o z : Id) (i k : ℕ) (c : Outcome) (xs : List Copy) → list_any (is_copy_of o i) xs ≡ true → list_any (is_copy_of o i) (filter (λ x. not (is_copy_of z k x)) xs ++ copy z k c ∷ []) ≡ true
still_there o z i k c [] h = absurd (cc)
still_there o z i k c (x ∷ xs) h =
    at_test (λ t. is_copy_of z k x ≡ t → list_any (is_copy_of o i) ((if not t then x ∷ filter (λ y. not (is_copy_of z k y)) xs else filter (λ y. not (is_copy_of z k y)) xs) ++ copy z k c ∷ []) ≡ true) (is_copy_of z k x)
    (λ t e. by_first e (is_copy_of o i x) refl (λ r. still_there o z i k c xs r))
    (λ t e. go (is_copy_of o i x) (λ r. still_there o z i k c xs r) h) refl
  where
    go : (a : Bool) → (list_any (is_copy_of o i) xs ≡ true → list_any (is_copy_of o i) (filter (λ y. not (is_copy_of z k y)) xs ++ copy z k c ∷ []) ≡ true) → (a || list_any (is_copy_of o i) xs) ≡ true → (a || list_any (is_copy_of o i) (filter (λ y. not (is_copy_of z k y)) xs ++ copy z k c ∷ [])) ≡ true
    go true r e = refl
    go false r e = r e

    by_first : is_copy_of z k x ≡ true → (a : Bool) → is_copy_of o i x ≡ a → (list_any (is_copy_of o i) xs ≡ true → list_any (is_copy_of o i) (filter (λ y. not (is_copy_of z k y)) xs ++ copy z k c ∷ []) ≡ true) → list_any (is_copy_of o i) (filter (λ y. not (is_copy_of z k y)) xs ++ copy z k c ∷ []) ≡ true
    by_first e true f r =
        let m = copy_same z k x e in
        let n = copy_same o i x f in
        any_last (is_copy_of o i) (filter (λ y. not (is_copy_of z k y)) xs) (copy z k c) (copy_is o i (copy z k c) (sym m.0 ∙ n.0) (sym m.1 ∙ n.1))
    by_first e false f r = r (sym (ap (λ a. a || list_any (is_copy_of o i) xs) f) ∙ h)

copies_grow : (p q : Past) (g : Grows p q) (xs : List Copy) → AllByRecursion (IsTrueCopy p) xs → AllByRecursion (IsTrueCopy q) xs
copies_grow p q g [] h = tt
copies_grow p q g (x ∷ xs) h = (copy_grows p q g x.object x.number x.content h.0, copies_grow p q g xs h.1)

-- one is put
store_adds : (p q : Past) (g : Grows p q) (n : ℕ) (z : Id) (k : ℕ) (c : Outcome) (store : Store) → IsCopy q.log z k c →
    ((o : Id) (i : ℕ) → IsMadeAt q.log o i n → IsMadeAt p.log o i n ⊎ ((z ≡ o) × (k ≡ i))) → KnowsStore p n store → KnowsStore q n (with_primary store z k c)
store_adds p q g n z k c store content made h = record {
  primaries = all_push (IsTrueCopy q) (filter (λ x. not (is_copy_of z k x)) store.primaries) (copy z k c) (all_filter (IsTrueCopy q) (λ x. not (is_copy_of z k x)) store.primaries (copies_grow p q g store.primaries h.primaries)) content;
  secondaries = copies_grow p q g store.secondaries h.secondaries;
  kept = λ o i m. there o i (made o i m);
}
  where
    old : (o : Id) (i : ℕ) → (list_any (is_copy_of o i) store.primaries ≡ true) ⊎ IsTaken p.log o i n → (list_any (is_copy_of o i) (with_primary store z k c).primaries ≡ true) ⊎ IsTaken q.log o i n
    old o i (inl e) = inl (still_there o z i k c store.primaries e)
    old o i (inr t) = inr (taken_grows p q g o i n t)

    there : (o : Id) (i : ℕ) → IsMadeAt p.log o i n ⊎ ((z ≡ o) × (k ≡ i)) → (list_any (is_copy_of o i) (with_primary store z k c).primaries ≡ true) ⊎ IsTaken q.log o i n
    there o i (inl m) = old o i (h.kept o i m)
    there o i (inr e) = inl (any_last (is_copy_of o i) (filter (λ x. not (is_copy_of z k x)) store.primaries) (copy z k c) (copy_is o i (copy z k c) e.0 e.1))

-- ---- the contents with which an attempt ended

-- the store once the contents of that object and of those behind it have come in
abbrev pub closed_all : Store → Id → ℕ → List Outcome → Store
closed_all store o number [] = store
closed_all store o number (c ∷ cs) = closed_all (with_ended store o number c) (next_id o) number cs

-- the content is that of the object, where these are of the first one and of those behind it
abbrev Stands : Id → List Outcome → Id → Outcome → Type 0
Stands first [] o c = ⊥
Stands first (d ∷ cs) o c = ((first ≡ o) × (d ≡ c)) ⊎ Stands (next_id first) cs o c

id_is : (o p : Id) → o.owner ≡ p.owner → o.serial ≡ p.serial → o ≡ p
id_is o p e f = same o.owner o.serial p.owner p.serial e f
  where
    same : (a b c d : ℕ) → a ≡ c → b ≡ d → ◌≡◌ {A = Id} (record { owner = a; serial = b }) (record { owner = c; serial = d })
    same a b c d e f = cc

stands_at : (first : Id) (cs : List Outcome) (o : Id) (c : Outcome) (i : ℕ) → first.owner ≡ o.owner → o.serial ≡ first.serial + i → slice_get cs i ≡ Some c → Stands first cs o c
stands_at first [] o c i e f h = absurd (cc)
stands_at first (d ∷ cs) o c zero e f h = let s : first.serial ≡ o.serial = omega (arith, f) in inl (id_is first o e s, cc)
stands_at first (d ∷ cs) o c (suc i) e f h = let s : o.serial ≡ first.serial + 1 + i = omega (arith, f) in inr (stands_at (next_id first) cs o c i e s h)

-- the place of a content
record StandsIn (first : Id) (cs : List Outcome) (o : Id) (c : Outcome) : Type 0 where
  place : ℕ
  owner : first.owner ≡ o.owner
  serial : o.serial ≡ first.serial + place
  there : slice_get cs place ≡ Some c
  within : place < length cs

stands_in : (first : Id) (cs : List Outcome) (o : Id) (c : Outcome) → Stands first cs o c → StandsIn first cs o c
stands_in first [] o c h = absurd h
stands_in first (d ∷ cs) o c (inl h) =
    let e = ap (λ (z : Id). z.serial) h.0 in
    record { place = 0; owner = ap (λ (z : Id). z.owner) h.0; serial = omega (arith, e); there = ap Some h.1; within = omega arith }
stands_in first (d ∷ cs) o c (inr h) =
    let r = stands_in (next_id first) cs o c h in
    let e = r.serial in
    let l = r.within in
    record { place = suc r.place; owner = r.owner; serial = omega (arith, e); there = r.there; within = omega (arith, l) }

-- what was there stays
closed_keeps : (store : Store) (first : Id) (number : ℕ) (cs : List Outcome) (o : Id) (i : ℕ) → list_any (is_copy_of o i) store.primaries ≡ true → list_any (is_copy_of o i) (closed_all store first number cs).primaries ≡ true
closed_keeps store first number [] o i h = h
closed_keeps store first number (c ∷ cs) o i h =
    closed_keeps (with_ended store first number c) (next_id first) number cs o i
    (at_test (λ b. list_any (is_copy_of o i) (if b then store else with_primary store first number c).primaries ≡ true) (is_small c) (λ b. h) (λ b. still_there o first i number c store.primaries h))

-- what isn't small comes
closed_has : (store : Store) (first : Id) (number : ℕ) (cs : List Outcome) (o : Id) (c : Outcome) → Stands first cs o c → is_small c ≡ false → list_any (is_copy_of o number) (closed_all store first number cs).primaries ≡ true
closed_has store first number [] o c h large = absurd h
closed_has store first number (d ∷ cs) o c (inr h) large = closed_has (with_ended store first number d) (next_id first) number cs o c h large
closed_has store first number (d ∷ cs) o c (inl h) large =
    let large' : is_small d ≡ false = ap is_small h.1 ∙ large in
    closed_keeps (with_ended store first number d) (next_id first) number cs o number
    (subst (λ b. list_any (is_copy_of o number) (if b then store else with_primary store first number d).primaries ≡ true) (sym large')
    (any_last (is_copy_of o number) (filter (λ x. not (is_copy_of first number x)) store.primaries) (copy first number d) (copy_is o number (copy first number d) h.0 refl)))

module _ (q : Past) (number : ℕ) where
  closed_true : (store : Store) (first : Id) (cs : List Outcome) → ((o : Id) (c : Outcome) → Stands first cs o c → IsCopy q.log o number c) → AllByRecursion (IsTrueCopy q) store.primaries → AllByRecursion (IsTrueCopy q) (closed_all store first number cs).primaries
  closed_true store first [] is h = h
  closed_true store first (c ∷ cs) is h =
      closed_true (with_ended store first number c) (next_id first) cs (λ o d s. is o d (inr s))
      (at_test (λ b. AllByRecursion (IsTrueCopy q) (if b then store else with_primary store first number c).primaries) (is_small c)
      (λ b. h)
      (λ b. all_push (IsTrueCopy q) (filter (λ x. not (is_copy_of first number x)) store.primaries) (copy first number c) (all_filter (IsTrueCopy q) (λ x. not (is_copy_of first number x)) store.primaries h) (is first c (inl (refl, refl)))))

  closed_others : (store : Store) (first : Id) (cs : List Outcome) → (closed_all store first number cs).secondaries ≡ store.secondaries
  closed_others store first [] = refl
  closed_others store first (c ∷ cs) =
      closed_others (with_ended store first number c) (next_id first) cs ∙ at_test (λ b. (if b then store else with_primary store first number c).secondaries ≡ store.secondaries) (is_small c) (λ b. refl) (λ b. refl)

-- what the attempt made for the object
abbrev IsNewContent : Past → Id → List Outcome → ℕ → Id → ℕ → Type 0
IsNewContent q first cs n o i = (c : Outcome) × Stands first cs o c × (is_small c ≡ true → IsTaken q.log o i n)

store_closes : (p q : Past) (g : Grows p q) (n : ℕ) (first : Id) (number : ℕ) (cs : List Outcome) (store : Store) → ((o : Id) (c : Outcome) → Stands first cs o c → IsCopy q.log o number c) →
    ((o : Id) (i : ℕ) → IsMadeAt q.log o i n → IsMadeAt p.log o i n ⊎ ((number ≡ i) × IsNewContent q first cs n o i)) → KnowsStore p n store → KnowsStore q n (closed_all store first number cs)
store_closes p q g n first number cs store true_ made h = record {
  primaries = closed_true q number store first cs true_ (copies_grow p q g store.primaries h.primaries);
  secondaries = subst (AllByRecursion (IsTrueCopy q)) (sym (closed_others q number store first cs)) (copies_grow p q g store.secondaries h.secondaries);
  kept = λ o i m. there o i (made o i m);
}
  where
    old : (o : Id) (i : ℕ) → (list_any (is_copy_of o i) store.primaries ≡ true) ⊎ IsTaken p.log o i n → (list_any (is_copy_of o i) (closed_all store first number cs).primaries ≡ true) ⊎ IsTaken q.log o i n
    old o i (inl e) = inl (closed_keeps store first number cs o i e)
    old o i (inr t) = inr (taken_grows p q g o i n t)

    there : (o : Id) (i : ℕ) → IsMadeAt p.log o i n ⊎ ((number ≡ i) × IsNewContent q first cs n o i) → (list_any (is_copy_of o i) (closed_all store first number cs).primaries ≡ true) ⊎ IsTaken q.log o i n
    there o i (inl m) = old o i (h.kept o i m)
    there o i (inr (same, new)) =
        at_test (λ b. is_small new.0 ≡ b → (list_any (is_copy_of o i) (closed_all store first number cs).primaries ≡ true) ⊎ IsTaken q.log o i n) (is_small new.0)
        (λ b e. inr (new.2 e))
        (λ b e. inl (subst (λ j. list_any (is_copy_of o j) (closed_all store first number cs).primaries ≡ true) same (closed_has store first number cs o new.0 new.1 e))) refl

-- ---- what was made before

put_was : (p q : Past) (g : Grows p q) → Sane p.log → IsCalm p → (o : Id) (number n : ℕ) (h : IsPutAt q.log o number n) → birth_at (births p.log) o ≡ Some (Put h.value) → IsPutAt p.log o number n
put_was p q g sane calm o number n h born =
    let r = calm.homes o (born_if_first (births p.log) o (Put h.value) born) in
    let home : r.0 ≡ n = let e : node_of o.owner q.log ≡ Some r.0 = home_grows p q g o.owner r.0 r.1 in let f = h.home in cc in
    let place : ◌≡◌ {A = ℕ} (o.serial - o.serial) 0 = omega arith in
    record {
      value = h.value;
      born = born;
      part = first_part (births p.log) o (Put h.value) sane.grouped born ∙ ap (λ (i : ℕ). Some (record { born = bearing o (Put h.value); place = i })) place;
      first = h.first;
      home = r.1 ∙ ap Some home;
    }

ended_was : (p q : Past) (g : Grows p q) → Sane p.log → (o : Id) (number n : ℕ) (h : IsEndedAt q.log o number n) → part_at (births p.log) o ≡ Some h.part → Among h.result.contents (ends_of (attempt h.part.born.object number) p.log) → IsEndedAt p.log o number n
ended_was p q g sane o number n h born ended =
    let first = h.part.born.object in
    let r = sane.ended (attempt first number) ended.0 h.result.contents ended.1 in
    let worker : r.0 ≡ h.worker = let e : worker_of (attempt first number) q.log ≡ Some r.0 = runs_grows p q g (attempt first number) r.0 r.1 in let f = h.runs in cc in
    let t = sane.opened first number r.0 r.1 in
    let home : t.0 ≡ n = let e : node_of r.0 q.log ≡ Some t.0 = home_grows p q g r.0 t.0 t.1 in let f : node_of r.0 q.log ≡ Some n = ap (λ w. node_of w q.log) worker ∙ h.home in cc in
    record { part = h.part; worker = r.0; runs = r.1; home = t.1 ∙ ap Some home; content = h.content; result = record { born = born; contents = h.result.contents; ended = ended; content = h.result.content } }

-- ---- the node at a birth

module _ (s : Setting) (log : List Entry) (asked : List Asking) (sane : Sane log) (calm : IsCalm (past log asked)) (z : Id) (a : Attempt) (b : Birth) (bear : MayBear s log z a b) (n : ℕ) (node : Node) (k : KnowsNode (past log asked) n node) where
  abbrev p1 : Past
  p1 = past log asked

  abbrev q1 : List Asking → Past
  q1 news = past (log ++ Born z a b ∷ []) (asked ++ news)

  abbrev g1 : (news : List Asking) → Grows p1 (q1 news)
  g1 news = grows_by s log asked news (Born z a b) refl bear

  same_ends : (c : Attempt) → ends_of c (log ++ Born z a b ∷ []) ≡ ends_of c log
  same_ends c = word_kept (ended_in c) log (Born z a b ∷ []) refl

  unborn : birth_at (births log) z ≡ None
  unborn =
      let e = bear.next in
      birth_unborn (births log) z (part_unborn (births log) z (λ part i. sane.serials z (part, i)) (omega (arith, e)))

  -- what ended before isn't of the new birth
  not_now : (o : Id) (part : Part) (number : ℕ) (cs : List Outcome) → Among cs (ends_of (attempt part.born.object number) log) → part_at (bearing z b ∷ []) o ≡ Some part → ⊥
  not_now o part number cs ended e =
      at_test (λ t. (if t then Some (part_of (bearing z b) o) else None) ≡ Some part → ⊥) (is_made_by (bearing z b) o)
      (λ t f.
      let same : part_of (bearing z b) o ≡ part = cc in
      let first : z ≡ part.born.object = ap (λ (x : Part). x.born.object) same in
      let r = sane.ended (attempt part.born.object number) ended.0 cs ended.1 in
      let there = sane.born part.born.object number r.0 r.1 in
      let at : birth_at (births log) z ≡ Some there.0 = ap (birth_at (births log)) first ∙ there.1 in
      let none = unborn in
      absurd (cc))
      (λ t f. absurd (cc)) e

  ended_before : (news : List Asking) (o : Id) (i : ℕ) (h : IsEndedAt (q1 news).log o i n) → IsMadeAt log o i n
  ended_before news o i h =
      let ended = subst (Among h.result.contents) (same_ends (attempt h.part.born.object i)) h.result.ended in
      inr (ended_was p1 (q1 news) (g1 news) sane o i n h
      (elim (part_last log (Born z a b) o h.part h.result.born) [ inl old ↦ old | inr new ↦ absurd (not_now o h.part i h.result.contents ended new) ]) ended)

  made_by_birth : (news : List Asking) (o : Id) (i : ℕ) → IsMadeAt (q1 news).log o i n → IsMadeAt log o i n ⊎ ((z ≡ o) × (0 ≡ i) × ((v : Value) × (b ≡ Put v)))
  made_by_birth news o i (inr h) = inl (ended_before news o i h)
  made_by_birth news o i (inl h) = elim (birth_last log (Born z a b) o (Put h.value) h.born) [
    | inl old ↦ inl (inl (put_was p1 (q1 news) (g1 news) sane calm o i n h old))
    | inr new ↦ at_test (λ t. same_id z o ≡ t → (if t then Some b else None) ≡ Some (Put h.value) → IsMadeAt log o i n ⊎ ((z ≡ o) × (0 ≡ i) × ((v : Value) × (b ≡ Put v)))) (same_id z o)
        (λ t e f. let same : b ≡ Put h.value = cc in inr (same_id-true z o e, sym h.first, (h.value, same))) (λ t e f. absurd (cc)) refl new
  ]

  scheduler_born : (news : List Asking) → KnowsScheduler (q1 news) n node.scheduler
  scheduler_born news = scheduler_grows p1 (q1 news) (g1 news) n node.scheduler (λ w l. live-plain log (Born z a b) w refl l) k.scheduler

  pub puts_node : (v : Value) → b ≡ Put v → birth_at (births (log ++ Born z a b ∷ [])) z ≡ Some b → KnowsNode (q1 []) n (record node { store = with_primary node.store z 0 (Val v) })
  puts_node v e born = record {
    store = store_adds p1 (q1 []) (g1 []) n z 0 (Val v) node.store (inl (v, born ∙ ap Some e, refl, refl))
        (λ o i m. elim (made_by_birth [] o i m) [ inl old ↦ inl old | inr new ↦ inr (new.0, new.1) ]) k.store;
    scheduler = scheduler_born [];
  }

  pub tasks_node : (news : List Asking) → IsTask b → KnowsNode (q1 news) n node
  tasks_node news task =
      node_grows p1 (q1 news) (g1 news) n node
      (λ o i m. elim (made_by_birth news o i m) [ inl old ↦ old | inr new ↦ absurd (no_put b new.2.0 task new.2.1) ])
      (λ w l. live-plain log (Born z a b) w refl l) k
    where
      no_put : (c : Birth) (v : Value) → IsTask c → c ≡ Put v → ⊥
      no_put (Put v) u t e = t
      no_put (Task f args depth retries others) u t e = absurd (cc)

-- ---- the node at an end

-- the attempt of that task has ended with these contents, a content for each object, and nothing else is born or has ended since
pub record EndsNow (p q : Past) (a : Attempt) (spec : Birth) (cs : List Outcome) : Type 0 where
  pub sane : Sane p.log
  pub calm : IsCalm p
  pub births_same : births q.log ≡ births p.log
  pub others : (c : Attempt) → same_attempt a c ≡ false → ends_of c q.log ≡ ends_of c p.log
  pub ended : ends_of a q.log ≡ cs ∷ []
  pub task : birth_at (births p.log) a.object ≡ Some spec
  pub all : length cs ≡ results_of spec

module _ (p q : Past) (g : Grows p q) (a : Attempt) (spec : Birth) (cs : List Outcome) (e : EndsNow p q a spec cs) where
  part_was : (o : Id) (part : Part) → part_at (births q.log) o ≡ Some part → part_at (births p.log) o ≡ Some part
  part_was o part h = ap (λ bs. part_at bs o) (sym e.births_same) ∙ h

  abbrev part_in : ℕ → Part
  part_in place = record { born = bearing a.object spec; place = place }

  -- each content is that of an object of the task
  result_now : (o : Id) (c : Outcome) → Stands a.object cs o c → (place : ℕ) × HasResult q.log o a.number (part_in place) c
  result_now o c h =
      let r = stands_in a.object cs o c h in
      let at = r.serial in
      let within = r.within in
      let count = e.all in
      let low : a.object.serial ≤ o.serial = omega (arith, at) in
      let high : o.serial < a.object.serial + results_of spec = omega (arith, at, within, count) in
      let place : o.serial - a.object.serial ≡ r.place = omega (arith, at) in
      let whole = e.sane.grouped.whole a.object o spec e.task (is_made (bearing a.object spec) o r.owner low high) in (
        r.place,
        record {
          born = ap (λ bs. part_at bs o) e.births_same ∙ whole ∙ ap (λ (i : ℕ). Some (part_in i)) place;
          contents = cs;
          ended = (0, ap (λ xs. slice_get xs 0) e.ended);
          content = r.there;
        },
      )

  made_by_end : (n : ℕ) (o : Id) (i : ℕ) → IsMadeAt q.log o i n → IsMadeAt p.log o i n ⊎ ((a.number ≡ i) × IsNewContent q a.object cs n o i)
  made_by_end n o i (inl m) = inl (inl (put_was p q g e.sane e.calm o i n m (ap (λ bs. birth_at bs o) (sym e.births_same) ∙ m.born)))
  made_by_end n o i (inr m) =
      let first = m.part.born.object in
      at_test (λ t. same_attempt a (attempt first i) ≡ t → IsMadeAt p.log o i n ⊎ ((a.number ≡ i) × IsNewContent q a.object cs n o i)) (same_attempt a (attempt first i))
      (λ t h.
      let same = same_attempt-true a (attempt first i) h in
      let object : a.object ≡ first = ap (λ (z : Attempt). z.object) same in
      let among : Among m.result.contents (cs ∷ []) = subst (Among m.result.contents) (ap (λ z. ends_of z q.log) (sym same) ∙ e.ended) m.result.ended in
      let there : slice_get cs m.part.place ≡ Some m.content = ap (λ xs. slice_get xs m.part.place) (among_one m.result.contents cs among) ∙ m.result.content in
      let made = part_is_made (births q.log) o m.part m.result.born in
      let from = made_from m.part.born o made.0 in
      let at : m.part.place ≡ o.serial - first.serial = ap (λ (x : Part). x.place) made.1 in
      let serial_same : a.object.serial ≡ first.serial = ap (λ (z : Id). z.serial) object in
      let serial : o.serial ≡ a.object.serial + m.part.place = omega (arith, from, at, serial_same) in
      inr (
        ap (λ (z : Attempt). z.number) same,
        (m.content, stands_at a.object cs o m.content m.part.place (ap (λ (z : Id). z.owner) object ∙ made_owner m.part.born o made.0) serial there, λ small. inr (inr (m, inr (m.part, m.content, m.result, small)))),
      ))
      (λ t h. inl (inr (ended_was p q g e.sane o i n m (part_was o m.part m.result.born) (subst (Among m.result.contents) (e.others (attempt first i) h) m.result.ended)))) refl

  pub ends_store : (n : ℕ) (store : Store) → KnowsStore p n store → KnowsStore q n (closed_all store a.object a.number cs)
  ends_store n store k = store_closes p q g n a.object a.number cs store (λ o c h. let r = result_now o c h in inr (part_in r.0, r.1)) (λ o i m. made_by_end n o i m) k
