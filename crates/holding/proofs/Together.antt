-- The run of the example in which a task has two results is legal.
use Rattle.std.proofs.Common.{◌≡◌, ℕ, true, false, List, [], ◌∷◌, ◌⊎◌, inl, inr, refl, sym, ◌∙◌, ap, subst, arith}
use Rattle.meaning.specs.Values.{Id}
use Rattle.meaning_laws.specs.of_event_log.Entries.{Attempt, main_object, main_attempt}
use Rattle.holding.specs.Past.{Fact, Begun, Born, Ended, Faulted, Over, Accepted, Released, Killed, Added, Removed, Has, Among, IsOneOf, IsFilled, Bore, Given, Puts, InBirth, InContent, SafeBorn}
use Rattle.holding.specs.Legal.{Running, IsPart, MayBegin, MayBear, MayEnd, AtEnd, MayBeOver, MayAccept, MayRelease, IsWhollyReleased, Legal}
use Rattle.holding.specs.Held.{Held, ByEntry}
use Rattle.holding.specs.Example.{first, second, third, of_second, while_both_are_there, while_one_is_there, at_end_of_both}
use Rattle.holding.proofs.Sorting.{lacks, has_none, has_kind}
use Rattle.holding.proofs.Words.{wholly_each}

abbrev q1 : List Fact
q1 = Begun main_attempt 1 ∷ []

abbrev q2 : List Fact
q2 = Born first main_attempt true 0 [] ∷ q1

abbrev q3 : List Fact
q3 = Born second main_attempt false 1 (first ∷ []) ∷ q2

abbrev q5 : List Fact
q5 = Added third first ∷ Added second first ∷ q3

abbrev q6 : List Fact
q6 = Begun of_second 2 ∷ q5

abbrev contents : List (List Id)
contents = [] ∷ (first ∷ []) ∷ []

abbrev q7 : List Fact
q7 = Ended of_second contents ∷ q6

abbrev q8 : List Fact
q8 = Over of_second ∷ q7

abbrev q9 : List Fact
q9 = Accepted of_second ∷ q8

abbrev q10 : List Fact
q10 = Ended main_attempt [] ∷ q9

abbrev q15 : List Fact
q15 = Removed third first ∷ Removed second first ∷ Released third ∷ while_one_is_there

-- ---- which facts there are

two : (f g h : Fact) → Has f (g ∷ h ∷ []) → (f ≡ g) ⊎ (f ≡ h)
two f g h (inl k) = inl k
two f g h (inr (inl k)) = inr k
two f g h (inr (inr k)) = absurd k

one : (f g : Fact) → Has f (g ∷ []) → f ≡ g
one f g (inl k) = k
one f g (inr k) = absurd k

apart : (x y : Id) (m n : ℕ) → x ≡ y → x.serial ≡ m → y.serial ≡ n → m ≡ n
apart x y m n h e f = sym e ∙ (ap (λ (o : Id). o.serial) h ∙ f)

zero_one : ◌≡◌ {A = ℕ} 0 1 → ⊥
zero_one h = omega (arith, h)

zero_two : ◌≡◌ {A = ℕ} 0 2 → ⊥
zero_two h = omega (arith, h)

zero_three : ◌≡◌ {A = ℕ} 0 3 → ⊥
zero_three h = omega (arith, h)

one_two : ◌≡◌ {A = ℕ} 1 2 → ⊥
one_two h = omega (arith, h)

one_three : ◌≡◌ {A = ℕ} 1 3 → ⊥
one_three h = omega (arith, h)

of_first : (z : Id) → IsOneOf first 0 z → z ≡ first
of_first z (inl h) = h
of_first z (inr h) = absurd h

of_task : (z : Id) → IsOneOf second 1 z → (z ≡ second) ⊎ (z ≡ third)
of_task z (inl h) = inl h
of_task z (inr (inl h)) = inr h
of_task z (inr (inr h)) = absurd h

ids_of : (o x : Id) (b c : Attempt) (p r : _) (m n : ℕ) (js ks : List Id) → Born o b p m js ≡ Born x c r n ks → js ≡ ks
ids_of o x b c p r m n js ks h = cc

first_of : (o x : Id) (b c : Attempt) (p r : _) (m n : ℕ) (js ks : List Id) → Born o b p m js ≡ Born x c r n ks → o ≡ x
first_of o x b c p r m n js ks h = cc

count_of : (o x : Id) (b c : Attempt) (p r : _) (m n : ℕ) (js ks : List Id) → Born o b p m js ≡ Born x c r n ks → m ≡ n
count_of o x b c p r m n js ks h = cc

bearer_of : (o x : Id) (b c : Attempt) (p r : _) (m n : ℕ) (js ks : List Id) → Born o b p m js ≡ Born x c r n ks → b ≡ c
bearer_of o x b c p r m n js ks h = cc

running : (past : List Fact) (a : Attempt) (w : ℕ) → Has (Begun a w) past → lacks 8 past ≡ true → ((cs : List (List Id)) → Has (Ended a cs) past → ⊥) → lacks 4 past ≡ true → Running past a w
running past a w b k e f = record { begun = b; lives = has_none (Killed w) past k; no_end = e; no_fault = has_none (Faulted a) past f }

-- ---- step by step

born_first : MayBear q1 first main_attempt 0 []
born_first = record {
  running = running q1 main_attempt 1 (inl refl) refl (λ cs. has_none (Ended main_attempt cs) q1 refl) refl;
  fresh = λ z f i h. has_none (Born f h.bearer h.put h.others h.ids) q1 refl h.born;
  not_main = λ i. zero_one (apart main_object first 0 1 (of_first main_object i) refl refl);
  known = λ z m. absurd m;
}

born_task : MayBear q2 second main_attempt 1 (first ∷ [])
born_task = record {
  running = running q2 main_attempt 1 (inr (inl refl)) refl (λ cs. has_none (Ended main_attempt cs) q2 refl) refl;
  fresh = fresh;
  not_main = λ i. elim (of_task main_object i) [ inl g ↦ zero_two (apart main_object second 0 2 g refl refl) | inr g ↦ zero_three (apart main_object third 0 3 g refl refl) ];
  known = λ z m. elim m [ inl s ↦ Bore first true 0 [] (inl refl) (inl s) | inr n ↦ absurd n ];
}
  where
    fresh : (z f : Id) → IsOneOf second 1 z → IsPart q2 f z → ⊥
    fresh z f i h =
        let e : Born f h.bearer h.put h.others h.ids ≡ Born first main_attempt true 0 [] = one (Born f h.bearer h.put h.others h.ids) (Born first main_attempt true 0 []) (has_kind (Born f h.bearer h.put h.others h.ids) q2 h.born) in
        let here : z ≡ first = of_first z (subst (λ n. IsOneOf first n z) (count_of f first h.bearer main_attempt h.put true h.others 0 h.ids [] e) (subst (λ o. IsOneOf o h.others z) (first_of f first h.bearer main_attempt h.put true h.others 0 h.ids [] e) h.one)) in
        elim (of_task z i) [ inl g ↦ one_two (apart first second 1 2 (sym here ∙ g) refl refl) | inr g ↦ one_three (apart first third 1 3 (sym here ∙ g) refl refl) ]

begun_second : MayBegin q5 of_second
begun_second = record {
  owner_lives = has_none (Killed 1) q5 refl;
  bearer = main_attempt;
  others = 1;
  ids = first ∷ [];
  born = inr (inr (inl refl));
  once = once;
  unreleased = has_none (Released second) q5 refl;
}
  where
    once : (v : ℕ) → Has (Begun of_second v) q5 → ⊥
    once v h = clash (one (Begun of_second v) (Begun main_attempt 1) (has_kind (Begun of_second v) q5 h))
      where
        clash : Begun of_second v ≡ Begun main_attempt 1 → ⊥
        clash e = zero_two (sym (apart second main_object 2 0 (ap (λ (x : Attempt). x.object) (is_main e)) refl refl))
          where
            is_main : Begun of_second v ≡ Begun main_attempt 1 → of_second ≡ main_attempt
            is_main k = cc

filled_as : (o : Id) (ids : List Id) → IsFilled second contents o ids → ((o ≡ second) × (ids ≡ [])) ⊎ ((o ≡ third) × (ids ≡ first ∷ []))
filled_as o ids (inl h) = inl h
filled_as o ids (inr (inl h)) = inr h
filled_as o ids (inr (inr h)) = absurd h

ended_second : MayEnd q6 of_second contents
ended_second = record {
  worker = 2;
  running = running q6 of_second 2 (inl refl) refl (λ cs. has_none (Ended of_second cs) q6 refl) refl;
  own = λ o ids i. elim (filled_as o ids i) [
    | inl g ↦ inl g.0
    | inr g ↦ inr (record { bearer = main_attempt; put = false; others = 1; ids = first ∷ []; born = inr (inr (inr (inl refl))); one = inr (inl g.0) })
  ];
  known = known;
}
  where
    known : (o : Id) (ids : List Id) (z : Id) → IsFilled second contents o ids → Among z ids → Rattle.holding.specs.Past.Knows q6 of_second z
    known o ids z i m = elim (filled_as o ids i) [
      | inl g ↦ absurd (subst (Among z) g.1 m)
      | inr g ↦ Given main_attempt false 1 (first ∷ []) (inr (inr (inr (inl refl)))) (subst (Among z) g.1 m)
    ]

is_first : (z : Id) → Among z (first ∷ []) → z ≡ first
is_first z (inl h) = h
is_first z (inr h) = absurd h

-- ---- what was put somewhere

counted : (past : List Fact) (e z : Id) → Has (Added second first) past → Has (Added third first) past → (e ≡ second) ⊎ (e ≡ third) → z ≡ first → Has (Added e z) past
counted past e z h k (inl g) s = subst (λ x. Has (Added x z) past) (sym g) (subst (λ y. Has (Added second y) past) (sym s) h)
counted past e z h k (inr g) s = subst (λ x. Has (Added x z) past) (sym g) (subst (λ y. Has (Added third y) past) (sym s) k)

second_not_main : of_second ≡ main_attempt → ⊥
second_not_main h = zero_two (sym (apart second main_object 2 0 (ap (λ (x : Attempt). x.object) h) refl refl))

over_second : MayBeOver q7 of_second
over_second = record {
  worker = 2;
  begun = inr (inl refl);
  lives = has_none (Killed 2) q7 refl;
  stopped = AtEnd contents (inl refl);
  settled = λ e z p. inl (put e z p);
}
  where
    contents_are : (cs : List (List Id)) → Ended of_second cs ≡ Ended of_second contents → cs ≡ contents
    contents_are cs h = cc

    put : (e z : Id) → Puts q7 of_second e z → Has (Added e z) q7
    put e z (InContent cs ids h i m) =
        let same : cs ≡ contents = contents_are cs (one (Ended of_second cs) (Ended of_second contents) (has_kind (Ended of_second cs) q7 h)) in
        elim (filled_as e ids (subst (λ xs. IsFilled second xs e ids) same i)) [
          | inl g ↦ absurd (subst (Among z) g.1 m)
          | inr g ↦ counted q7 e z (inr (inr (inr (inl refl)))) (inr (inr (inl refl))) (inr g.0) (is_first z (subst (Among z) g.1 m))
        ]
    put e z (InBirth o p n ids h i m) = absurd (second_not_main (elim (two (Born o of_second p n ids) (Born second main_attempt false 1 (first ∷ [])) (Born first main_attempt true 0 []) (has_kind (Born o of_second p n ids) q7 h)) [
      | inl g ↦ bearer_of o second of_second main_attempt p false n 1 ids (first ∷ []) g
      | inr g ↦ bearer_of o first of_second main_attempt p true n 0 ids [] g
    ]))

ended_main : MayEnd q9 main_attempt []
ended_main = record { worker = 1; running = running q9 main_attempt 1 begun refl no_end refl; own = λ o ids i. absurd i; known = λ o ids z i m. absurd i }
  where
    begun : Has (Begun main_attempt 1) q9
    begun = inr (inr (inr (inr (inr (inr (inr (inr (inl refl))))))))

    no_end : (cs : List (List Id)) → Has (Ended main_attempt cs) q9 → ⊥
    no_end cs h = second_not_main (sym (is_second (one (Ended main_attempt cs) (Ended of_second contents) (has_kind (Ended main_attempt cs) q9 h))))
      where
        is_second : Ended main_attempt cs ≡ Ended of_second contents → main_attempt ≡ of_second
        is_second k = cc

over_main : MayBeOver q10 main_attempt
over_main = record {
  worker = 1;
  begun = inr (inr (inr (inr (inr (inr (inr (inr (inr (inl refl)))))))));
  lives = has_none (Killed 1) q10 refl;
  stopped = AtEnd [] (inl refl);
  settled = λ e z p. inl (put e z p);
}
  where
    none_or : (cs : List (List Id)) → Ended main_attempt cs ≡ Ended main_attempt [] → cs ≡ []
    none_or cs h = cc

    of_other : (cs : List (List Id)) → Ended main_attempt cs ≡ Ended of_second contents → main_attempt ≡ of_second
    of_other cs h = cc

    put : (e z : Id) → Puts q10 main_attempt e z → Has (Added e z) q10
    put e z (InContent cs ids h i m) = absurd (elim (two (Ended main_attempt cs) (Ended main_attempt []) (Ended of_second contents) (has_kind (Ended main_attempt cs) q10 h)) [
      | inl g ↦ subst (λ xs. IsFilled main_object xs e ids) (none_or cs g) i
      | inr g ↦ absurd (second_not_main (sym (of_other cs g)))
    ])
    put e z (InBirth o p n ids h i m) = elim (two (Born o main_attempt p n ids) (Born second main_attempt false 1 (first ∷ [])) (Born first main_attempt true 0 []) (has_kind (Born o main_attempt p n ids) q10 h)) [
      | inl g ↦
          counted q10 e z (inr (inr (inr (inr (inr (inr (inl refl))))))) (inr (inr (inr (inr (inr (inl refl))))))
          (of_task e (subst (λ k. IsOneOf second k e) (count_of o second main_attempt main_attempt p false n 1 ids (first ∷ []) g) (subst (λ x. IsOneOf x n e) (first_of o second main_attempt main_attempt p false n 1 ids (first ∷ []) g) i)))
          (is_first z (subst (Among z) (ids_of o second main_attempt main_attempt p false n 1 ids (first ∷ []) g) m))
      | inr g ↦ absurd (subst (Among z) (ids_of o first main_attempt main_attempt p true n 0 ids [] g) m)
    ]

-- ---- releases

abbrev task_part : (past : List Fact) (o : Id) → Has (Born second main_attempt false 1 (first ∷ [])) past → IsOneOf second 1 o → IsPart past second o
task_part past o h i = record { bearer = main_attempt; put = false; others = 1; ids = first ∷ []; born = h; one = i }

begun_two : (past : List Fact) (a : Attempt) (v : ℕ) → Has (Over of_second) past → Has (Over main_attempt) past → (Begun a v ≡ Begun of_second 2) ⊎ (Begun a v ≡ Begun main_attempt 1) → Has (Over a) past ⊎ Has (Killed v) past
begun_two past a v h k (inl g) = inl (subst (λ (x : Attempt). Has (Over x) past) (sym (attempt_is g)) h)
  where
    attempt_is : Begun a v ≡ Begun of_second 2 → a ≡ of_second
    attempt_is e = cc
begun_two past a v h k (inr g) = inl (subst (λ (x : Attempt). Has (Over x) past) (sym (main_is g)) k)
  where
    main_is : Begun a v ≡ Begun main_attempt 1 → a ≡ main_attempt
    main_is e = cc

held_is : (d e x y : Id) → Added d x ≡ Added e y → x ≡ y
held_is d e x y h = cc

entry_is : (d e x y : Id) → Added d x ≡ Added e y → d ≡ e
entry_is d e x y h = cc

added_first : (e o : Id) (past : List Fact) → (Added e o ≡ Added third first) ⊎ (Added e o ≡ Added second first) → o ≡ first
added_first e o past (inl g) = held_is e third o first g
added_first e o past (inr g) = held_is e second o first g

release_second : MayRelease while_both_are_there second
release_second = record {
  owner_lives = has_none (Killed 1) while_both_are_there refl;
  first = second;
  born = task_part while_both_are_there second (inr (inr (inr (inr (inr (inr (inr (inr (inl refl))))))))) (inl refl);
  bearer_over = inl refl;
  at_rest = λ a v s h. begun_two while_both_are_there a v (inr (inr (inr (inl refl)))) (inl refl) (two (Begun a v) (Begun of_second 2) (Begun main_attempt 1) (has_kind (Begun a v) while_both_are_there h));
  uncounted = λ e h. absurd (one_two (sym (apart second first 2 1 (added_first e second while_both_are_there (two (Added e second) (Added third first) (Added second first) (has_kind (Added e second) while_both_are_there h))) refl refl)));
}

release_third : MayRelease while_one_is_there third
release_third = record {
  owner_lives = has_none (Killed 1) while_one_is_there refl;
  first = second;
  born = task_part while_one_is_there third (inr (inr (inr (inr (inr (inr (inr (inr (inr (inl refl)))))))))) (inr (inl refl));
  bearer_over = inr (inl refl);
  at_rest = λ a v s h. begun_two while_one_is_there a v (inr (inr (inr (inr (inl refl))))) (inr (inl refl)) (two (Begun a v) (Begun of_second 2) (Begun main_attempt 1) (has_kind (Begun a v) while_one_is_there h));
  uncounted = λ e h. absurd (one_three (sym (apart third first 3 1 (added_first e third while_one_is_there (two (Added e third) (Added third first) (Added second first) (has_kind (Added e third) while_one_is_there h))) refl refl)));
}

gone : (o : Id) → IsOneOf second 1 o → (past : List Fact) → Has (Released second) past → Has (Released third) past → Has (Born second main_attempt false 1 (first ∷ [])) past → IsWhollyReleased past o
gone o i past h k b = record { first = second; born = task_part past o b i; all = (h, (k, tt)) }

release_first : MayRelease q15 first
release_first = record {
  owner_lives = has_none (Killed 1) q15 refl;
  first = first;
  born = record { bearer = main_attempt; put = true; others = 0; ids = []; born = inr (inr (inr (inr (inr (inr (inr (inr (inr (inr (inr (inr (inr (inl refl))))))))))))); one = inl refl };
  bearer_over = inr (inr (inr (inr (inl refl))));
  at_rest = λ a v s h. begun_two q15 a v (inr (inr (inr (inr (inr (inr (inr (inl refl)))))))) (inr (inr (inr (inr (inl refl))))) (two (Begun a v) (Begun of_second 2) (Begun main_attempt 1) (has_kind (Begun a v) q15 h));
  uncounted = λ e h. removed e (two (Added e first) (Added third first) (Added second first) (has_kind (Added e first) q15 h));
}
  where
    removed : (e : Id) → (Added e first ≡ Added third first) ⊎ (Added e first ≡ Added second first) → Has (Removed e first) q15
    removed e (inl g) = inl (ap (λ (x : Id). Removed x first) (entry_is e third first first g))
    removed e (inr g) = inr (inl (ap (λ (x : Id). Removed x first) (entry_is e second first first g)))

-- by the second object, which is released, while the third isn't
pub held_by_both : Held while_one_is_there first
held_by_both =
    ByEntry main_attempt second (InBirth second false 1 (first ∷ []) task (inl refl) (inl refl)) (has_none (Killed 1) while_one_is_there refl) there
    (SafeBorn first true 0 [] (inr (inr (inr (inr (inr (inr (inr (inr (inr (inr (inl refl))))))))))) (inl refl))
  where
    task : Has (Born second main_attempt false 1 (first ∷ [])) while_one_is_there
    task = inr (inr (inr (inr (inr (inr (inr (inr (inr (inl refl)))))))))

    third_there : Has (Released third) while_one_is_there → ⊥
    third_there h = two_three (apart third second 3 2 (is_second (one (Released third) (Released second) (has_kind (Released third) while_one_is_there h))) refl refl)
      where
        is_second : Released third ≡ Released second → third ≡ second
        is_second e = cc

        two_three : ◌≡◌ {A = ℕ} 3 2 → ⊥
        two_three e = omega (arith, e)

    there : IsWhollyReleased while_one_is_there second → ⊥
    there w = third_there (wholly_each while_one_is_there second w third (subst (λ n. IsOneOf w.first n third) (sym (others_are w)) (subst (λ o. IsOneOf o 1 third) (sym (first_is w)) (inr (inl refl)))))
      where
        which : (w : IsWhollyReleased while_one_is_there second) → (Born w.first w.born.bearer w.born.put w.born.others w.born.ids ≡ Born second main_attempt false 1 (first ∷ [])) ⊎ (Born w.first w.born.bearer w.born.put w.born.others w.born.ids ≡ Born first main_attempt true 0 [])
        which w = two (Born w.first w.born.bearer w.born.put w.born.others w.born.ids) (Born second main_attempt false 1 (first ∷ [])) (Born first main_attempt true 0 []) (has_kind (Born w.first w.born.bearer w.born.put w.born.others w.born.ids) while_one_is_there w.born.born)

        not_put : (w : IsWhollyReleased while_one_is_there second) → Born w.first w.born.bearer w.born.put w.born.others w.born.ids ≡ Born first main_attempt true 0 [] → ⊥
        not_put w e = one_two (sym (apart second first 2 1 (of_first second (subst (λ n. IsOneOf first n second) (count_of w.first first w.born.bearer main_attempt w.born.put true w.born.others 0 w.born.ids [] e) (subst (λ o. IsOneOf o w.born.others second) (first_of w.first first w.born.bearer main_attempt w.born.put true w.born.others 0 w.born.ids [] e) w.born.one))) refl refl))

        first_is : (w : IsWhollyReleased while_one_is_there second) → w.first ≡ second
        first_is w = elim (which w) [ inl g ↦ first_of w.first second w.born.bearer main_attempt w.born.put false w.born.others 1 w.born.ids (first ∷ []) g | inr g ↦ absurd (not_put w g) ]

        others_are : (w : IsWhollyReleased while_one_is_there second) → w.born.others ≡ 1
        others_are w = elim (which w) [ inl g ↦ count_of w.first second w.born.bearer main_attempt w.born.put false w.born.others 1 w.born.ids (first ∷ []) g | inr g ↦ absurd (not_put w g) ]

accepted_second : MayAccept q8 of_second
accepted_second = record { owner_lives = has_none (Killed 1) q8 refl; over = inl refl }

abbrev q13 : List Fact
q13 = Released third ∷ while_one_is_there

abbrev q14 : List Fact
q14 = Removed second first ∷ q13

pub both_legal : Legal at_end_of_both
both_legal = (
  release_first,
  (
    inl (gone third (inr (inl refl)) q14 (inr (inr (inl refl))) (inr (inl refl)) (inr (inr (inr (inr (inr (inr (inr (inr (inr (inr (inr (inl refl))))))))))))),
    (
      inl (gone second (inl refl) q13 (inr (inl refl)) (inl refl) (inr (inr (inr (inr (inr (inr (inr (inr (inr (inr (inl refl)))))))))))),
      (release_third, (release_second, (over_main, (ended_main, (accepted_second, (over_second, (ended_second, (inr begun_second, (tt, (tt, (born_task, (born_first, (inl (refl, refl, refl), tt))))))))))))),
    ),
  ),
)
