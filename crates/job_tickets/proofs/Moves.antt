-- Each step keeps the tickets.
use Rattle.std.proofs.Common.{◌≡◌, ◌≢◌, ◌⊎◌, ℕ, zero, suc, ◌<◌, List, [], ◌∷◌, ◌++◌, length, set, Option, Some, None, true, false, true≢false}
use Rattle.std.proofs.Common.{refl, sym, ap, ◌∙◌, subst, inl, inr, ⊎_elim, arith}
use Rattle.std.specs.Prelude.{slice_get}
use mathlib.Core.Option.{some, some-ne-none, some-injective}
use lib.ListN.{get_elem?}
use Rattle.crossbeam_utils.specs.Register.{Turns, Forks, Merges}
use Rattle.atomic_table.proofs.Lists.{at_set, at_snoc}
use Rattle.job_tickets.specs.declared.law.Claim.{Claim}
use Rattle.job_tickets.specs.declared.law.View.{View}
use Rattle.job_tickets.specs.Tickets.{Gave, Kept, TakenBack, TookBack, claim_of, knower, nobody, taken_back, with_claim, without_claim}

off : false ≡ true → ⊥
off e = true≢false (sym e)

none_some : {A : Type 0} (x : A) → ◌≡◌ {A = Option A} None (Some x) → ⊥
none_some x e = cc

some_same : {A : Type 0} (x y : A) → ◌≡◌ {A = Option A} (Some x) (Some y) → x ≡ y
some_same x y e = cc

module _ {J : Type 0} where
  -- ---- lists of tickets

  front_stays : (all more : List (Option J)) (n : ℕ) (x : Option J) → slice_get all n ≡ Some x → slice_get (all ++ more) n ≡ Some x
  front_stays [] more n x e = absurd (none_some x e)
  front_stays (y ∷ all) more zero x e = e
  front_stays (y ∷ all) more (suc n) x e = front_stays all more n x e

  last_there : (all : List (Option J)) (x : Option J) → slice_get (all ++ x ∷ []) (length all) ≡ Some x
  last_there [] x = refl
  last_there (y ∷ all) x = last_there all x

  is_within : (all : List (Option J)) (n : ℕ) (x : Option J) → slice_get all n ≡ Some x → n < length all
  is_within [] n x e = absurd (none_some x e)
  is_within (y ∷ all) zero x e = omega arith
  is_within (y ∷ all) (suc n) x e = let h = is_within all n x e in omega (arith, h)

  -- the others stay
  others_stay : (all : List (Option J)) (n m : ℕ) (x : Option J) → m ≢ n → slice_get all m ≡ Some x → slice_get (taken_back n all) m ≡ Some x
  others_stay [] n m x apart e = e
  others_stay (y ∷ all) zero zero x apart e = absurd (apart refl)
  others_stay (y ∷ all) zero (suc m) x apart e = e
  others_stay (y ∷ all) (suc n) zero x apart e = e
  others_stay (y ∷ all) (suc n) (suc m) x apart e = others_stay all n m x (λ same. apart (ap suc same)) e

  -- ---- what a pass knows, by the rule

  -- a pass that neither keeps nor claims
  record Knows (keeper : ℕ) (all : List (Option J)) (by : ℕ) (v : View J) : Type 0 where
    pub known : v.keeps ≡ true → (by ≡ keeper) × (v.all ≡ all)
    pub claimed : (k : Claim J) → v.claim ≡ Some k → slice_get all k.place ≡ Some (Some k.of)

  knows : (words : List ℕ) (views : List (View J)) (h : Kept words views) (by : ℕ) (v : View J) → get_elem? views by ≡ some v → Knows h.keeper h.all by v
  knows words views h by v e = record { known = h.known by v e; claimed = λ k. h.claimed by v k e }

  -- no two of these claim the same
  abbrev AreApart : List (View J) → Type 0
  AreApart views =
      (by other : ℕ) (v w : View J) (k l : Claim J) → get_elem? views by ≡ some v → get_elem? views other ≡ some w → v.claim ≡ Some k → w.claim ≡ Some l →
      k.place ≡ l.place → by ≡ other

  -- where each knows what is so, and no two claim the same, the tickets are kept
  kept_of : (words : List ℕ) (views : List (View J)) (keeper : ℕ) (all : List (Option J)) → ((by : ℕ) (v : View J) → get_elem? views by ≡ some v → Knows keeper all by v) →
      AreApart views → Kept words views
  kept_of words views keeper all each apart = record {
    keeper = keeper;
    all = all;
    known = λ by v e. (each by v e).known;
    claimed = λ by v k e. (each by v e).claimed k;
    once = apart;
  }

  -- a view is set
  each_set : (keeper : ℕ) (all : List (Option J)) (views : List (View J)) (by : ℕ) (w : View J) →
      ((j : ℕ) (u : View J) → j ≢ by → get_elem? views j ≡ some u → Knows keeper all j u) → Knows keeper all by w →
      (j : ℕ) (u : View J) → get_elem? (set views by w) j ≡ some u → Knows keeper all j u
  each_set keeper all views by w others mine j u e =
      ⊎_elim
      (λ (x : (j ≡ by) × (w ≡ u)). subst (λ (y : ℕ × View J). Knows keeper all y.0 y.1) (λ i. (sym x.0 i, x.1 i)) mine)
      (λ (x : (j ≢ by) × (get_elem? views j ≡ some u)). others j u x.0 x.1)
      (at_set views by j w u e)

  -- what it claims is claimed by none of the others
  abbrev IsFree : List (View J) → ℕ → View J → Type 0
  IsFree views by w = (j : ℕ) (u : View J) (k l : Claim J) → j ≢ by → get_elem? views j ≡ some u → u.claim ≡ Some k → w.claim ≡ Some l → k.place ≡ l.place → ⊥

  apart_set : (views : List (View J)) (by : ℕ) (w : View J) → AreApart views → IsFree views by w → AreApart (set views by w)
  apart_set views by w apart free i j u v k l eu ev cu cv same = go (at_set views by i w u eu) (at_set views by j w v ev)
    where
      go : ((i ≡ by) × (w ≡ u)) ⊎ ((i ≢ by) × (get_elem? views i ≡ some u)) → ((j ≡ by) × (w ≡ v)) ⊎ ((j ≢ by) × (get_elem? views j ≡ some v)) → i ≡ j
      go (inl a) (inl b) = a.0 ∙ sym b.0
      go (inl a) (inr b) = absurd (free j v l k b.0 b.1 cv (ap (λ (x : View J). x.claim) a.1 ∙ cu) (sym same))
      go (inr a) (inl b) = absurd (free i u k l a.0 a.1 cu (ap (λ (x : View J). x.claim) b.1 ∙ cv) same)
      go (inr a) (inr b) = apart i j u v k l a.1 b.1 cu cv same

  no_claim : (w : View J) (l : Claim J) → w.claim ≡ None → w.claim ≡ Some l → ⊥
  no_claim w l none e = none_some l (sym none ∙ e)

  -- one without a claim is free
  free_bare : (views : List (View J)) (by : ℕ) (w : View J) → w.claim ≡ None → IsFree views by w
  free_bare views by w bare j u k l apart eu cu cw same = no_claim w l bare cw

  -- ---- the steps

  pub begins : (words : List ℕ) → Kept {J = J} words (knower [] ∷ [])
  begins words = kept_of words (knower [] ∷ []) 0 [] one bare
    where
      one : (by : ℕ) (v : View J) → get_elem? (knower [] ∷ []) by ≡ some v → Knows 0 [] by v
      one zero v e = subst (Knows 0 [] 0) (some-injective _ _ e) (record { known = λ _. (refl, refl); claimed = λ k c. absurd (none_some k c) })
      one (suc by) v e = absurd (some-ne-none v (sym e))

      claim_at : (by : ℕ) (v : View J) (k : Claim J) → get_elem? (knower [] ∷ []) by ≡ some v → v.claim ≡ Some k → ⊥
      claim_at zero v k e c = none_some k (ap (λ (x : View J). x.claim) (some-injective _ _ e) ∙ c)
      claim_at (suc by) v k e c = some-ne-none v (sym e)

      bare : AreApart (knower [] ∷ [])
      bare i j u v k l eu ev cu cv same = absurd (claim_at i u k eu cu)

  -- the keeper gives a ticket out
  pub gives : (by : ℕ) (all : List (Option J)) (x : J) → Turns Kept by (knower all) (λ w. w) (Gave (Some x))
  gives by all x words views h at =
      let mine = h.known by (knower all) at refl in
      let now : List (Option J) = h.all ++ Some x ∷ [] in
      let w : View J = record { keeps = true; all = all ++ Some x ∷ []; claim = Some (record { place = length all; of = x }) } in
      let longer : length all ≡ length h.all = ap length mine.1 in
      let new_claim : (k : Claim J) → w.claim ≡ Some k → slice_get now k.place ≡ Some (Some k.of) =
      λ k c. subst (λ (l : Claim J). slice_get now l.place ≡ Some (Some l.of)) (some_same _ k c)
      (subst (λ n. slice_get now n ≡ Some (Some x)) (sym longer) (last_there h.all (Some x))) in (
        w,
        kept_of words (set views by w) h.keeper now
            (each_set h.keeper now views by w
            (λ j u apart e. record {
              known = λ keeps. absurd (apart ((h.known j u e keeps).0 ∙ sym mine.0));
              claimed = λ k c. front_stays h.all (Some x ∷ []) k.place (Some k.of) (h.claimed j u k e c);
            })
            (record { known = λ _. (mine.0, ap (λ l. l ++ Some x ∷ []) mine.1); claimed = new_claim }))
            (apart_set views by w h.once
            (λ j u k l apart e c cw same.
            let here = is_within h.all k.place (Some k.of) (h.claimed j u k e c) in
            let place : length all ≡ l.place = ap (λ (y : Claim J). y.place) (some_same _ l cw) in
            omega (arith, here, place, longer, same))),
        refl,
      )

  -- a view more at the end
  at_end : (views : List (View J)) (w u : View J) (j : ℕ) → get_elem? (views ++ w ∷ []) j ≡ some u →
      (get_elem? views j ≡ some u) ⊎ ((j ≡ length views) × (w ≡ u))
  at_end [] w u zero e = inr (refl, some-injective w u e)
  at_end [] w u (suc j) e = absurd (some-ne-none u (sym e))
  at_end (x ∷ views) w u zero e = inl e
  at_end (x ∷ views) w u (suc j) e = ⊎_elim (λ t. inl t) (λ (t : (j ≡ length views) × (w ≡ u)). inr (ap suc t.0, t.1)) (at_end views w u j e)

  -- with a claim that none of the others has
  apart_end : (views : List (View J)) (w : View J) → AreApart views →
      ((j : ℕ) (u : View J) (k l : Claim J) → get_elem? views j ≡ some u → u.claim ≡ Some k → w.claim ≡ Some l → k.place ≡ l.place → ⊥) →
      AreApart (views ++ w ∷ [])
  apart_end views w apart free i j u v k l eu ev cu cv same = go (at_end views w u i eu) (at_end views w v j ev)
    where
      go : (get_elem? views i ≡ some u) ⊎ ((i ≡ length views) × (w ≡ u)) → (get_elem? views j ≡ some v) ⊎ ((j ≡ length views) × (w ≡ v)) → i ≡ j
      go (inl a) (inl b) = apart i j u v k l a b cu cv same
      go (inl a) (inr b) = absurd (free i u k l a cu (ap (λ (x : View J). x.claim) b.1 ∙ cv) same)
      go (inr a) (inl b) = absurd (free j v l k b cv (ap (λ (x : View J). x.claim) a.1 ∙ cu) (sym same))
      go (inr a) (inr b) = a.0 ∙ sym b.0

  -- a claim goes over to a new pass
  pub hands : (by : ℕ) (v : View J) → Forks Kept by v (without_claim v) (claim_of v)
  hands by v words views h at =
      let left = without_claim v in
      let right = claim_of v in
      let rest = set views by left in
      let known : (j : ℕ) (u : View J) → get_elem? rest j ≡ some u → Knows h.keeper h.all j u =
      each_set h.keeper h.all views by left (λ j u apart e. knows words views h j u e)
      (record { known = h.known by v at; claimed = λ k c. absurd (none_some k c) }) in
      let new : (j : ℕ) → Knows h.keeper h.all j right =
      λ j. record { known = λ keeps. absurd (off keeps); claimed = λ k c. h.claimed by v k at c } in
      kept_of words (rest ++ right ∷ []) h.keeper h.all
      (λ j u e. ⊎_elim (λ was. known j u was) (λ (same : right ≡ u). subst (Knows h.keeper h.all j) same (new j)) (at_snoc rest right u j e))
      (apart_end rest right (apart_set views by left h.once (free_bare views by left refl))
      (λ j u k l e c cr same. in_rest j u k l (at_set views by j left u e) c cr same))
    where
      in_rest : (j : ℕ) (u : View J) (k l : Claim J) → ((j ≡ by) × (without_claim v ≡ u)) ⊎ ((j ≢ by) × (get_elem? views j ≡ some u)) → u.claim ≡ Some k →
          v.claim ≡ Some l → k.place ≡ l.place → ⊥
      in_rest j u k l (inl a) cu cv same = none_some k (ap (λ (x : View J). x.claim) a.1 ∙ cu)
      in_rest j u k l (inr b) cu cv same = b.0 (h.once j by u v k l b.1 at cu cv same)

  -- the keeper takes in a claim
  pub takes_in : (by : ℕ) (all : List (Option J)) (other : ℕ) (u : View J) → Merges Kept by (knower all) other u (with_claim (knower all) u) nobody
  takes_in by all other u words views h at apart there =
      let mine = h.known by (knower all) at refl in
      kept_of words (set (set views by w) other nobody) h.keeper h.all
      (each_set h.keeper h.all (set views by w) other nobody
      (λ j v _ e. each_set h.keeper h.all views by w (λ i y _ e'. knows words views h i y e')
      (record { known = λ _. mine; claimed = λ k c. h.claimed other u k theirs c }) j v e)
      (record { known = λ keeps. absurd (off keeps); claimed = λ k c. absurd (none_some k c) }))
      (λ i j v x k l ev ex cv cx same. once i j v x k l (whose i v k ev cv) (whose j x l ex cx) cv cx same)
    where
      w : View J
      w = with_claim (knower all) u

      theirs : get_elem? views other ≡ some u
      theirs = ⊎_elim (λ (t : (other ≡ by) × (w ≡ u)). absurd (apart t.0)) (λ (t : (other ≢ by) × (get_elem? views other ≡ some u)). t.1)
          (at_set views by other w u there)

      -- whose claim it was: that pass's, or the same one's
      Whose : ℕ → View J → Claim J → Type 0
      Whose i v k = ((i ≡ by) × (u.claim ≡ Some k)) ⊎ ((i ≢ other) × (get_elem? views i ≡ some v))

      whose : (i : ℕ) (v : View J) (k : Claim J) → get_elem? (set (set views by w) other nobody) i ≡ some v → v.claim ≡ Some k → Whose i v k
      whose i v k e c =
          ⊎_elim
          (λ (t : (i ≡ other) × (nobody ≡ v)). absurd (none_some k (ap (λ (x : View J). x.claim) t.1 ∙ c)))
          (λ (t : (i ≢ other) × (get_elem? (set views by w) i ≡ some v)).
          ⊎_elim
          (λ (b : (i ≡ by) × (w ≡ v)). inl (b.0, ap (λ (x : View J). x.claim) b.1 ∙ c))
          (λ (b : (i ≢ by) × (get_elem? views i ≡ some v)). inr (t.0, b.1))
          (at_set views by i w v t.1))
          (at_set (set views by w) other i nobody v e)

      once : (i j : ℕ) (v x : View J) (k l : Claim J) → Whose i v k → Whose j x l → v.claim ≡ Some k → x.claim ≡ Some l → k.place ≡ l.place → i ≡ j
      once i j v x k l (inl a) (inl b) cv cx same = a.0 ∙ sym b.0
      once i j v x k l (inl a) (inr b) cv cx same = absurd (b.0 (sym (h.once other j u x k l theirs b.1 a.1 cx same)))
      once i j v x k l (inr a) (inl b) cv cx same = absurd (a.0 (h.once i other v u k l a.1 theirs cv b.1 same))
      once i j v x k l (inr a) (inr b) cv cx same = h.once i j v x k l a.1 b.1 cv cx same

  -- the keeper hands the ticket of its claim back
  pub takes_back : (by : ℕ) (v : View J) → v.keeps ≡ true → Turns Kept by v (λ w. w) TookBack
  takes_back by v keeps words views h at = go v.claim refl
    where
      mine : (by ≡ h.keeper) × (v.all ≡ h.all)
      mine = h.known by v at keeps

      Told : Type 0
      Told = (w : View J) × Kept words (set views by w) × TookBack v words words w

      -- with these tickets left
      left : (all : List (Option J)) → TakenBack v.claim v.all all →
          ((j : ℕ) (u : View J) (k : Claim J) → j ≢ by → get_elem? views j ≡ some u → u.claim ≡ Some k → slice_get all k.place ≡ Some (Some k.of)) → Told
      left all taken stay =
          let w : View J = record { keeps = v.keeps; all = all; claim = None } in (
            w,
            kept_of words (set views by w) h.keeper all
                (each_set h.keeper all views by w
                (λ j u apart e. record {
                  known = λ u_keeps. absurd (apart ((h.known j u e u_keeps).0 ∙ sym mine.0));
                  claimed = λ k c. stay j u k apart e c;
                })
                (record { known = λ _. (mine.0, refl); claimed = λ k c. absurd (none_some k c) }))
                (apart_set views by w h.once (free_bare views by w refl)),
            (refl, taken),
          )

      go : (c : Option (Claim J)) → v.claim ≡ c → Told
      go None is = left v.all (subst (λ o. TakenBack o v.all v.all) (sym is) refl)
          (λ j u k apart e c. subst (λ all. slice_get all k.place ≡ Some (Some k.of)) (sym mine.1) (h.claimed j u k e c))
      go (Some k) is =
          left (taken_back k.place v.all)
          (subst (λ o. TakenBack o v.all (taken_back k.place v.all)) (sym is)
          (subst (λ all. slice_get all k.place ≡ Some (Some k.of)) (sym mine.1) (h.claimed by v k at is), refl))
          (λ j u l apart e c. others_stay v.all k.place l.place (Some l.of) (λ same. apart (h.once j by u v l k e at c is same))
          (subst (λ all. slice_get all l.place ≡ Some (Some l.of)) (sym mine.1) (h.claimed j u l e c)))

  -- ---- the steps, at a view that is known

  pub gives_as : (by : ℕ) (v : View J) (all : List (Option J)) (o : Option J) (x : J) → v ≡ knower all → o ≡ Some x → Turns Kept by v (λ w. w) (Gave o)
  gives_as by v all o x is of = subst (λ (g : Option J). Turns Kept by v (λ w. w) (Gave g)) (sym of)
      (subst (λ (y : View J). Turns Kept by y (λ w. w) (Gave (Some x))) (sym is) (gives by all x))

  pub takes_in_as : (by : ℕ) (v : View J) (all : List (Option J)) (other : ℕ) (u : View J) → v ≡ knower all →
      Merges Kept by v other u (with_claim v u) nobody
  takes_in_as by v all other u is = subst (λ (y : View J). Merges Kept by y other u (with_claim y u) nobody) (sym is) (takes_in by all other u)
