-- A symbol is read exactly where it is the longest that stands at the front.
use Rattle.std.proofs.Common.{◌≡◌, ℕ, Bool, true, false, cond, eqb, List, [], ◌∷◌, ◌++◌, Option, Some, None, refl, sym, ap, subst, ◌∙◌, inl, inr}
use Rattle.std.specs.List.{AllByRecursion}
use Rattle.std.proofs.lemmas.Bool.{eqb-true}
use Rattle.script_tokens.specs.declared.token.Mark.{Mark}
use Rattle.script_tokens.specs.declared.token.Mark.TheVariants as marks
use Rattle.script_tokens.specs.Bytes.{ends}
use Rattle.script_tokens.specs.Spelling.{mark_text}
use Rattle.script_tokens.specs.Texts.{lengthens_mark}
use Rattle.script_tokens.specs.Lexing.{singles, single_in, pairs, pair_in, pair_at, symbol_at, ◌>>=◌}
use Rattle.script_tokens.proofs.Cases.{chosen, no, some_is, none_is_not, bind_some, choose_some}

-- ---- what stands is read

pub no_pair : (a : ℕ) (rest : List ℕ) → ((b : ℕ) → pair_in pairs a b ≡ None) → pair_at a rest ≡ None
no_pair a [] h = refl
no_pair a (b ∷ rest) h = rw (h b) refl

pub no_pair_before : (a c : ℕ) (m : Mark) (rest : List ℕ) → ((b : ℕ) → pair_in pairs a b ≡ cond (eqb b c) (Some m) None) → ends (λ b. eqb b c) rest ≡ true → pair_at a rest ≡ None
no_pair_before a c m [] h e = refl
no_pair_before a c m (b ∷ rest) h e = elim (chosen (eqb b c) false true true e) [ inl x ↦ absurd (no false x.1 refl) | inr x ↦ rw (h b, x.0) refl ]

pub one_reads : (a : ℕ) (m : Mark) (rest : List ℕ) → pair_at a rest ≡ None → single_in singles a ≡ Some m → symbol_at (a ∷ rest) ≡ Some (m, rest)
unfolding symbol_at
one_reads a m rest d e = rw (d, e) refl

pub two_read : (a b : ℕ) (m : Mark) (rest : List ℕ) → pair_in pairs a b ≡ Some m → symbol_at (a ∷ b ∷ rest) ≡ Some (m, rest)
unfolding symbol_at
two_read a b m rest e = rw e refl

-- ---- what is read stands

pub record SymbolIs (bytes : List ℕ) (m : Mark) (rest : List ℕ) : Type 0 where
  pub spelled : bytes ≡ mark_text m ++ rest
  pub ended : ends (lengthens_mark m) rest ≡ true

pub record PairIs (p : ℕ × ℕ × Mark) : Type 0 where
  pub text : mark_text p.2 ≡ p.0 ∷ p.1 ∷ []
  pub ended : (b : ℕ) → lengthens_mark p.2 b ≡ false

pub record SingleIs (s : ℕ × Mark) : Type 0 where
  pub text : mark_text s.1 ≡ s.0 ∷ []
  pub ended : (b : ℕ) → pair_in pairs s.0 b ≡ None → lengthens_mark s.1 b ≡ false

ends_none : (test : ℕ → Bool) (rest : List ℕ) → ((b : ℕ) → test b ≡ false) → ends test rest ≡ true
ends_none test [] h = refl
ends_none test (b ∷ rest) h = rw (h b) refl

pair_is : (ps : List (ℕ × ℕ × Mark)) (a b : ℕ) (m : Mark) → AllByRecursion PairIs ps → pair_in ps a b ≡ Some m → (mark_text m ≡ a ∷ b ∷ []) × ((c : ℕ) → lengthens_mark m c ≡ false)
pair_is [] a b m h e = absurd (none_is_not m e)
pair_is (p ∷ ps) a b m h e =
    elim (chosen (eqb a p.0) (cond (eqb b p.1) (Some p.2) (pair_in ps a b)) (pair_in ps a b) (Some m) e) [
      | inl x ↦ elim (chosen (eqb b p.1) (Some p.2) (pair_in ps a b) (Some m) x.1) [
        | inl y ↦
            let i : a ≡ p.0 = eqb-true _ _ x.0 in
            let j : b ≡ p.1 = eqb-true _ _ y.0 in
            let k : p.2 ≡ m = some_is p.2 m y.1 in
            let t : mark_text p.2 ≡ a ∷ b ∷ [] = h.0.text ∙ rw (i, j) refl in
            (ap mark_text (sym k) ∙ t, λ c. ap (λ (n : Mark). lengthens_mark n c) (sym k) ∙ h.0.ended c)
        | inr y ↦ pair_is ps a b m h.1 y.1
      ]
      | inr x ↦ pair_is ps a b m h.1 x.1
    ]

single_is : (ss : List (ℕ × Mark)) (a : ℕ) (m : Mark) → AllByRecursion SingleIs ss → single_in ss a ≡ Some m → (mark_text m ≡ a ∷ []) × ((b : ℕ) → pair_in pairs a b ≡ None → lengthens_mark m b ≡ false)
single_is [] a m h e = absurd (none_is_not m e)
single_is (s ∷ ss) a m h e =
    elim (chosen (eqb a s.0) (Some s.1) (single_in ss a) (Some m) e) [
      | inl x ↦
          let i : a ≡ s.0 = eqb-true _ _ x.0 in
          let k : s.1 ≡ m = some_is s.1 m x.1 in
          let t : mark_text s.1 ≡ a ∷ [] = h.0.text ∙ rw i refl in
          (ap mark_text (sym k) ∙ t, λ b none. ap (λ (n : Mark). lengthens_mark n b) (sym k) ∙ h.0.ended b (ap (λ (n : ℕ). pair_in pairs n b) (sym i) ∙ none))
      | inr x ↦ single_is ss a m h.1 x.1
    ]

only_none : (b : Bool) (m : Mark) → (let r : Option Mark = cond b (Some m) None in r) ≡ None → b ≡ false
only_none true m e = absurd cc
only_none false m e = refl

pairs_are : AllByRecursion PairIs pairs
pairs_are = (
  record { text = refl; ended = λ b. refl },
  (
    record { text = refl; ended = λ b. refl },
    (
      record { text = refl; ended = λ b. refl },
      (
        record { text = refl; ended = λ b. refl },
        (record { text = refl; ended = λ b. refl }, tt),
      ),
    ),
  ),
)

singles_are : AllByRecursion SingleIs singles
singles_are = (
  record { text = refl; ended = λ b e. refl },
  (
    record { text = refl; ended = λ b e. refl },
    (
      record { text = refl; ended = λ b e. refl },
      (
        record { text = refl; ended = λ b e. refl },
        (
          record { text = refl; ended = λ b e. refl },
          (
            record { text = refl; ended = λ b e. refl },
            (
              record { text = refl; ended = λ b e. refl },
              (
                record { text = refl; ended = λ b e. refl },
                (
                  record { text = refl; ended = λ b e. refl },
                  (
                    record { text = refl; ended = λ b e. only_none (eqb b 61) marks.Equal e },
                    (
                      record { text = refl; ended = λ b e. only_none (eqb b 61) marks.LessEqual e },
                      (
                        record { text = refl; ended = λ b e. refl },
                        (
                          record { text = refl; ended = λ b e. only_none (eqb b 62) marks.Arrow e },
                          (
                            record { text = refl; ended = λ b e. refl },
                            (
                              record { text = refl; ended = λ b e. refl },
                              (record { text = refl; ended = λ b e. refl }, tt),
                            ),
                          ),
                        ),
                      ),
                    ),
                  ),
                ),
              ),
            ),
          ),
        ),
      ),
    ),
  ),
)

pair_found : (a : ℕ) (more : List ℕ) (m : Mark) (rest : List ℕ) → pair_at a more ≡ Some (m, rest) → SymbolIs (a ∷ more) m rest
pair_found a [] m rest e = absurd (none_is_not (m, rest) e)
pair_found a (b ∷ more) m rest e =
    let x = bind_some (pair_in pairs a b) (λ k. Some (k, more)) (m, rest) e in
    let p = pair_is pairs a b x.0 pairs_are x.1 in
    let same : (x.0, more) ≡ (m, rest) = some_is (x.0, more) (m, rest) x.2 in
    subst (λ (y : Mark × List ℕ). SymbolIs (a ∷ b ∷ more) y.0 y.1) same
    (record { spelled = ap (λ (l : List ℕ). l ++ more) (sym p.0); ended = ends_none (lengthens_mark x.0) more p.1 })

single_ended : (a : ℕ) (m : Mark) (rest : List ℕ) → pair_at a rest ≡ None → ((b : ℕ) → pair_in pairs a b ≡ None → lengthens_mark m b ≡ false) → ends (lengthens_mark m) rest ≡ true
single_ended a m [] none h = refl
single_ended a m (b ∷ rest) none h = rw (h b (unpaired (pair_in pairs a b) none)) refl
  where
    unpaired : (r : Option Mark) → (r >>= λ k. let q : Option (Mark × List ℕ) = Some (k, rest) in q) ≡ None → r ≡ None
    unpaired None e = refl
    unpaired (Some k) e = absurd cc

pub symbol_found : (bytes : List ℕ) (m : Mark) (rest : List ℕ) → symbol_at bytes ≡ Some (m, rest) → SymbolIs bytes m rest
unfolding symbol_at
symbol_found [] m rest e = absurd (none_is_not (m, rest) e)
symbol_found (b ∷ more) m rest e =
    elim (choose_some (pair_at b more) (single_in singles b >>= λ k. Some (k, more)) (λ y. Some y) (Some (m, rest)) e) [
      | inl h ↦
          let x = bind_some (single_in singles b) (λ k. Some (k, more)) (m, rest) h.1 in
          let p = single_is singles b x.0 singles_are x.1 in
          let same : (x.0, more) ≡ (m, rest) = some_is (x.0, more) (m, rest) x.2 in
          subst (λ (y : Mark × List ℕ). SymbolIs (b ∷ more) y.0 y.1) same
          (record { spelled = ap (λ (l : List ℕ). l ++ more) (sym p.0); ended = single_ended b x.0 more h.0 p.1 })
      | inr h ↦ pair_found b more m rest (h.1 ∙ h.2)
    ]
