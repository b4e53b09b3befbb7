-- Runs of bytes of one kind.
use Rattle.std.proofs.Common.{◌≡◌, ◌≤◌, ◌<◌, ℕ, Bool, true, false, eqb, ltb, List, [], ◌∷◌, ◌++◌, length, refl, ap, ◌∙◌, arith, inl, inr}
use Rattle.std.proofs.lemmas.Bool.{ltb-false, le-ltb, eqb-true, ltb-true, lt-ltb}
use Rattle.script_tokens.specs.Bytes.{is_blank, is_digit, is_letter, in_word, in_run, is_ascii, all, ends, front, past}
use Rattle.script_tokens.proofs.Cases.{bool_cases, no, is_false, chosen, both}

-- ---- kinds

pub digit_in_word : (b : ℕ) → is_digit b ≡ true → in_word b ≡ true
digit_in_word b d = elim (bool_cases (is_letter b)) [ inl h ↦ rw h refl | inr h ↦ rw (h, d) refl ]

pub letter_in_word : (b : ℕ) → is_letter b ≡ true → in_word b ≡ true
letter_in_word b h = rw h refl

pub word_in_run : (b : ℕ) → in_word b ≡ true → in_run b ≡ true
word_in_run b h = rw h refl

pub digit_in_run : (b : ℕ) → is_digit b ≡ true → in_run b ≡ true
digit_in_run b h = word_in_run b (digit_in_word b h)

pub digit_range : (b : ℕ) → is_digit b ≡ true → (48 ≤ b) × (b ≤ 57)
digit_range b h =
    let k = chosen (ltb b 48) false (ltb b 58) true h in
    elim k [
      | inl x ↦ absurd (no false x.1 refl)
      | inr x ↦ (let low : 48 ≤ b = ltb-false _ _ x.0 in let high : b < 58 = ltb-true _ _ x.1 in (low, omega (arith, high)))
    ]

pub range_digit : (b : ℕ) → 48 ≤ b → b ≤ 57 → is_digit b ≡ true
range_digit b low high =
    let p : ltb b 48 ≡ false = le-ltb _ _ low in
    let q : ltb b 58 ≡ true = lt-ltb _ _ (omega (arith, high)) in
    rw (p, q) refl

pub letter_range : (b : ℕ) → is_letter b ≡ true → (97 ≤ b) × (b ≤ 122)
letter_range b h =
    let k = chosen (ltb b 97) false (ltb b 123) true h in
    elim k [
      | inl x ↦ absurd (no false x.1 refl)
      | inr x ↦ (let low : 97 ≤ b = ltb-false _ _ x.0 in let high : b < 123 = ltb-true _ _ x.1 in (low, omega (arith, high)))
    ]

pub digit_not_letter : (b : ℕ) → is_digit b ≡ true → is_letter b ≡ false
digit_not_letter b h = is_false (is_letter b) (λ l. let x = letter_range b l in let y = digit_range b h in absurd (omega (arith, x.0, y.1)))

pub not_in_word : (b n : ℕ) → b ≡ n → in_word n ≡ false → in_word b ≡ true → ⊥
not_in_word b n e f w = no (in_word b) w (ap in_word e ∙ f)

pub blank_not_word : (b : ℕ) → in_word b ≡ true → is_blank b ≡ true → ⊥
blank_not_word b w h =
    elim (chosen (eqb b 32) true _ true h) [
      | inl x ↦ not_in_word b 32 (eqb-true _ _ x.0) refl w
      | inr x ↦ elim (chosen (eqb b 9) true _ true x.1) [
        | inl y ↦ not_in_word b 9 (eqb-true _ _ y.0) refl w
        | inr y ↦ elim (chosen (eqb b 13) true _ true y.1) [
          | inl z ↦ not_in_word b 13 (eqb-true _ _ z.0) refl w
          | inr z ↦ not_in_word b 10 (eqb-true _ _ z.1) refl w
        ]
      ]
    ]

pub hash_not_word : (b : ℕ) → in_word b ≡ true → eqb b 35 ≡ true → ⊥
hash_not_word b w h = not_in_word b 35 (eqb-true _ _ h) refl w

pub word_ascii : (b : ℕ) → in_word b ≡ true → is_ascii b ≡ true
word_ascii b h =
    elim (chosen (is_letter b) true _ true h) [
      | inl x ↦ lt-ltb _ _ (omega (arith, (letter_range b x.0).1))
      | inr x ↦ elim (chosen (is_digit b) true _ true x.1) [
        | inl y ↦ lt-ltb _ _ (omega (arith, (digit_range b y.0).1))
        | inr y ↦ (let e : b ≡ 95 = eqb-true _ _ y.1 in lt-ltb _ _ (omega (arith, e)))
      ]
    ]

-- ---- runs

pub front_is : (test : ℕ → Bool) (text rest : List ℕ) → all test text ≡ true → ends test rest ≡ true → front test (text ++ rest) ≡ text
front_is test [] [] h e = refl
front_is test [] (b ∷ rest) h e = elim (chosen (test b) false true true e) [ inl x ↦ absurd (no false x.1 refl) | inr x ↦ rw x.0 refl ]
front_is test (b ∷ text) rest h e =
    let p = both (test b) (all test text) h in
    rw p.0 (ap (λ (l : List ℕ). b ∷ l) (front_is test text rest p.1 e))

pub past_is : (test : ℕ → Bool) (text rest : List ℕ) → all test text ≡ true → ends test rest ≡ true → past test (text ++ rest) ≡ rest
past_is test [] [] h e = refl
past_is test [] (b ∷ rest) h e = elim (chosen (test b) false true true e) [ inl x ↦ absurd (no false x.1 refl) | inr x ↦ rw x.0 refl ]
past_is test (b ∷ text) rest h e =
    let p = both (test b) (all test text) h in
    rw p.0 (past_is test text rest p.1 e)

pub run_parts : (test : ℕ → Bool) (bytes : List ℕ) → bytes ≡ front test bytes ++ past test bytes
run_parts test [] = refl
run_parts test (b ∷ bytes) = elim (bool_cases (test b)) [ inl h ↦ rw (h) (ap (λ (l : List ℕ). b ∷ l) (run_parts test bytes)) | inr h ↦ rw h refl ]

pub run_all : (test : ℕ → Bool) (bytes : List ℕ) → all test (front test bytes) ≡ true
run_all test [] = refl
run_all test (b ∷ bytes) = elim (bool_cases (test b)) [ inl h ↦ rw (h, h) (run_all test bytes) | inr h ↦ rw h refl ]

pub run_ends : (test : ℕ → Bool) (bytes : List ℕ) → ends test (past test bytes) ≡ true
run_ends test [] = refl
run_ends test (b ∷ bytes) = elim (bool_cases (test b)) [ inl h ↦ rw h (run_ends test bytes) | inr h ↦ rw (h, h) refl ]

pub run_first : (test : ℕ → Bool) (b : ℕ) (bytes : List ℕ) → test b ≡ true → front test (b ∷ bytes) ≡ b ∷ front test bytes
run_first test b bytes h = rw h refl

pub run_short : (test : ℕ → Bool) (bytes : List ℕ) → length (front test bytes) ≤ length bytes
run_short test [] = omega arith
run_short test (b ∷ bytes) = elim (bool_cases (test b)) [ inl h ↦ rw h (omega (arith, run_short test bytes)) | inr h ↦ rw h (omega arith) ]

run_first_long : (test : ℕ → Bool) (b : ℕ) (bytes : List ℕ) → test b ≡ true → length (b ∷ bytes) ≤ length (front test (b ∷ bytes)) → length bytes ≤ length (front test bytes)
run_first_long test b bytes e h = omega (arith, h, ap (λ (l : List ℕ). length l) (run_first test b bytes e))

run_none : (test : ℕ → Bool) (b : ℕ) (bytes : List ℕ) → test b ≡ false → length (b ∷ bytes) ≤ length (front test (b ∷ bytes)) → ⊥
run_none test b bytes e h =
    let none : front test (b ∷ bytes) ≡ [] = rw e refl in
    omega (arith, h, ap (λ (l : List ℕ). length l) none)

-- a run that is as long as the text is the text
pub run_whole : (test : ℕ → Bool) (bytes : List ℕ) → length bytes ≤ length (front test bytes) → front test bytes ≡ bytes
run_whole test [] h = refl
run_whole test (b ∷ bytes) h = elim (bool_cases (test b)) [
  | inl e ↦ run_first test b bytes e ∙ ap (λ (l : List ℕ). b ∷ l) (run_whole test bytes (run_first_long test b bytes e h))
  | inr e ↦ absurd (run_none test b bytes e h)
]

pub all_run : (test : ℕ → Bool) (bytes : List ℕ) → all test bytes ≡ true → front test bytes ≡ bytes
all_run test [] h = refl
all_run test (b ∷ bytes) h = let p = both (test b) (all test bytes) h in rw p.0 (ap (λ (l : List ℕ). b ∷ l) (all_run test bytes p.1))

pub all_weaker : (p q : ℕ → Bool) (text : List ℕ) → ((b : ℕ) → p b ≡ true → q b ≡ true) → all p text ≡ true → all q text ≡ true
all_weaker p q [] h e = refl
all_weaker p q (b ∷ text) h e =
    let x = both (p b) (all p text) e in
    rw (h b x.0) (all_weaker p q text h x.1)

pub all_parts : (test : ℕ → Bool) (a b : List ℕ) → all test a ≡ true → all test b ≡ true → all test (a ++ b) ≡ true
all_parts test [] b p q = q
all_parts test (x ∷ a) b p q = let h = both (test x) (all test a) p in rw h.0 (all_parts test a b h.1 q)

pub ends_same : (p q : ℕ → Bool) (rest : List ℕ) → ((b : ℕ) → p b ≡ q b) → ends q rest ≡ true → ends p rest ≡ true
ends_same p q [] h e = refl
ends_same p q (b ∷ rest) h e = rw (h b) e
