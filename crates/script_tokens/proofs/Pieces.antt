-- What stands at the front is read, and what is read stands there.
use Rattle.std.proofs.Common.{◌≡◌, ◌<◌, ℕ, true, false, eqb, List, [], ◌∷◌, ◌++◌, length, Option, Some, None, refl, sym, ap, subst, ◌∙◌, arith, inl, inr}
use Rattle.std.specs.Fmt.{decimal}
use Rattle.std.proofs.lemmas.Bool.{eqb-true}
use Rattle.script_tokens.specs.declared.token.Mark.{Mark}
use Rattle.script_tokens.specs.declared.token.Mark.TheVariants as marks
use Rattle.script_tokens.specs.Tokens.{Token, number, name, mark}
use Rattle.script_tokens.specs.Bytes.{is_blank, is_digit, is_letter, in_word, in_run, in_line, all, ends, front, past}
use Rattle.script_tokens.specs.Spelling.{mark_text, spell, is_name, IsToken}
use Rattle.script_tokens.specs.Texts.{Piece, blank, comment, token, text_of, tokens_in, lengthens, lengthens_mark, Stands}
use Rattle.script_tokens.specs.Lexing.{word_in, reserved_words, word_token, number_of, singles, single_in, pairs, pair_in, symbol_at, next, ◌>>=◌}
use Rattle.script_tokens.proofs.Cases.{chosen, no, both, is_false, some_is, none_is_not, bind_some}
use Rattle.script_tokens.proofs.Runs.{digit_in_word, letter_in_word, digit_in_run, digit_not_letter, blank_not_word, hash_not_word, front_is, past_is, run_parts, run_all, run_ends, run_first, all_weaker}
use Rattle.script_tokens.proofs.Digits.{decimal_digits, decimal_long, decimal_number, number_decimal}
use Rattle.script_tokens.proofs.Words.{name_token, mark_token, name_all, word_is}
use Rattle.script_tokens.proofs.Symbols.{no_pair, no_pair_before, one_reads, two_read, symbol_found}

-- ---- one step, by the first byte

blank_next : (b : ℕ) (rest : List ℕ) → is_blank b ≡ true → next (b ∷ rest) ≡ Some ([], rest)
unfolding next
blank_next b rest h = rw h refl

comment_next : (line rest : List ℕ) → all in_line line ≡ true → ends in_line rest ≡ true → next (35 ∷ line ++ rest) ≡ Some ([], rest)
unfolding next
comment_next line rest h e = rw (past_is in_line line rest h e) refl

word_step : (c : ℕ) (more : List ℕ) → is_letter c ≡ true → next (c ∷ more) ≡ (word_token (front in_word (c ∷ more)) >>= λ t. let r : Option (List Token × List ℕ) = Some (t ∷ [], past in_word (c ∷ more)) in r)
unfolding next
word_step c more l =
    let w = letter_in_word c l in
    rw (is_false (is_blank c) (blank_not_word c w), is_false (eqb c 35) (hash_not_word c w), l) refl

number_step : (c : ℕ) (more : List ℕ) → is_digit c ≡ true → next (c ∷ more) ≡ (number_of (front in_run (c ∷ more)) >>= λ n. let r : Option (List Token × List ℕ) = Some (number n ∷ [], past in_run (c ∷ more)) in r)
unfolding next
number_step c more d =
    let w = digit_in_word c d in
    rw (is_false (is_blank c) (blank_not_word c w), is_false (eqb c 35) (hash_not_word c w), digit_not_letter c d, d) refl

symbol_step : (b : ℕ) (more : List ℕ) (m : Mark) (rest : List ℕ) → is_blank b ≡ false → eqb b 35 ≡ false → is_letter b ≡ false → is_digit b ≡ false → symbol_at (b ∷ more) ≡ Some (m, rest) → next (b ∷ more) ≡ Some (mark m ∷ [], rest)
unfolding next
symbol_step b more m rest p q r s e = rw (p, q, r, s, e) refl

-- ---- what stands is read

word_next : (word : List ℕ) (t : Token) (rest : List ℕ) → is_name word ≡ true → word_token word ≡ Some t → ends in_word rest ≡ true → next (word ++ rest) ≡ Some (t ∷ [], rest)
word_next [] t rest shape e h = absurd (no false shape refl)
word_next (b ∷ word) t rest shape e h =
    let a = name_all (b ∷ word) shape in
    let l = (both (is_letter b) (all in_word word) shape).0 in
    word_step b (word ++ rest) l ∙ rw (front_is in_word (b ∷ word) rest a h, past_is in_word (b ∷ word) rest a h, e) refl

digits_next : (digits : List ℕ) (n : ℕ) (rest : List ℕ) → all is_digit digits ≡ true → 0 < length digits → number_of digits ≡ Some n → ends in_run rest ≡ true → next (digits ++ rest) ≡ Some (number n ∷ [], rest)
digits_next [] n rest d long e h = absurd (omega (arith, long))
digits_next (b ∷ digits) n rest d long e h =
    let a = all_weaker is_digit in_run (b ∷ digits) digit_in_run d in
    let l = (both (is_digit b) (all is_digit digits) d).0 in
    number_step b (digits ++ rest) l ∙ rw (front_is in_run (b ∷ digits) rest a h, past_is in_run (b ∷ digits) rest a h, e) refl

one_next : (b : ℕ) (m : Mark) (rest : List ℕ) → ((c : ℕ) → pair_in pairs b c ≡ None) → single_in singles b ≡ Some m → is_blank b ≡ false → eqb b 35 ≡ false → is_letter b ≡ false → is_digit b ≡ false → next (b ∷ rest) ≡ Some (mark m ∷ [], rest)
one_next b m rest alone e p q r s = symbol_step b rest m rest p q r s (one_reads b m rest (no_pair b rest alone) e)

reserved_next : (m : Mark) (rest : List ℕ) → is_name (mark_text m) ≡ true → word_in reserved_words (mark_text m) ≡ Some m → ends in_word rest ≡ true → next (mark_text m ++ rest) ≡ Some (mark m ∷ [], rest)
reserved_next m rest shape e h = word_next (mark_text m) (mark m) rest shape (mark_token m e) h

mark_next : (m : Mark) (rest : List ℕ) → ends (lengthens_mark m) rest ≡ true → next (mark_text m ++ rest) ≡ Some (mark m ∷ [], rest)
mark_next marks.Fn rest h = reserved_next marks.Fn rest refl refl h
mark_next marks.Let rest h = reserved_next marks.Let rest refl refl h
mark_next marks.Set rest h = reserved_next marks.Set rest refl refl h
mark_next marks.If rest h = reserved_next marks.If rest refl refl h
mark_next marks.Else rest h = reserved_next marks.Else rest refl refl h
mark_next marks.For rest h = reserved_next marks.For rest refl refl h
mark_next marks.In rest h = reserved_next marks.In rest refl refl h
mark_next marks.Print rest h = reserved_next marks.Print rest refl refl h
mark_next marks.Return rest h = reserved_next marks.Return rest refl refl h
mark_next marks.Int rest h = reserved_next marks.Int rest refl refl h
mark_next marks.Ref rest h = reserved_next marks.Ref rest refl refl h
mark_next marks.Remote rest h = reserved_next marks.Remote rest refl refl h
mark_next marks.Put rest h = reserved_next marks.Put rest refl refl h
mark_next marks.Get rest h = reserved_next marks.Get rest refl refl h
mark_next marks.Len rest h = reserved_next marks.Len rest refl refl h
mark_next marks.Push rest h = reserved_next marks.Push rest refl refl h
mark_next marks.Empty rest h = reserved_next marks.Empty rest refl refl h
mark_next marks.OpenParenthesis rest h = one_next 40 marks.OpenParenthesis rest (λ c. refl) refl refl refl refl refl
mark_next marks.CloseParenthesis rest h = one_next 41 marks.CloseParenthesis rest (λ c. refl) refl refl refl refl refl
mark_next marks.OpenBrace rest h = one_next 123 marks.OpenBrace rest (λ c. refl) refl refl refl refl refl
mark_next marks.CloseBrace rest h = one_next 125 marks.CloseBrace rest (λ c. refl) refl refl refl refl refl
mark_next marks.OpenBracket rest h = one_next 91 marks.OpenBracket rest (λ c. refl) refl refl refl refl refl
mark_next marks.CloseBracket rest h = one_next 93 marks.CloseBracket rest (λ c. refl) refl refl refl refl refl
mark_next marks.Comma rest h = one_next 44 marks.Comma rest (λ c. refl) refl refl refl refl refl
mark_next marks.Semicolon rest h = one_next 59 marks.Semicolon rest (λ c. refl) refl refl refl refl refl
mark_next marks.Colon rest h = one_next 58 marks.Colon rest (λ c. refl) refl refl refl refl refl
mark_next marks.Arrow rest h = symbol_step 45 (62 ∷ rest) marks.Arrow rest refl refl refl refl (two_read 45 62 marks.Arrow rest refl)
mark_next marks.Range rest h = symbol_step 46 (46 ∷ rest) marks.Range rest refl refl refl refl (two_read 46 46 marks.Range rest refl)
mark_next marks.Assign rest h = symbol_step 61 rest marks.Assign rest refl refl refl refl (one_reads 61 marks.Assign rest (no_pair_before 61 61 marks.Equal rest (λ b. refl) h) refl)
mark_next marks.Equal rest h = symbol_step 61 (61 ∷ rest) marks.Equal rest refl refl refl refl (two_read 61 61 marks.Equal rest refl)
mark_next marks.NotEqual rest h = symbol_step 33 (61 ∷ rest) marks.NotEqual rest refl refl refl refl (two_read 33 61 marks.NotEqual rest refl)
mark_next marks.Less rest h = symbol_step 60 rest marks.Less rest refl refl refl refl (one_reads 60 marks.Less rest (no_pair_before 60 61 marks.LessEqual rest (λ b. refl) h) refl)
mark_next marks.LessEqual rest h = symbol_step 60 (61 ∷ rest) marks.LessEqual rest refl refl refl refl (two_read 60 61 marks.LessEqual rest refl)
mark_next marks.Plus rest h = one_next 43 marks.Plus rest (λ c. refl) refl refl refl refl refl
mark_next marks.Minus rest h = symbol_step 45 rest marks.Minus rest refl refl refl refl (one_reads 45 marks.Minus rest (no_pair_before 45 62 marks.Arrow rest (λ b. refl) h) refl)
mark_next marks.Times rest h = one_next 42 marks.Times rest (λ c. refl) refl refl refl refl refl
mark_next marks.Slash rest h = one_next 47 marks.Slash rest (λ c. refl) refl refl refl refl refl
mark_next marks.Percent rest h = one_next 37 marks.Percent rest (λ c. refl) refl refl refl refl refl

token_next : (t : Token) (rest : List ℕ) → IsToken t → ends (lengthens t) rest ≡ true → next (spell t ++ rest) ≡ Some (t ∷ [], rest)
token_next (number n) rest h e = digits_next (decimal n) n rest (decimal_digits n h) (decimal_long n h) (decimal_number n h) e
token_next (name x) rest h e = word_next x (name x) rest h.shape (name_token x h) e
token_next (mark m) rest h e = mark_next m rest e

pub stands_next : (p : Piece) (rest : List ℕ) → Stands p rest → next (text_of p ++ rest) ≡ Some (tokens_in p, rest)
stands_next (blank b) rest h = blank_next b rest h
stands_next (comment line) rest h = comment_next line rest h.0 h.1
stands_next (token t) rest h = token_next t rest h.0 h.1

-- ---- what is read stands

pub record Found (bytes : List ℕ) (tokens : List Token) (rest : List ℕ) : Type 0 where
  pub piece : Piece
  pub spelled : bytes ≡ text_of piece ++ rest
  pub stands : Stands piece rest
  pub given : tokens ≡ tokens_in piece

abbrev Gave : List Token → List ℕ → Option (List Token × List ℕ)
Gave tokens rest = Some (tokens, rest)

front_name : (b : ℕ) (bytes : List ℕ) → is_letter b ≡ true → is_name (front in_word (b ∷ bytes)) ≡ true
front_name b bytes l = ap is_name (run_first in_word b bytes (letter_in_word b l)) ∙ rw l (run_all in_word bytes)

word_found : (b : ℕ) (bytes : List ℕ) (t : Token) → is_letter b ≡ true → word_token (front in_word (b ∷ bytes)) ≡ Some t → Found (b ∷ bytes) (t ∷ []) (past in_word (b ∷ bytes))
word_found b bytes t l e =
    let w = word_is (front in_word (b ∷ bytes)) t (front_name b bytes l) e in
    record {
      piece = token t;
      spelled = run_parts in_word (b ∷ bytes) ∙ ap (λ (x : List ℕ). x ++ past in_word (b ∷ bytes)) (sym w.spelled);
      stands = (w.token, w.ended (past in_word (b ∷ bytes)) (run_ends in_word (b ∷ bytes)));
      given = refl;
    }

number_found : (b : ℕ) (bytes : List ℕ) (n : ℕ) → number_of (front in_run (b ∷ bytes)) ≡ Some n → Found (b ∷ bytes) (number n ∷ []) (past in_run (b ∷ bytes))
number_found b bytes n e =
    let w = number_decimal (front in_run (b ∷ bytes)) n e in
    record {
      piece = token (number n);
      spelled = run_parts in_run (b ∷ bytes) ∙ ap (λ (x : List ℕ). x ++ past in_run (b ∷ bytes)) (sym w.1);
      stands = (w.0, run_ends in_run (b ∷ bytes));
      given = refl;
    }

mark_found : (bytes : List ℕ) (m : Mark) (rest : List ℕ) → symbol_at bytes ≡ Some (m, rest) → Found bytes (mark m ∷ []) rest
mark_found bytes m rest e =
    let s = symbol_found bytes m rest e in
    record { piece = token (mark m); spelled = s.spelled; stands = (tt, s.ended); given = refl }

pub next_found : (bytes : List ℕ) (x : List Token × List ℕ) → next bytes ≡ Some x → Found bytes x.0 x.1
unfolding next
next_found [] x e = absurd (none_is_not x e)
next_found (b ∷ bytes) x e =
    elim (chosen (is_blank b) (Gave [] bytes) _ (Some x) e) [
      | inl h ↦
          let p : ([], bytes) ≡ x = some_is ([], bytes) x h.1 in
          subst (λ (y : List Token × List ℕ). Found (b ∷ bytes) y.0 y.1) p (record { piece = blank b; spelled = refl; stands = h.0; given = refl })
      | inr h ↦ elim (chosen (eqb b 35) (Gave [] (past in_line bytes)) _ (Some x) h.1) [
        | inl k ↦
            let p : ([], past in_line bytes) ≡ x = some_is ([], past in_line bytes) x k.1 in
            let s : b ≡ 35 = eqb-true _ _ k.0 in
            subst (λ (y : List Token × List ℕ). Found (b ∷ bytes) y.0 y.1) p (record {
              piece = comment (front in_line bytes);
              spelled = ap (λ (c : ℕ). c ∷ bytes) s ∙ ap (λ (l : List ℕ). 35 ∷ l) (run_parts in_line bytes);
              stands = (run_all in_line bytes, run_ends in_line bytes);
              given = refl;
            })
        | inr k ↦ elim (chosen (is_letter b) (word_token (front in_word (b ∷ bytes)) >>= λ t. Gave (t ∷ []) (past in_word (b ∷ bytes))) _ (Some x) k.1) [
          | inl l ↦
              let w = bind_some (word_token (front in_word (b ∷ bytes))) (λ t. Gave (t ∷ []) (past in_word (b ∷ bytes))) x l.1 in
              let p : (w.0 ∷ [], past in_word (b ∷ bytes)) ≡ x = some_is (w.0 ∷ [], past in_word (b ∷ bytes)) x w.2 in
              subst (λ (y : List Token × List ℕ). Found (b ∷ bytes) y.0 y.1) p (word_found b bytes w.0 l.0 w.1)
          | inr l ↦ elim (chosen (is_digit b) (number_of (front in_run (b ∷ bytes)) >>= λ n. Gave (number n ∷ []) (past in_run (b ∷ bytes))) (symbol_at (b ∷ bytes) >>= λ y. Gave (mark y.0 ∷ []) y.1) (Some x) l.1) [
            | inl d ↦
                let w = bind_some (number_of (front in_run (b ∷ bytes))) (λ n. Gave (number n ∷ []) (past in_run (b ∷ bytes))) x d.1 in
                let p : (number w.0 ∷ [], past in_run (b ∷ bytes)) ≡ x = some_is (number w.0 ∷ [], past in_run (b ∷ bytes)) x w.2 in
                subst (λ (y : List Token × List ℕ). Found (b ∷ bytes) y.0 y.1) p (number_found b bytes w.0 w.1)
            | inr d ↦
                let w = bind_some (symbol_at (b ∷ bytes)) (λ y. Gave (mark y.0 ∷ []) y.1) x d.1 in
                let p : (mark w.0.0 ∷ [], w.0.1) ≡ x = some_is (mark w.0.0 ∷ [], w.0.1) x w.2 in
                subst (λ (y : List Token × List ℕ). Found (b ∷ bytes) y.0 y.1) p (mark_found (b ∷ bytes) w.0.0 w.0.1 w.1)
          ]
        ]
      ]
    ]
