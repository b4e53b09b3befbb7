-- A word is read as a reserved word or a name, and as nothing else.
use Rattle.std.proofs.Common.{◌≡◌, ℕ, true, false, cond, ltb, List, [], ◌∷◌, length, Some, None, refl, sym, ap, subst, ◌∙◌, inl, inr, ◌⊎◌}
use Rattle.std.specs.Str.{bytes_eq}
use Rattle.std.proofs.lemmas.Slice.Eq.{bytes_eq-Decides}
use Rattle.std.proofs.lemmas.Bool.{ltb-false, le-ltb}
use Rattle.script_tokens.specs.declared.token.Mark.{Mark}
use Rattle.script_tokens.specs.declared.token.Mark.TheVariants as marks
use Rattle.script_tokens.specs.Tokens.{Token, name, mark}
use Rattle.script_tokens.specs.Bytes.{is_letter, in_word, all, ends}
use Rattle.script_tokens.specs.Spelling.{mark_text, spell, is_name, IsName, IsToken}
use Rattle.script_tokens.specs.Texts.{lengthens, lengthens_mark}
use Rattle.script_tokens.specs.Lexing.{word_in, reserved_words, word_token}
use Rattle.script_tokens.proofs.Cases.{chosen, no, both, some_is, none_is_not, none_or_some, choose_some}
use Rattle.script_tokens.proofs.Runs.{letter_in_word, ends_same}

word_in_is : (ms : List Mark) (word : List ℕ) (m : Mark) → word_in ms word ≡ Some m → mark_text m ≡ word
word_in_is [] word m e = absurd (none_is_not m e)
word_in_is (k ∷ ms) word m e =
    elim (chosen (bytes_eq (mark_text k) word) (Some k) (word_in ms word) (Some m) e) [
      | inl x ↦ ap mark_text (sym (some_is k m x.1)) ∙ (bytes_eq-Decides (mark_text k) word).0 x.0
      | inr x ↦ word_in_is ms word m x.1
    ]

-- a mark is a reserved word, or it isn't written as a name is
kind : (m : Mark) → (word_in reserved_words (mark_text m) ≡ Some m) ⊎ (is_name (mark_text m) ≡ false)
kind marks.Fn = inl refl
kind marks.Let = inl refl
kind marks.Set = inl refl
kind marks.If = inl refl
kind marks.Else = inl refl
kind marks.For = inl refl
kind marks.In = inl refl
kind marks.Print = inl refl
kind marks.Return = inl refl
kind marks.Int = inl refl
kind marks.Ref = inl refl
kind marks.Remote = inl refl
kind marks.Put = inl refl
kind marks.Get = inl refl
kind marks.Len = inl refl
kind marks.Push = inl refl
kind marks.Empty = inl refl
kind _ = inr refl

not_marked : (word : List ℕ) → is_name word ≡ true → word_in reserved_words word ≡ None → (m : Mark) → mark_text m ≡ word → ⊥
not_marked word shape none m e =
    elim (kind m) [
      | inl x ↦ none_is_not m (sym none ∙ ap (word_in reserved_words) (sym e) ∙ x)
      | inr x ↦ no (is_name word) shape (ap is_name (sym e) ∙ x)
    ]

not_reserved : (word : List ℕ) → ((m : Mark) → mark_text m ≡ word → ⊥) → word_in reserved_words word ≡ None
not_reserved word free = elim (none_or_some (word_in reserved_words word)) [ inl e ↦ e | inr x ↦ absurd (free x.0 (word_in_is reserved_words word x.0 x.1)) ]

pub name_token : (x : List ℕ) → IsName x → word_token x ≡ Some (name x)
unfolding word_token
name_token x h =
    let none = not_reserved x h.free in
    let few : ltb 64 (length x) ≡ false = le-ltb _ _ h.short in
    rw (none, few) refl

pub mark_token : (m : Mark) → word_in reserved_words (mark_text m) ≡ Some m → word_token (mark_text m) ≡ Some (mark m)
unfolding word_token
mark_token m e = rw e refl

pub name_all : (x : List ℕ) → is_name x ≡ true → all in_word x ≡ true
name_all [] h = refl
name_all (b ∷ x) h =
    let p = both (is_letter b) (all in_word x) h in
    rw (letter_in_word b p.0) p.1

-- only words have the shape of names
word_mark_lengthens : (m : Mark) → is_name (mark_text m) ≡ true → (b : ℕ) → lengthens_mark m b ≡ in_word b
word_mark_lengthens marks.Fn h b = refl
word_mark_lengthens marks.Let h b = refl
word_mark_lengthens marks.Set h b = refl
word_mark_lengthens marks.If h b = refl
word_mark_lengthens marks.Else h b = refl
word_mark_lengthens marks.For h b = refl
word_mark_lengthens marks.In h b = refl
word_mark_lengthens marks.Print h b = refl
word_mark_lengthens marks.Return h b = refl
word_mark_lengthens marks.Int h b = refl
word_mark_lengthens marks.Ref h b = refl
word_mark_lengthens marks.Remote h b = refl
word_mark_lengthens marks.Put h b = refl
word_mark_lengthens marks.Get h b = refl
word_mark_lengthens marks.Len h b = refl
word_mark_lengthens marks.Push h b = refl
word_mark_lengthens marks.Empty h b = refl
word_mark_lengthens _ h b = absurd (no false h refl)

pub record WordIs (word : List ℕ) (t : Token) : Type 0 where
  pub spelled : spell t ≡ word
  pub token : IsToken t
  pub ended : (rest : List ℕ) → ends in_word rest ≡ true → ends (lengthens t) rest ≡ true

word_marked : (word : List ℕ) (m : Mark) → is_name word ≡ true → mark_text m ≡ word → WordIs word (mark m)
word_marked word m shape e =
    let named : is_name (mark_text m) ≡ true = ap is_name e ∙ shape in
    record { spelled = e; token = tt; ended = λ rest h. ends_same (lengthens_mark m) in_word rest (word_mark_lengthens m named) h }

pub word_is : (word : List ℕ) (t : Token) → is_name word ≡ true → word_token word ≡ Some t → WordIs word t
unfolding word_token
word_is word t shape e =
    elim (choose_some (word_in reserved_words word) (cond (ltb 64 (length word)) None (Some (name word))) (λ m. Some (mark m)) (Some t) e) [
      | inl y ↦ elim (chosen (ltb 64 (length word)) None (Some (name word)) (Some t) y.1) [
        | inl w ↦ absurd (none_is_not t w.1)
        | inr w ↦ subst (WordIs word) (some_is (name word) t w.1)
            (record { spelled = refl; token = record { shape = shape; short = ltb-false _ _ w.0; free = not_marked word shape y.0 }; ended = λ rest h. h })
      ]
      | inr y ↦ subst (WordIs word) (some_is (mark y.0) t y.2) (word_marked word y.0 shape (word_in_is reserved_words word y.0 y.1))
    ]
