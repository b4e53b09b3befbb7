-- A text has one list of tokens at most, and whoever reads it piece by piece finds that list, or the refusal.
use Rattle.std.proofs.Common.{◌≡◌, ◌≤◌, ◌<◌, ℕ, true, false, List, [], ◌∷◌, ◌++◌, length, None, Result, Ok, Err, refl, sym, ap, subst, ◌∙◌, arith, append_assoc, length-append}
use Rattle.std.specs.Prelude.{IsErr, IfErr, MatchResult}
use Rattle.std.specs.Global.{Vec}
use Rattle.std.proofs.lemmas.List.{append-nil}
use Rattle.script_tokens.specs.declared.token.Placed.{Placed}
use Rattle.script_tokens.specs.declared.token.Mark.{Mark}
use Rattle.script_tokens.specs.declared.token.Mark.TheVariants as marks
use Rattle.script_tokens.specs.declared.error.SyntaxError.{SyntaxError}
use Rattle.script_tokens.specs.declared.error.SyntaxError.TheVariants as errors
use Rattle.script_tokens.specs.Tokens.{Token, number, name, mark}
use Rattle.script_tokens.specs.Views.{tokens_of}
use Rattle.script_tokens.specs.Bytes.{is_ascii, all, front}
use Rattle.script_tokens.specs.Spelling.{mark_text, spell, is_name, AllTokens, IsToken}
use Rattle.script_tokens.specs.Texts.{Piece, blank, comment, token, text_of, tokens_in, Stands, IsTextBefore, AreTokens}
use Rattle.script_tokens.specs.Refusals.{NothingStands, IsRefusal, IsBadTokenAt}
use Rattle.script_tokens.specs.Lexing.{next}
use Rattle.script_tokens.specs.Places.{ArePlaced}
use Rattle.script_tokens.proofs.Cases.{no, none_is_not, some_is}
use Rattle.script_tokens.proofs.Runs.{run_whole, all_run, run_all}
use Rattle.script_tokens.proofs.Digits.{decimal_long}
use Rattle.script_tokens.proofs.Pieces.{stands_next}

-- ---- pieces take bytes

mark_long : (m : Mark) → 0 < length (mark_text m)
mark_long marks.Fn = omega arith
mark_long _ = omega arith

name_long : (x : List ℕ) → is_name x ≡ true → 0 < length x
name_long [] h = absurd (no false h refl)
name_long (b ∷ x) h = omega arith

pub token_long : (t : Token) → IsToken t → 0 < length (spell t)
token_long (number n) h = decimal_long n h
token_long (name x) h = name_long x h.shape
token_long (mark m) h = mark_long m

pub stands_long : (p : Piece) (rest : List ℕ) → Stands p rest → 0 < length (text_of p)
stands_long (blank b) rest h = omega arith
stands_long (comment line) rest h = omega arith
stands_long (token t) rest h = token_long t h.0

not_empty : (p : Piece) (rest : List ℕ) → Stands p rest → [] ≡ text_of p ++ rest → ⊥
not_empty p rest h e = omega (arith, stands_long p rest h, ap (λ (l : List ℕ). length l) e, length-append (text_of p) rest)

-- ---- pieces in a row

pub text_parts : (rest : List ℕ) (pieces : List Piece) (tokens : List Token) (text : List ℕ) → IsTextBefore rest pieces tokens text → (before : List ℕ) × (text ≡ before ++ rest)
text_parts rest [] tokens text h = ([], h.0)
text_parts rest (p ∷ pieces) tokens text h =
    let others = text_parts rest pieces h.1 h.0 h.5 in
    (text_of p ++ others.0, h.2 ∙ ap (λ (l : List ℕ). text_of p ++ l) others.1 ∙ sym (append_assoc (text_of p) others.0 rest))

pub one_more : (rest : List ℕ) (pieces : List Piece) (tokens : List Token) (text : List ℕ) (p : Piece) (after : List ℕ)
    → IsTextBefore rest pieces tokens text → rest ≡ text_of p ++ after → Stands p after → IsTextBefore after (pieces ++ (p ∷ [])) (tokens ++ tokens_in p) text
one_more rest [] tokens text p after h e s = (after, [], h.0 ∙ e, s, ap (λ (l : List Token). l ++ tokens_in p) h.1 ∙ sym (append-nil (tokens_in p)), (refl, refl))
one_more rest (q ∷ pieces) tokens text p after h e s =
    (h.0, h.1 ++ tokens_in p, h.2, h.3, ap (λ (l : List Token). l ++ tokens_in p) h.4 ∙ append_assoc (tokens_in q) h.1 (tokens_in p), one_more rest pieces h.1 h.0 p after h.5 e s)

-- ---- what a text reads as is determined

abbrev Gave : List Token → List ℕ → List Token × List ℕ
Gave tokens rest = (tokens, rest)

same_step : (p q : Piece) (x y text : List ℕ) → text ≡ text_of p ++ x → Stands p x → text ≡ text_of q ++ y → Stands q y → Gave (tokens_in p) x ≡ Gave (tokens_in q) y
same_step p q x y text e s f t =
    some_is (Gave (tokens_in p) x) (Gave (tokens_in q) y) (sym (ap next e ∙ stands_next p x s) ∙ ap next f ∙ stands_next q y t)

pub same_tokens : (ps qs : List Piece) (a b : List Token) (text : List ℕ) → IsTextBefore [] ps a text → IsTextBefore [] qs b text → a ≡ b
same_tokens [] [] a b text h k = h.1 ∙ sym k.1
same_tokens [] (q ∷ qs) a b text h k = absurd (not_empty q k.0 k.3 (sym h.0 ∙ k.2))
same_tokens (p ∷ ps) [] a b text h k = absurd (not_empty p h.0 h.3 (sym k.0 ∙ h.2))
same_tokens (p ∷ ps) (q ∷ qs) a b text h k =
    let e = same_step p q h.0 k.0 text h.2 h.3 k.2 k.3 in
    let rest : h.0 ≡ k.0 = ap (λ (y : List Token × List ℕ). y.1) e in
    let front_same : tokens_in p ≡ tokens_in q = ap (λ (y : List Token × List ℕ). y.0) e in
    let others : h.1 ≡ k.1 = same_tokens ps qs h.1 k.1 h.0 h.5 (subst (λ (l : List ℕ). IsTextBefore [] qs k.1 l) (sym rest) k.5) in
    h.4 ∙ ap (λ (l : List Token). l ++ h.1) front_same ∙ ap (λ (l : List Token). tokens_in q ++ l) others ∙ sym k.4

pub one_list : (text : List ℕ) (a b : List Token) → AreTokens text a → AreTokens text b → a ≡ b
one_list text a b h k = same_tokens h.pieces k.pieces a b text h.read k.read

stuck_none : (rest : List ℕ) (ps qs : List Piece) (a b : List Token) (text : List ℕ) → IsTextBefore rest ps a text → IsTextBefore [] qs b text → 0 < length rest → NothingStands rest → ⊥
stuck_none rest [] [] a b text h k some stuck = omega (arith, some, ap (λ (l : List ℕ). length l) (sym h.0 ∙ k.0))
stuck_none rest [] (q ∷ qs) a b text h k some stuck = stuck q k.0 (sym h.0 ∙ k.2) k.3
stuck_none rest (p ∷ ps) [] a b text h k some stuck = not_empty p h.0 h.3 (sym k.0 ∙ h.2)
stuck_none rest (p ∷ ps) (q ∷ qs) a b text h k some stuck =
    let e = same_step p q h.0 k.0 text h.2 h.3 k.2 k.3 in
    let after : h.0 ≡ k.0 = ap (λ (y : List Token × List ℕ). y.1) e in
    stuck_none rest ps qs h.1 k.1 h.0 h.5 (subst (λ (l : List ℕ). IsTextBefore [] qs k.1 l) (sym after) k.5) some stuck

pub next_stuck : (rest : List ℕ) → next rest ≡ None → NothingStands rest
next_stuck rest e p after spelled s = none_is_not (tokens_in p, after) (sym e ∙ ap next spelled ∙ stands_next p after s)

-- ---- tokens that are read may be written

well_formed : (rest : List ℕ) (ps : List Piece) (ts : List Token) (text : List ℕ) → IsTextBefore rest ps ts text → AllTokens ts
well_formed rest [] ts text h = subst AllTokens (sym h.1) tt
well_formed rest (p ∷ ps) ts text h = subst AllTokens (sym h.4) (first p h.3 (well_formed rest ps h.1 h.0 h.5))
  where
    first : (q : Piece) → Stands q h.0 → AllTokens h.1 → AllTokens (tokens_in q ++ h.1)
    first (blank b) s k = k
    first (comment line) s k = k
    first (token t) s k = (s.0, k)

pub all_tokens : (text : List ℕ) (tokens : List Token) → AreTokens text tokens → AllTokens tokens
all_tokens text tokens h = well_formed [] h.pieces tokens text h.read

-- ---- refusals

pub refused_none : (text : List ℕ) (e : SyntaxError) (tokens : List Token) → IsRefusal text e → AreTokens text tokens → e ≡ errors.NoMemory
refused_none text (errors.NotAscii span) tokens h k =
    absurd (omega (arith, h.inside, h.start, ap (λ (l : List ℕ). length l) (all_run is_ascii text k.ascii)))
refused_none text (errors.BadToken span) tokens h k =
    let bad = subst (λ (l : List ℕ). IsBadTokenAt l span) (all_run is_ascii text k.ascii) h.1 in
    absurd (stuck_none bad.rest bad.pieces k.pieces bad.tokens tokens text bad.read k.read bad.some bad.stuck)
refused_none text (errors.Expected span) tokens h k = absurd h
refused_none text (errors.TooLarge span) tokens h k = absurd (omega (arith, h.0, k.short))
refused_none text errors.NoMemory tokens h k = refl

pub whole_ascii : (text : List ℕ) → length text ≤ length (front is_ascii text) → all is_ascii text ≡ true
whole_ascii text h = ap (all is_ascii) (sym (run_whole is_ascii text h)) ∙ run_all is_ascii text

-- a text without a byte above 127 is what was read
pub ascii_read : (text ascii : List ℕ) → ascii ≡ front is_ascii text → length text ≤ 65536 → length text ≤ length ascii → (tokens : List Token) → ((pieces : List Piece) × IsTextBefore [] pieces tokens ascii) → AreTokens text tokens
ascii_read text ascii e short long tokens h =
    let reaches : length text ≤ length (front is_ascii text) = omega (arith, long, ap (λ (l : List ℕ). length l) e) in
    record {
      short = short;
      ascii = whole_ascii text reaches;
      pieces = h.0;
      read = subst (λ (l : List ℕ). IsTextBefore [] h.0 tokens l) (e ∙ run_whole is_ascii text reaches) h.1;
    }

pub ascii_placed : (text ascii : List ℕ) → ascii ≡ front is_ascii text → length text ≤ length ascii → (placed : List Placed) → ArePlaced ascii 0 placed (length ascii) → ArePlaced text 0 placed (length text)
ascii_placed text ascii e long placed h =
    let reaches : length text ≤ length (front is_ascii text) = omega (arith, long, ap (λ (l : List ℕ). length l) e) in
    subst (λ (l : List ℕ). ArePlaced l 0 placed (length l)) (e ∙ run_whole is_ascii text reaches) h

-- a text with a byte above 127 has no tokens
pub beyond : (text ascii : List ℕ) → ascii ≡ front is_ascii text → length ascii < length text → (tokens : List Token) → AreTokens text tokens → ⊥
beyond text ascii e less tokens h = omega (arith, less, ap (λ (l : List ℕ). length l) (e ∙ all_run is_ascii text h.ascii))

pub refused_read : (text : List ℕ) (r : Result (Vec Placed) SyntaxError) → IsErr r → IfErr r (λ e. IsRefusal text e) → (tokens : List Token) → AreTokens text tokens → MatchResult r (λ v. tokens_of v.items ≡ tokens) (λ e. e ≡ errors.NoMemory)
refused_read text (Ok v) is h tokens k = absurd (let e : false ≡ true = is in cc)
refused_read text (Err e) is h tokens k = refused_none text e tokens h k
