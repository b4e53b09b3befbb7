-- The loop over a text: its tokens so far, and where they stand.
use Rattle.std.proofs.Common.{◌≡◌, ◌≤◌, ◌<◌, ◌+◌, ◌-◌, ℕ, zero, suc, true, List, [], ◌∷◌, ◌++◌, length, take, drop, Option, Some, None, refl, sym, ap, subst, ◌∙◌, arith, length-append}
use Rattle.std.specs.Prelude.{slice_range, max}
use Rattle.std.specs.Str.{IsAscii, IsUtf8}
use Rattle.std.proofs.lemmas.Str.{IsUtf8-from_ascii}
use Rattle.std.proofs.lemmas.Bool.{ltb-true}
use Rattle.std.proofs.lemmas.List.{append-nil, map-append}
use Rattle.std.proofs.Math.Seq.{drop-append_seam, take-append_seam}
use Rattle.script_tokens.specs.declared.token.Placed.{Placed}
use Rattle.script_tokens.specs.declared.token.Span.{Span}
use Rattle.script_tokens.specs.declared.token.Token.{Token as CodeToken}
use Rattle.script_tokens.specs.Tokens.{Token}
use Rattle.script_tokens.specs.Views.{token_of, tokens_of}
use Rattle.script_tokens.specs.Bytes.{in_word, in_run, is_ascii, all, front}
use Rattle.script_tokens.specs.Spelling.{spell}
use Rattle.script_tokens.specs.Texts.{Piece, blank, comment, token, text_of, tokens_in, Stands, IsTextBefore}
use Rattle.script_tokens.specs.Refusals.{IsBadTokenAt}
use Rattle.script_tokens.specs.Places.{ArePlaced}
use Rattle.script_tokens.specs.Lexing.{next, listed, placed}
use Rattle.script_tokens.proofs.Cases.{both}
use Rattle.script_tokens.proofs.Runs.{all_weaker, word_ascii}
use Rattle.script_tokens.proofs.Pieces.{next_found}
use Rattle.script_tokens.proofs.Readings.{text_parts, one_more, next_stuck, token_long, stands_long}

-- ---- words are text

ascii_bytes : (bs : List ℕ) → all is_ascii bs ≡ true → IsAscii bs
ascii_bytes [] h i = omega arith
ascii_bytes (b ∷ bs) h zero = ltb-true _ _ (both (is_ascii b) (all is_ascii bs) h).0
ascii_bytes (b ∷ bs) h (suc i) = ascii_bytes bs (both (is_ascii b) (all is_ascii bs) h).1 i

pub word_utf8 : (word : List ℕ) → all in_word word ≡ true → IsUtf8 word
word_utf8 word h = IsUtf8-from_ascii word (ascii_bytes word (all_weaker in_word is_ascii word word_ascii h))

-- ---- places

pub placed_later : (text : List ℕ) (from : ℕ) (ps : List Placed) (to later : ℕ) → ArePlaced text from ps to → to ≤ later → ArePlaced text from ps later
placed_later text from [] to later h le = omega (arith, h, le)
placed_later text from (p ∷ ps) to later h le = (h.0, h.1, h.2, placed_later text p.span.end ps to later h.3 le)

placed_more : (text : List ℕ) (from : ℕ) (ps : List Placed) (to : ℕ) (p : Placed) → ArePlaced text from ps to → to ≤ p.span.start → p.span.start < p.span.end
    → slice_range text p.span.start p.span.end ≡ spell (token_of p.token) → ArePlaced text from (ps ++ (p ∷ [])) p.span.end
placed_more text from [] to p h le less e = (omega (arith, h, le), less, e, omega arith)
placed_more text from (q ∷ ps) to p h le less e = (h.0, h.1, h.2, placed_more text q.span.end ps to p h.3 le less e)

piece_range : (before piece after : List ℕ) → take (length piece) (drop (length before) (before ++ (piece ++ after))) ≡ piece
piece_range before piece after = ap (take (length piece)) (drop-append_seam before (piece ++ after)) ∙ take-append_seam piece after

-- the bytes that a piece takes, by what is left before and after it
range_is : (text rest before piece after : List ℕ) → text ≡ before ++ rest → rest ≡ piece ++ after → slice_range text (length text - length rest) (length text - length after) ≡ piece
range_is text rest before piece after e f =
    let whole : text ≡ before ++ (piece ++ after) = e ∙ ap (λ (l : List ℕ). before ++ l) f in
    let a : length text ≡ length before + length rest = ap (λ (l : List ℕ). length l) e ∙ length-append before rest in
    let b : length rest ≡ length piece + length after = ap (λ (l : List ℕ). length l) f ∙ length-append piece after in
    let from : length text - length rest ≡ length before = omega (arith, a) in
    let long : (length text - length after) - (length text - length rest) ≡ length piece = omega (arith, a, b) in
    rw (long, from) (ap (λ (l : List ℕ). take (length piece) (drop (length before) l)) whole ∙ piece_range before piece after)

-- ---- the loop

pub record ReadSoFar (text rest : List ℕ) (tokens : List Placed) : Type 0 where
  pub pieces : List Piece
  pub read : IsTextBefore rest pieces (tokens_of tokens) text
  pub order : ArePlaced text 0 tokens (length text - length rest)

pub read_none : (text : List ℕ) → ReadSoFar text text []
read_none text = record { pieces = []; read = (refl, refl); order = omega arith }

pub rest_within : (text rest : List ℕ) (tokens : List Placed) → ReadSoFar text rest tokens → length rest ≤ length text
rest_within text rest tokens h =
    let p = text_parts rest h.pieces (tokens_of tokens) text h.read in
    omega (arith, ap (λ (l : List ℕ). length l) p.1, length-append p.0 rest)

pub after_within : (rest : List ℕ) (tokens : List Token) (after : List ℕ) → next rest ≡ Some (tokens, after) → length after ≤ length rest
after_within rest tokens after e =
    let f = next_found rest (tokens, after) e in
    omega (arith, ap (λ (l : List ℕ). length l) f.spelled, length-append (text_of f.piece) after)

abbrev span_from : List ℕ → List ℕ → List ℕ → Span
span_from text rest after = record { start = length text - length rest; end = length text - length after }

listed_is : (t : Token) (p : Piece) (rest : List ℕ) → t ∷ [] ≡ tokens_in p → Stands p rest → (text_of p ≡ spell t) × (0 < length (spell t))
listed_is t (blank b) rest e s = absurd cc
listed_is t (comment line) rest e s = absurd cc
listed_is t (token u) rest e s =
    let same : t ≡ u = cc in
    (ap spell (sym same), subst (λ (v : Token). 0 < length (spell v)) (sym same) (token_long u s.0))

pub read_more : (text rest after : List ℕ) (tokens : List Placed) (token : Option CodeToken) → ReadSoFar text rest tokens → next rest ≡ Some (listed token, after)
    → ReadSoFar text after (tokens ++ placed token (span_from text rest after))
read_more text rest after tokens None h e =
    let f = next_found rest ([], after) e in
    let le = rest_within text rest tokens h in
    let less = after_within rest [] after e in
    let read = one_more rest h.pieces (tokens_of tokens) text f.piece after h.read f.spelled f.stands in
    let same : tokens_of tokens ++ tokens_in f.piece ≡ tokens_of (tokens ++ []) = ap (λ (l : List Token). tokens_of tokens ++ l) (sym f.given) ∙ append-nil (tokens_of tokens) ∙ ap tokens_of (sym (append-nil tokens)) in
    record {
      pieces = h.pieces ++ (f.piece ∷ []);
      read = subst (λ (ts : List Token). IsTextBefore after (h.pieces ++ (f.piece ∷ [])) ts text) same read;
      order = rw (append-nil tokens) (placed_later text 0 tokens (length text - length rest) (length text - length after) h.order (omega (arith, le, less)));
    }
read_more text rest after tokens (Some t) h e =
    let f = next_found rest (token_of t ∷ [], after) e in
    let le = rest_within text rest tokens h in
    let less = after_within rest (token_of t ∷ []) after e in
    let parts = text_parts rest h.pieces (tokens_of tokens) text h.read in
    let is = listed_is (token_of t) f.piece after f.given f.stands in
    let p : Placed = record { token = t; span = span_from text rest after } in
    let read = one_more rest h.pieces (tokens_of tokens) text f.piece after h.read f.spelled f.stands in
    let same : tokens_of tokens ++ tokens_in f.piece ≡ tokens_of (tokens ++ (p ∷ [])) = ap (λ (l : List Token). tokens_of tokens ++ l) (sym f.given) ∙ sym (map-append (λ (q : Placed). token_of q.token) tokens (p ∷ [])) in
    let range = range_is text rest parts.0 (text_of f.piece) after parts.1 f.spelled in
    let taken = ap (λ (l : List ℕ). length l) f.spelled in
    let some : 0 < length (text_of f.piece) = subst (λ (l : List ℕ). 0 < length l) (sym is.0) is.1 in
    record {
      pieces = h.pieces ++ (f.piece ∷ []);
      read = subst (λ (ts : List Token). IsTextBefore after (h.pieces ++ (f.piece ∷ [])) ts text) same read;
      order = placed_more text 0 tokens (length text - length rest) p h.order (omega arith) (omega (arith, le, taken, length-append (text_of f.piece) after, some)) (range ∙ is.0);
    }

pub read_shorter : (rest : List ℕ) (tokens : List Token) (after : List ℕ) → next rest ≡ Some (tokens, after) → length after < length rest
read_shorter rest tokens after e =
    let f = next_found rest (tokens, after) e in
    omega (arith, ap (λ (l : List ℕ). length l) f.spelled, length-append (text_of f.piece) after, stands_long f.piece after f.stands)

pub stopped : (text rest : List ℕ) (tokens : List Placed) (span : Span) → ReadSoFar text rest tokens → next rest ≡ None → 0 < length rest
    → span.start ≡ length text - length rest → span.end ≡ span.start + max 1 (length (front in_run rest)) → IsBadTokenAt text span
stopped text rest tokens span h e some start end =
    let le = rest_within text rest tokens h in
    record { rest = rest; pieces = h.pieces; tokens = tokens_of tokens; read = h.read; some = some; stuck = next_stuck rest e; start = omega (arith, start, le); end = end }

empty_is : (l : List ℕ) → length l ≡ 0 → l ≡ []
empty_is [] h = refl
empty_is (b ∷ l) h = absurd (omega (arith, h))

pub read_all : (text rest : List ℕ) (tokens : List Placed) → ReadSoFar text rest tokens → length rest ≡ 0 → (pieces : List Piece) × IsTextBefore [] pieces (tokens_of tokens) text
read_all text rest tokens h e = (h.pieces, subst (λ (l : List ℕ). IsTextBefore l h.pieces (tokens_of tokens) text) (empty_is rest e) h.read)

pub placed_all : (text rest : List ℕ) (tokens : List Placed) → ReadSoFar text rest tokens → ArePlaced text 0 tokens (length text)
placed_all text rest tokens h = placed_later text 0 tokens (length text - length rest) (length text) h.order (omega arith)
