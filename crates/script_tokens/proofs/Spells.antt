-- What is written is read.
use Rattle.std.proofs.Common.{◌≡◌, ◌≤◌, ℕ, true, false, List, [], ◌∷◌, ◌++◌, length, map, refl, sym, ap, ◌∙◌, append_assoc}
use Rattle.std.specs.Fmt.{decimal}
use Rattle.script_tokens.specs.declared.token.Mark.{Mark}
use Rattle.script_tokens.specs.declared.token.Mark.TheVariants as marks
use Rattle.script_tokens.specs.Tokens.{Token, number, name, mark}
use Rattle.script_tokens.specs.Bytes.{is_ascii, is_digit, in_word, all, ends}
use Rattle.script_tokens.specs.Spelling.{mark_text, spell, spaced, line_rest, line_text, text_of_lines, tokens_of_lines, AllTokens, IsToken, Continues}
use Rattle.script_tokens.specs.declared.token.Token.{Token as CodeToken}
use Rattle.script_tokens.specs.Views.{token_of}
use Rattle.script_tokens.specs.Texts.{Piece, blank, token, lengthens, lengthens_mark, IsTextBefore, AreTokens}
use Rattle.script_tokens.proofs.Runs.{all_weaker, all_parts, digit_in_word, word_ascii}
use Rattle.script_tokens.proofs.Digits.{decimal_digits}
use Rattle.script_tokens.proofs.Words.{name_all}

-- ---- bytes below 128

mark_ascii : (m : Mark) → all is_ascii (mark_text m) ≡ true
mark_ascii marks.Fn = refl
mark_ascii _ = refl

spell_ascii : (t : Token) → IsToken t → all is_ascii (spell t) ≡ true
spell_ascii (number n) h = all_weaker is_digit is_ascii (decimal n) (λ b d. word_ascii b (digit_in_word b d)) (decimal_digits n h)
spell_ascii (name x) h = all_weaker in_word is_ascii x word_ascii (name_all x h.shape)
spell_ascii (mark m) h = mark_ascii m

rest_ascii : (ts : List Token) → AllTokens ts → all is_ascii (line_rest ts) ≡ true
rest_ascii [] h = refl
rest_ascii (t ∷ ts) h = all_parts is_ascii (spell t) (line_rest ts) (spell_ascii t h.0) (rest_ascii ts h.1)

line_ascii : (ts : List Token) → AllTokens ts → all is_ascii (line_text ts) ≡ true
line_ascii [] h = refl
line_ascii (t ∷ ts) h = all_parts is_ascii (spell t) (line_rest ts) (spell_ascii t h.0) (rest_ascii ts h.1)

front_tokens : (a b : List Token) → AllTokens (a ++ b) → AllTokens a
front_tokens [] b h = tt
front_tokens (t ∷ a) b h = (h.0, front_tokens a b h.1)

back_tokens : (a b : List Token) → AllTokens (a ++ b) → AllTokens b
back_tokens [] b h = h
back_tokens (t ∷ a) b h = back_tokens a b h.1

lines_ascii : (lines : List (List Token)) → AllTokens (tokens_of_lines lines) → all is_ascii (text_of_lines lines) ≡ true
lines_ascii [] h = refl
lines_ascii (l ∷ lines) h =
    all_parts is_ascii (line_text l) (text_of_lines lines) (line_ascii l (front_tokens l (tokens_of_lines lines) h)) (lines_ascii lines (back_tokens l (tokens_of_lines lines) h))

-- ---- a blank ends each token

mark_ended : (m : Mark) → (lengthens_mark m 10 ≡ false) × (lengthens_mark m 32 ≡ false)
mark_ended marks.Fn = (refl, refl)
mark_ended _ = (refl, refl)

token_ended : (t : Token) → (lengthens t 10 ≡ false) × (lengthens t 32 ≡ false)
token_ended (number n) = (refl, refl)
token_ended (name x) = (refl, refl)
token_ended (mark m) = mark_ended m

rest_ends : (t : Token) (ts : List Token) (more : List ℕ) → ends (lengthens t) (line_rest ts ++ more) ≡ true
rest_ends t [] more = rw (token_ended t).0 refl
rest_ends t (u ∷ ts) more = rw (token_ended t).1 refl

-- ---- the pieces of lines

pieces_of_rest : List Token → List Piece
pieces_of_rest [] = blank 10 ∷ []
pieces_of_rest (t ∷ ts) = blank 32 ∷ token t ∷ pieces_of_rest ts

pieces_of_line : List Token → List Piece
pieces_of_line [] = blank 10 ∷ []
pieces_of_line (t ∷ ts) = token t ∷ pieces_of_rest ts

pieces_of_lines : List (List Token) → List Piece
pieces_of_lines [] = []
pieces_of_lines (l ∷ lines) = pieces_of_line l ++ pieces_of_lines lines

token_before : (t : Token) (ts : List Token) (more : List ℕ) (pieces : List Piece) (others : List Token) → IsToken t
    → IsTextBefore [] pieces (ts ++ others) (line_rest ts ++ more) → IsTextBefore [] (token t ∷ pieces) (t ∷ ts ++ others) ((spell t ++ line_rest ts) ++ more)
token_before t ts more pieces others h k = (line_rest ts ++ more, ts ++ others, append_assoc (spell t) (line_rest ts) more, (h, rest_ends t ts more), refl, k)

rest_reads : (ts : List Token) (more : List ℕ) (pieces : List Piece) (others : List Token) → AllTokens ts
    → IsTextBefore [] pieces others more → IsTextBefore [] (pieces_of_rest ts ++ pieces) (ts ++ others) (line_rest ts ++ more)
unfolding pieces_of_rest
rest_reads [] more pieces others h k = (more, others, refl, refl, refl, k)
rest_reads (t ∷ ts) more pieces others h k =
    ((spell t ++ line_rest ts) ++ more, t ∷ ts ++ others, refl, refl, refl, token_before t ts more (pieces_of_rest ts ++ pieces) others h.0 (rest_reads ts more pieces others h.1 k))

line_reads : (ts : List Token) (more : List ℕ) (pieces : List Piece) (others : List Token) → AllTokens ts
    → IsTextBefore [] pieces others more → IsTextBefore [] (pieces_of_line ts ++ pieces) (ts ++ others) (line_text ts ++ more)
unfolding pieces_of_line
line_reads [] more pieces others h k = (more, others, refl, refl, refl, k)
line_reads (t ∷ ts) more pieces others h k = token_before t ts more (pieces_of_rest ts ++ pieces) others h.0 (rest_reads ts more pieces others h.1 k)

lines_read : (lines : List (List Token)) → AllTokens (tokens_of_lines lines) → IsTextBefore [] (pieces_of_lines lines) (tokens_of_lines lines) (text_of_lines lines)
unfolding pieces_of_lines
lines_read [] h = (refl, refl)
lines_read (l ∷ lines) h =
    line_reads l (text_of_lines lines) (pieces_of_lines lines) (tokens_of_lines lines) (front_tokens l (tokens_of_lines lines) h) (lines_read lines (back_tokens l (tokens_of_lines lines) h))

pub lines_are : (lines : List (List Token)) → AllTokens (tokens_of_lines lines) → length (text_of_lines lines) ≤ 65536 → AreTokens (text_of_lines lines) (tokens_of_lines lines)
lines_are lines h few = record { short = few; ascii = lines_ascii lines h; pieces = pieces_of_lines lines; read = lines_read lines h }

-- ---- tokens with a space behind

pub spaced_parts : (a b : List Token) → spaced (a ++ b) ≡ spaced a ++ spaced b
spaced_parts [] b = refl
spaced_parts (t ∷ a) b = ap (λ (l : List ℕ). spell t ++ (32 ∷ l)) (spaced_parts a b) ∙ sym (append_assoc (spell t) (32 ∷ spaced a) (spaced b))

rest_of_spaced : (tokens : List Token) (last : Token) → line_rest (tokens ++ (last ∷ [])) ≡ 32 ∷ (spaced tokens ++ (spell last ++ (10 ∷ [])))
rest_of_spaced [] last = refl
rest_of_spaced (t ∷ tokens) last =
    ap (λ (l : List ℕ). 32 ∷ (spell t ++ l)) (rest_of_spaced tokens last) ∙ ap (λ (l : List ℕ). 32 ∷ l) (sym (append_assoc (spell t) (32 ∷ spaced tokens) (spell last ++ (10 ∷ []))))

pub line_spaced : (tokens : List Token) (last : Token) → line_text (tokens ++ (last ∷ [])) ≡ spaced tokens ++ (spell last ++ (10 ∷ []))
line_spaced [] last = refl
line_spaced (t ∷ tokens) last =
    ap (λ (l : List ℕ). spell t ++ l) (rest_of_spaced tokens last) ∙ sym (append_assoc (spell t) (32 ∷ spaced tokens) (spell last ++ (10 ∷ [])))

-- ---- a line, written token by token

pub record LineSoFar (old now : List ℕ) (rest all : List CodeToken) : Type 0 where
  pub same : now ++ line_rest (map token_of rest) ≡ old ++ line_text (map token_of all)
  pub grown : Continues old now
