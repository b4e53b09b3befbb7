-- A file read line by line: what was read so far, and how one line more goes on, is refused or ends it.
use Rattle.std.proofs.Common.{◌≡◌, ◌≢◌, ℕ, suc, ◌+◌, ◌<◌, ◌≤◌, true, false, List, [], ◌∷◌, ◌++◌, length, Option, Some, None, refl, sym, ap, ◌∙◌, arith}
use Rattle.std.proofs.lemmas.List.{length-append, append_assoc, append-nil}
use Rattle.event_files.specs.Files.{Row, Passed, Said, is_passed, IsRow, AreRows, row_text, rows_text, all_said, IsFile, IsNoRow, IsBadAt}
use Rattle.event_files.specs.Reading.{has, parted}
use Rattle.event_files.proofs.Decimals.{given_of}
use Rattle.event_files.proofs.Marks.{IsParted, parted-is, none-parted, one_parting, no_mark_has}

-- the reader gives exactly what is written
pub record Reads {A : Type 0} (is : A → Type 0) (text : A → List ℕ) (read : List ℕ → Option A) : Type 0 where
  pub reads : (a : A) → is a → read (text a) ≡ Some a
  pub only : (bytes : List ℕ) (a : A) → read bytes ≡ Some a → is a × (bytes ≡ text a)
  pub in_a_line : (a : A) → is a → has 10 (text a) ≡ false
  pub not_passed : (a : A) → is a → is_passed (text a) ≡ false

-- ---- going on

pub cut : (mark : ℕ) (rest line after : List ℕ) → parted mark rest ≡ Some (line, after) → IsParted mark rest (line, after)
cut mark rest line after e = given_of (IsParted mark rest) (parted mark rest) (line, after) (parted-is mark rest) e

pub shorter : (mark : ℕ) (rest line after : List ℕ) → parted mark rest ≡ Some (line, after) → length after < length rest
shorter mark rest line after e = let l = ap length (cut mark rest line after e).are ∙ length-append line (mark ∷ after) in omega (arith, l)

pub record IsReadTo {A : Type 0} (is : A → Type 0) (text : A → List ℕ) (bytes rest : List ℕ) (says : List A) (n : ℕ) : Type 0 where
  pub rows : List (Row A)
  pub are_rows : AreRows is rows
  pub written : bytes ≡ rows_text text rows ++ rest
  pub said : says ≡ all_said rows
  pub count : n ≡ length rows
  pub few : n + length rest ≤ length bytes

are_more : {A : Type 0} (is : A → Type 0) (rows : List (Row A)) (r : Row A) → AreRows is rows → IsRow is r → AreRows is (rows ++ r ∷ [])
are_more is [] r h k = (k, tt)
are_more is (x ∷ rows) r h k = (h.0, are_more is rows r h.1 k)

text_more : {A : Type 0} (text : A → List ℕ) (rows : List (Row A)) (r : Row A) (rest : List ℕ) →
    rows_text text rows ++ (row_text text r ++ 10 ∷ rest) ≡ rows_text text (rows ++ r ∷ []) ++ rest
text_more text [] r rest = sym (append_assoc (row_text text r) (10 ∷ []) rest)
text_more text (x ∷ rows) r rest =
    append_assoc (row_text text x) (10 ∷ rows_text text rows) (row_text text r ++ 10 ∷ rest)
    ∙ ap (λ z. row_text text x ++ 10 ∷ z) (text_more text rows r rest)
    ∙ sym (append_assoc (row_text text x) (10 ∷ rows_text text (rows ++ r ∷ [])) rest)

passed_more : {A : Type 0} (rows : List (Row A)) (bytes : List ℕ) → all_said (rows ++ Passed bytes ∷ []) ≡ all_said rows
passed_more [] bytes = refl
passed_more (Passed x ∷ rows) bytes = passed_more rows bytes
passed_more (Said a ∷ rows) bytes = ap (λ z. a ∷ z) (passed_more rows bytes)

said_more : {A : Type 0} (rows : List (Row A)) (a : A) → all_said (rows ++ Said a ∷ []) ≡ all_said rows ++ a ∷ []
said_more [] a = refl
said_more (Passed x ∷ rows) a = said_more rows a
said_more (Said b ∷ rows) a = ap (λ z. b ∷ z) (said_more rows a)

pub begins : {A : Type 0} (is : A → Type 0) (text : A → List ℕ) (bytes : List ℕ) → IsReadTo is text bytes bytes [] 0
begins is text bytes = record { rows = []; are_rows = tt; written = refl; said = refl; count = refl; few = omega arith }

fewer : (n : ℕ) (line after rest bytes : List ℕ) → rest ≡ line ++ 10 ∷ after → n + length rest ≤ length bytes → n + 1 + length after ≤ length bytes
fewer n line after rest bytes e h = let l = ap length e ∙ length-append line (10 ∷ after) in omega (arith, l)

pub goes_on : {A : Type 0} (is : A → Type 0) (text : A → List ℕ) (bytes rest line after : List ℕ) (says says' : List A) (n : ℕ) (r : Row A) →
    IsReadTo is text bytes rest says n → IsParted 10 rest (line, after) → IsRow is r → line ≡ row_text text r →
    ((rows : List (Row A)) → says ≡ all_said rows → says' ≡ all_said (rows ++ r ∷ [])) → IsReadTo is text bytes after says' (n + 1)
goes_on is text bytes rest line after says says' n r h p k e s = record {
  rows = h.rows ++ r ∷ [];
  are_rows = are_more is h.rows r h.are_rows k;
  written = h.written ∙ ap (λ z. rows_text text h.rows ++ z) (p.are ∙ ap (λ z. z ++ 10 ∷ after) e) ∙ text_more text h.rows r after;
  said = s h.rows h.said;
  count = (let l = length-append h.rows (r ∷ []) in let c = h.count in omega (arith, l, c));
  few = fewer n line after rest bytes p.are h.few;
}

pub goes_past : {A : Type 0} (is : A → Type 0) (text : A → List ℕ) (bytes rest line after : List ℕ) (says : List A) (n : ℕ) →
    IsReadTo is text bytes rest says n → IsParted 10 rest (line, after) → is_passed line ≡ true → IsReadTo is text bytes after says (n + 1)
goes_past is text bytes rest line after says n h p k =
    goes_on is text bytes rest line after says says n (Passed line) h p (k, p.none_before) refl (λ rows e. e ∙ sym (passed_more rows line))

pub goes_with : {A : Type 0} (is : A → Type 0) (text : A → List ℕ) (read : List ℕ → Option A) → Reads is text read →
    (bytes rest line after : List ℕ) (says : List A) (n : ℕ) (a : A) →
    IsReadTo is text bytes rest says n → IsParted 10 rest (line, after) → read line ≡ Some a → IsReadTo is text bytes after (says ++ a ∷ []) (n + 1)
goes_with is text read own bytes rest line after says n a h p e =
    let k = own.only line a e in
    goes_on is text bytes rest line after says (says ++ a ∷ []) n (Said a) h p k.0 k.1 (λ rows f. ap (λ z. z ++ a ∷ []) f ∙ sym (said_more rows a))

pub ends : {A : Type 0} (is : A → Type 0) (text : A → List ℕ) (bytes rest : List ℕ) (says : List A) (n : ℕ) →
    IsReadTo is text bytes rest says n → length rest ≡ 0 → IsFile is text bytes says
ends is text bytes [] says n h e = record { rows = h.rows; are_rows = h.are_rows; written = h.written ∙ append-nil (rows_text text h.rows); said = h.said }
ends is text bytes (b ∷ rest) says n h e = absurd (omega (arith, e))

pub no_row : {A : Type 0} (is : A → Type 0) (text : A → List ℕ) (read : List ℕ → Option A) → Reads is text read → (line : List ℕ) →
    is_passed line ≡ false → read line ≡ None → (r : Row A) → IsRow is r → row_text text r ≢ line
no_row is text read own line k e (Passed x) h f = let g : is_passed line ≡ true = sym (ap is_passed f) ∙ h.0 in cc
no_row is text read own line k e (Said a) h f = let g : read line ≡ Some a = sym (ap read f) ∙ own.reads a h in cc

pub bad_line : {A : Type 0} (is : A → Type 0) (text : A → List ℕ) (read : List ℕ → Option A) → Reads is text read →
    (bytes rest line after : List ℕ) (says : List A) (n : ℕ) →
    IsReadTo is text bytes rest says n → IsParted 10 rest (line, after) → is_passed line ≡ false → read line ≡ None → IsBadAt is text bytes (n + 1)
bad_line is text read own bytes rest line after says n h p k e = record {
  rows = h.rows;
  line = line;
  rest = 10 ∷ after;
  are_rows = h.are_rows;
  written = h.written ∙ ap (λ z. rows_text text h.rows ++ z) p.are;
  place = ap (λ m. m + 1) h.count;
  in_a_line = p.none_before;
  is_bad = (refl, no_row is text read own line k e);
}

pub bad_end : {A : Type 0} (is : A → Type 0) (text : A → List ℕ) (bytes rest : List ℕ) (says : List A) (n : ℕ) →
    IsReadTo is text bytes rest says n → parted 10 rest ≡ None → length rest ≢ 0 → IsBadAt is text bytes (n + 1)
bad_end is text bytes rest says n h k e = record {
  rows = h.rows;
  line = rest;
  rest = [];
  are_rows = h.are_rows;
  written = h.written ∙ ap (λ z. rows_text text h.rows ++ z) (sym (append-nil rest));
  place = ap (λ m. m + 1) h.count;
  in_a_line = none-parted 10 rest k;
  is_bad = λ f. e (ap length f);
}

-- ---- one reading

row_in_a_line : {A : Type 0} (is : A → Type 0) (text : A → List ℕ) (read : List ℕ → Option A) → Reads is text read → (r : Row A) → IsRow is r → has 10 (row_text text r) ≡ false
row_in_a_line is text read own (Passed x) h = h.1
row_in_a_line is text read own (Said a) h = own.in_a_line a h

-- what is said in a line
said_in : {A : Type 0} → Row A → List A
said_in (Passed x) = []
said_in (Said a) = a ∷ []

said_cons : {A : Type 0} (r : Row A) (rows : List (Row A)) → all_said (r ∷ rows) ≡ said_in r ++ all_said rows
unfolding said_in
said_cons (Passed x) rows = refl
said_cons (Said a) rows = refl

one_row : {A : Type 0} (is : A → Type 0) (text : A → List ℕ) (read : List ℕ → Option A) → Reads is text read → (r s : Row A) →
    IsRow is r → IsRow is s → row_text text r ≡ row_text text s → said_in r ≡ said_in s
unfolding said_in
one_row is text read own (Passed x) (Passed y) h k e = refl
one_row is text read own (Passed x) (Said b) h k e = let f : is_passed x ≡ false = ap is_passed e ∙ own.not_passed b k in let g = h.0 in cc
one_row is text read own (Said a) (Passed y) h k e = let f : is_passed y ≡ false = ap is_passed (sym e) ∙ own.not_passed a h in let g = k.0 in cc
one_row is text read own (Said a) (Said b) h k e = let f : Some a ≡ Some b = sym (own.reads a h) ∙ ap read e ∙ own.reads b k in cc

no_row_in_nothing : (x y : List ℕ) (A : Type 0) → [] ≡ x ++ 10 ∷ y → A
no_row_in_nothing [] y A e = absurd (cc)
no_row_in_nothing (b ∷ x) y A e = absurd (cc)

pub one_file : {A : Type 0} (is : A → Type 0) (text : A → List ℕ) (read : List ℕ → Option A) → Reads is text read → (rows others : List (Row A)) →
    AreRows is rows → AreRows is others → rows_text text rows ≡ rows_text text others → all_said rows ≡ all_said others
one_file is text read own [] [] h k e = refl
one_file is text read own [] (s ∷ others) h k e = no_row_in_nothing (row_text text s) (rows_text text others) _ e
one_file is text read own (r ∷ rows) [] h k e = no_row_in_nothing (row_text text r) (rows_text text rows) _ (sym e)
one_file is text read own (r ∷ rows) (s ∷ others) h k e =
    let p = one_parting 10 (row_text text r) (rows_text text rows) (row_text text s) (rows_text text others)
    (row_in_a_line is text read own r h.0) (row_in_a_line is text read own s k.0) e in
    said_cons r rows ∙ ap (λ z. z ++ all_said rows) (one_row is text read own r s h.0 k.0 p.0)
    ∙ ap (λ z. said_in s ++ z) (one_file is text read own rows others h.1 k.1 p.1) ∙ sym (said_cons s others)

-- after lines that are read, the line is none of a row's lines
not_here : {A : Type 0} (is : A → Type 0) (text : A → List ℕ) (read : List ℕ → Option A) → Reads is text read →
    (r : Row A) (more line rest : List ℕ) → IsRow is r → has 10 line ≡ false → IsNoRow is text line rest → row_text text r ++ 10 ∷ more ≡ line ++ rest → ⊥
not_here is text read own r more line [] h k bad e =
    let f : has 10 (row_text text r ++ 10 ∷ more) ≡ false = ap (has 10) (e ∙ append-nil line) ∙ k in no_mark_has 10 (row_text text r) more f
not_here is text read own r more line (b ∷ rest) h k bad e =
    let f : row_text text r ++ 10 ∷ more ≡ line ++ 10 ∷ rest = e ∙ ap (λ z. line ++ z ∷ rest) bad.0 in
    bad.1 r h (one_parting 10 (row_text text r) more line rest (row_in_a_line is text read own r h) k f).0

nothing_bad : {A : Type 0} (is : A → Type 0) (text : A → List ℕ) (line rest : List ℕ) → IsNoRow is text line rest → [] ≡ line ++ rest → ⊥
nothing_bad is text [] [] h e = h refl
nothing_bad is text [] (b ∷ rest) h e = cc
nothing_bad is text (c ∷ line) rest h e = cc

pub none_bad : {A : Type 0} (is : A → Type 0) (text : A → List ℕ) (read : List ℕ → Option A) → Reads is text read →
    (rows others : List (Row A)) (line rest : List ℕ) → AreRows is rows → AreRows is others → has 10 line ≡ false → IsNoRow is text line rest →
    rows_text text rows ≡ rows_text text others ++ (line ++ rest) → ⊥
none_bad is text read own [] [] line rest h k m bad e = nothing_bad is text line rest bad e
none_bad is text read own [] (s ∷ others) line rest h k m bad e =
    no_row_in_nothing (row_text text s) (rows_text text others ++ (line ++ rest)) ⊥ (e ∙ append_assoc (row_text text s) (10 ∷ rows_text text others) (line ++ rest))
none_bad is text read own (r ∷ rows) [] line rest h k m bad e = not_here is text read own r (rows_text text rows) line rest h.0 m bad e
none_bad is text read own (r ∷ rows) (s ∷ others) line rest h k m bad e =
    let p = one_parting 10 (row_text text r) (rows_text text rows) (row_text text s) (rows_text text others ++ (line ++ rest))
    (row_in_a_line is text read own r h.0) (row_in_a_line is text read own s k.0) (e ∙ append_assoc (row_text text s) (10 ∷ rows_text text others) (line ++ rest)) in
    none_bad is text read own rows others line rest h.1 k.1 m bad p.1

pub one_bad : {A : Type 0} (is : A → Type 0) (text : A → List ℕ) (read : List ℕ → Option A) → Reads is text read →
    (rows others : List (Row A)) (line rest more after : List ℕ) → AreRows is rows → AreRows is others →
    has 10 line ≡ false → has 10 more ≡ false → IsNoRow is text line rest → IsNoRow is text more after →
    rows_text text rows ++ (line ++ rest) ≡ rows_text text others ++ (more ++ after) → length rows ≡ length others
one_bad is text read own [] [] line rest more after h k m n bad worse e = refl
one_bad is text read own [] (s ∷ others) line rest more after h k m n bad worse e =
    absurd (not_here is text read own s (rows_text text others ++ (more ++ after)) line rest k.0 m bad
    (sym (append_assoc (row_text text s) (10 ∷ rows_text text others) (more ++ after)) ∙ sym e))
one_bad is text read own (r ∷ rows) [] line rest more after h k m n bad worse e =
    absurd (not_here is text read own r (rows_text text rows ++ (line ++ rest)) more after h.0 n worse
    (sym (append_assoc (row_text text r) (10 ∷ rows_text text rows) (line ++ rest)) ∙ e))
one_bad is text read own (r ∷ rows) (s ∷ others) line rest more after h k m n bad worse e =
    let p = one_parting 10 (row_text text r) (rows_text text rows ++ (line ++ rest)) (row_text text s) (rows_text text others ++ (more ++ after))
    (row_in_a_line is text read own r h.0) (row_in_a_line is text read own s k.0)
    (sym (append_assoc (row_text text r) (10 ∷ rows_text text rows) (line ++ rest)) ∙ e ∙ append_assoc (row_text text s) (10 ∷ rows_text text others) (more ++ after)) in
    ap (λ i. suc i) (one_bad is text read own rows others line rest more after h.1 k.1 m n bad worse p.1)
