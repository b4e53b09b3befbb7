-- Lines that are read one after the other.
use Rattle.std.proofs.Common.{◌≡◌, ◌≢◌, ◌∙◌, ◌<◌, ℕ, Bool, true, false, List, [], ◌∷◌, ◌++◌, length, Option, None, Some, refl, sym, ap, subst, append_assoc, arith}
use Rattle.std.specs.Prelude.{◌==◌, if◌then◌else◌}
use Rattle.std.proofs.lemmas.List.{append-nil}
use Rattle.std.proofs.lemmas.Bool.Decides.{nat_tests}
use Rattle.event_files.specs.Files.{is_passed}
use Rattle.event_files.specs.Reading.{has}
use Rattle.event_reading.specs.declared.row.LineEnd.{LineEnd}
use Rattle.event_reading.specs.declared.row.LineEnd.TheVariants as ends
use Rattle.event_reading.specs.declared.row.Row.{Row}
use Rattle.event_reading.specs.declared.row.Row.TheVariants as rows
use Rattle.event_reading.specs.Known.{IfKnown, IsNextByte, IsRestOfLine}
use Rattle.event_reading.specs.Rows.{IsLineRead, IsNextRow}
use Rattle.event_reading.proofs.Bytes.{mapped, through}

-- bytes of a line are taken
pub record IsPassedOver (b r : List ℕ) : Type 0 where
  pub taken : List ℕ
  pub are : b ≡ taken ++ r
  pub in_a_line : has 10 taken ≡ false

-- and kept
pub record IsReadOn (before after b r : List ℕ) : Type 0 where
  pub taken : List ℕ
  pub are : b ≡ taken ++ r
  pub in_a_line : has 10 taken ≡ false
  pub line : after ≡ before ++ taken

has_more : (taken : List ℕ) (x : ℕ) → has 10 taken ≡ false → x ≢ 10 → has 10 (taken ++ x ∷ []) ≡ false
has_more [] x h n = let e : (x == 10) ≡ false = grind (arith, nat_tests) in ap (λ t. if t then true else false) e
has_more (b ∷ taken) x h n = by_test (b == 10) (has_more taken x) h
  where
    by_test : (t : Bool) → (has 10 taken ≡ false → x ≢ 10 → has 10 (taken ++ x ∷ []) ≡ false) → (if t then true else has 10 taken) ≡ false →
        (if t then true else has 10 (taken ++ x ∷ [])) ≡ false
    by_test true r f = cc
    by_test false r f = r f n

more_are : (taken b m r : List ℕ) (x : ℕ) → b ≡ taken ++ m → m ≡ x ∷ r → b ≡ (taken ++ x ∷ []) ++ r
more_are taken b m r x e f = e ∙ ap (λ z. taken ++ z) f ∙ sym (append_assoc taken (x ∷ []) r)

pub nothing_passed : (known : Option (List ℕ)) → IfKnown known known IsPassedOver
nothing_passed None = tt
nothing_passed (Some b) = record { taken = []; are = refl; in_a_line = refl }

pub one_passed : (before between after : Option (List ℕ)) (x : ℕ) → x ≢ 10 → IfKnown before between IsPassedOver →
    IfKnown between after (IsNextByte (Some x)) → IfKnown before after IsPassedOver
one_passed before between after x n h k =
    through before between after IsPassedOver (IsNextByte (Some x)) IsPassedOver h k (λ b m r p f. record {
      taken = p.taken ++ x ∷ [];
      are = more_are p.taken b m r x p.are f;
      in_a_line = has_more p.taken x p.in_a_line n;
    })

pub passed_to_feed : (before between after : Option (List ℕ)) → IfKnown before between IsPassedOver →
    IfKnown between after (IsNextByte (Some 10)) → IfKnown before after (λ b r. (taken : List ℕ) × IsRestOfLine ends.Feed taken b r)
passed_to_feed before between after h k =
    through before between after IsPassedOver (IsNextByte (Some 10)) (λ b r. (taken : List ℕ) × IsRestOfLine ends.Feed taken b r) h k
    (λ b m r p f. (p.taken, record { are = p.are ∙ ap (λ z. p.taken ++ z) f; in_a_line = p.in_a_line }))

pub passed_to_end : (before between after : Option (List ℕ)) → IfKnown before between IsPassedOver →
    IfKnown between after (IsNextByte None) → IfKnown before after (λ b r. (taken : List ℕ) × IsRestOfLine ends.Nothing taken b r)
passed_to_end before between after h k =
    through before between after IsPassedOver (IsNextByte None) (λ b r. (taken : List ℕ) × IsRestOfLine ends.Nothing taken b r) h k
    (λ b m r p f. (p.taken, record { are = (p.are ∙ ap (λ z. p.taken ++ z) f.0 ∙ append-nil p.taken, f.1); in_a_line = p.in_a_line }))

pub passed_so_far : (before after : Option (List ℕ)) → IfKnown before after IsPassedOver →
    IfKnown before after (λ b r. (taken : List ℕ) × IsRestOfLine ends.Cut taken b r)
passed_so_far before after h =
    mapped before after IsPassedOver (λ b r. (taken : List ℕ) × IsRestOfLine ends.Cut taken b r) h
    (λ b r p. (p.taken, record { are = p.are; in_a_line = p.in_a_line }))

pub nothing_read : (known : Option (List ℕ)) (line : List ℕ) → IfKnown known known (IsReadOn line line)
nothing_read None line = tt
nothing_read (Some b) line = record { taken = []; are = refl; in_a_line = refl; line = sym (append-nil line) }

pub one_read : (before between after : Option (List ℕ)) (first line longer : List ℕ) (x : ℕ) → x ≢ 10 → longer ≡ line ++ x ∷ [] →
    IfKnown before between (IsReadOn first line) → IfKnown between after (IsNextByte (Some x)) → IfKnown before after (IsReadOn first longer)
one_read before between after first line longer x n grown h k =
    through before between after (IsReadOn first line) (IsNextByte (Some x)) (IsReadOn first longer) h k (λ b m r p f. record {
      taken = p.taken ++ x ∷ [];
      are = more_are p.taken b m r x p.are f;
      in_a_line = has_more p.taken x p.in_a_line n;
      line = grown ∙ ap (λ z. z ++ x ∷ []) p.line ∙ append_assoc first p.taken (x ∷ []);
    })

pub read_to_feed : (most : ℕ) (before between after : Option (List ℕ)) (first line : List ℕ) → IfKnown before between (IsReadOn first line) →
    IfKnown between after (IsNextByte (Some 10)) → IfKnown before after (IsLineRead most first line ends.Feed)
read_to_feed most before between after first line h k =
    through before between after (IsReadOn first line) (IsNextByte (Some 10)) (IsLineRead most first line ends.Feed) h k (λ b m r p f. record {
      taken = p.taken;
      rest = record { are = p.are ∙ ap (λ z. p.taken ++ z) f; in_a_line = p.in_a_line };
      line = p.line;
      is_long = tt;
    })

pub read_to_end : (most : ℕ) (before between after : Option (List ℕ)) (first line : List ℕ) → IfKnown before between (IsReadOn first line) →
    IfKnown between after (IsNextByte None) → IfKnown before after (IsLineRead most first line ends.Nothing)
read_to_end most before between after first line h k =
    through before between after (IsReadOn first line) (IsNextByte None) (IsLineRead most first line ends.Nothing) h k (λ b m r p f. record {
      taken = p.taken;
      rest = record { are = (p.are ∙ ap (λ z. p.taken ++ z) f.0 ∙ append-nil p.taken, f.1); in_a_line = p.in_a_line };
      line = p.line;
      is_long = tt;
    })

pub read_so_far : (most : ℕ) (before after : Option (List ℕ)) (first line : List ℕ) → most < length line → IfKnown before after (IsReadOn first line) →
    IfKnown before after (IsLineRead most first line ends.Cut)
read_so_far most before after first line l h =
    mapped before after (IsReadOn first line) (IsLineRead most first line ends.Cut) h (λ b r p. record {
      taken = p.taken;
      rest = record { are = p.are; in_a_line = p.in_a_line };
      line = p.line;
      is_long = l;
    })

-- ---- rows

has_first : (x : ℕ) (l : List ℕ) → x ≢ 10 → has 10 l ≡ false → has 10 (x ∷ l) ≡ false
has_first x l n h = let e : (x == 10) ≡ false = grind (arith, nat_tests) in ap (λ t. if t then true else has 10 l) e ∙ h

said_first : (x : ℕ) (l : List ℕ) → x ≢ 35 → is_passed (x ∷ l) ≡ false
said_first x l n = grind (arith, nat_tests)

pub passed_feed : (most : ℕ) (before after : Option (List ℕ)) (end : LineEnd) → end ≡ ends.Feed →
    IfKnown before after (λ b r. (taken : List ℕ) × IsRestOfLine end taken b r) → IfKnown before after (λ b r. IsNextRow most rows.Passed (35 ∷ b) r)
passed_feed most before after end is h =
    mapped before after (λ b r. (taken : List ℕ) × IsRestOfLine ends.Feed taken b r) (λ b r. IsNextRow most rows.Passed (35 ∷ b) r)
    (subst (λ e. IfKnown before after (λ b r. (taken : List ℕ) × IsRestOfLine e taken b r)) is h)
    (λ b r p. (35 ∷ p.0, record { are = ap (λ z. 35 ∷ z) p.1.are; in_a_line = p.1.in_a_line }, refl))

pub passed_end : (most : ℕ) (before after : Option (List ℕ)) (end : LineEnd) → end ≡ ends.Nothing →
    IfKnown before after (λ b r. (taken : List ℕ) × IsRestOfLine end taken b r) → IfKnown before after (λ b r. IsNextRow most rows.Unended (35 ∷ b) r)
passed_end most before after end is h =
    mapped before after (λ b r. (taken : List ℕ) × IsRestOfLine ends.Nothing taken b r) (λ b r. IsNextRow most rows.Unended (35 ∷ b) r)
    (subst (λ e. IfKnown before after (λ b r. (taken : List ℕ) × IsRestOfLine e taken b r)) is h)
    (λ b r p. (λ e. absurd (cc), ap (has 10) p.1.are.0 ∙ p.1.in_a_line))

pub row_behind : (most first : ℕ) (before between after : Option (List ℕ)) (row : Row) → IfKnown before between (IsNextByte (Some first)) →
    IfKnown between after (λ b r. IsNextRow most row (first ∷ b) r) → IfKnown before after (IsNextRow most row)
row_behind most first before between after row h k =
    through before between after (IsNextByte (Some first)) (λ b r. IsNextRow most row (first ∷ b) r) (IsNextRow most row) h k
    (λ b m r e f. subst (λ z. IsNextRow most row z r) (sym e) f)
