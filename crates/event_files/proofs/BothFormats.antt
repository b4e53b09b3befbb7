-- A file is of one format, and has no line that is none of it.
use Rattle.std.proofs.Common.{◌≡◌, ◌≢◌, ℕ, ◌+◌, false, List, [], ◌∷◌, ◌++◌, Option, Some, None, refl, sym, ap, ◌∙◌}
use Rattle.std.specs.Prelude.{codes}
use Rattle.event_files.specs.declared.error.EventError.TheVariants as errors
use Rattle.event_files.specs.declared.event_file.EventFile.{EventFile}
use Rattle.event_files.specs.declared.event_file.EventFile.TheVariants as files
use Rattle.event_files.specs.declared.recorded.RecordedEvent.{RecordedEvent}
use Rattle.event_files.specs.declared.line.Line.{Line}
use Rattle.event_files.specs.Files.{Row, Passed, Said, IsFile, IsRow, is_passed, row_text}
use Rattle.event_files.specs.Lines.{IsLine, line_text}
use Rattle.event_files.specs.Reading.{behind, event_in, line_in}
use Rattle.event_files.specs.Recorded.{IsEventFile, IsFileRefusal, IsRecorded, IsRecordedFile, IsRefusalBehind, header, recorded_in, recorded_text}
use Rattle.event_files.proofs.Marks.{behind-append, behind-is}
use Rattle.event_files.proofs.Rows.{none_bad, one_bad, one_file}
use Rattle.event_files.proofs.Readers.{line_in-text, reads_lines}
use Rattle.event_files.proofs.Histories.{reads_recorded}

abbrev first : List ℕ
first = codes "raysim 2"

same_some : (x y : List ℕ) → ◌≡◌ {A = Option (List ℕ)} (Some x) (Some y) → x ≡ y
same_some x y e = cc

-- what stands behind the first line is one text
one_rest : (bytes x y : List ℕ) → bytes ≡ header ++ x → bytes ≡ header ++ y → x ≡ y
one_rest bytes x y e f = same_some x y (sym (behind-append header x) ∙ ap (behind header) (sym e ∙ f) ∙ behind-append header y)

one_recorded : (bytes : List ℕ) (a b : List RecordedEvent) → IsRecordedFile bytes a → IsRecordedFile bytes b → a ≡ b
one_recorded bytes a b (x, e, h) (y, f, k) =
    h.said ∙ one_file IsRecorded recorded_text recorded_in reads_recorded h.rows k.rows h.are_rows k.are_rows
    (sym h.written ∙ one_rest bytes x y e f ∙ k.written) ∙ sym k.said

one_plain : (bytes : List ℕ) (a b : List Line) → IsFile IsLine line_text bytes a → IsFile IsLine line_text bytes b → a ≡ b
one_plain bytes a b h k = h.said ∙ one_file IsLine line_text line_in reads_lines h.rows k.rows h.are_rows k.are_rows (sym h.written ∙ k.written) ∙ sym k.said

no_line : line_in first ≡ None
unfolding line_in event_in
no_line = refl

no_row : (r : Row Line) → IsRow IsLine r → row_text line_text r ≢ first
no_row (Passed bytes) h e = let f : is_passed bytes ≡ false = ap is_passed e in let g = h.0 in absurd (cc)
no_row (Said l) h e = let f : Some l ≡ None = sym (line_in-text l h) ∙ ap line_in e ∙ no_line in absurd (cc)

-- a text with that first line is no file of the first format
no_plain : (bytes x : List ℕ) (a : List Line) → IsFile IsLine line_text bytes a → bytes ≡ header ++ x → ⊥
no_plain bytes x a h e = none_bad IsLine line_text line_in reads_lines h.rows [] first (10 ∷ x) h.are_rows tt refl (refl, no_row) (sym h.written ∙ e)

pub apart : (bytes : List ℕ) (a : List Line) (b : List RecordedEvent) → IsFile IsLine line_text bytes a → IsRecordedFile bytes b → ⊥
apart bytes a b h (x, e, k) = no_plain bytes x a h e

pub one_event_file : (bytes : List ℕ) (a b : EventFile) → IsEventFile bytes a → IsEventFile bytes b → a ≡ b
one_event_file bytes (files.Lines a) (files.Lines b) h k = ap (λ x. files.Lines x) (one_plain bytes a b h k)
one_event_file bytes (files.Lines a) (files.Recorded b) h k = absurd (apart bytes a b h k)
one_event_file bytes (files.Recorded a) (files.Lines b) h k = absurd (apart bytes b a k h)
one_event_file bytes (files.Recorded a) (files.Recorded b) h k = ap (λ x. files.Recorded x) (one_recorded bytes a b h k)

-- ---- refusals

none_behind : (bytes : List ℕ) (a : EventFile) (n : ℕ) (o : Option (List ℕ)) → behind header bytes ≡ o → IsEventFile bytes a →
    IsRefusalBehind o bytes (errors.BadLine n) → ⊥
none_behind bytes (files.Lines a) n None e h k =
    none_bad IsLine line_text line_in reads_lines h.rows k.rows k.line k.rest h.are_rows k.are_rows k.in_a_line k.is_bad (sym h.written ∙ k.written)
none_behind bytes (files.Lines a) n (Some x) e h k = no_plain bytes x a h (behind-is header bytes x e)
none_behind bytes (files.Recorded a) n None e (x, f, h) k = let g : behind header bytes ≡ Some x = ap (behind header) f ∙ behind-append header x in absurd (cc)
none_behind bytes (files.Recorded a) n (Some y) e (x, f, h) (m, g, k) =
    none_bad IsRecorded recorded_text recorded_in reads_recorded h.rows k.rows k.line k.rest h.are_rows k.are_rows k.in_a_line k.is_bad
    (sym h.written ∙ one_rest bytes x y f (behind-is header bytes y e) ∙ k.written)

pub none_refused : (bytes : List ℕ) (a : EventFile) (n : ℕ) → IsEventFile bytes a → IsFileRefusal bytes (errors.BadLine n) → ⊥
none_refused bytes a n h k = none_behind bytes a n (behind header bytes) refl h k

one_behind : (bytes : List ℕ) (m n : ℕ) (o : Option (List ℕ)) → IsRefusalBehind o bytes (errors.BadLine m) → IsRefusalBehind o bytes (errors.BadLine n) → m ≡ n
one_behind bytes m n None h k =
    h.place ∙ ap (λ i. i + 1) (one_bad IsLine line_text line_in reads_lines h.rows k.rows h.line h.rest k.line k.rest h.are_rows k.are_rows
    h.in_a_line k.in_a_line h.is_bad k.is_bad (sym h.written ∙ k.written)) ∙ sym k.place
one_behind bytes m n (Some x) (i, e, h) (j, f, k) =
    let same : i ≡ j = h.place ∙ ap (λ i. i + 1) (one_bad IsRecorded recorded_text recorded_in reads_recorded h.rows k.rows h.line h.rest k.line k.rest
    h.are_rows k.are_rows h.in_a_line k.in_a_line h.is_bad k.is_bad (sym h.written ∙ k.written)) ∙ sym k.place in
    e ∙ ap (λ i. i + 1) same ∙ sym f

pub one_refused : (bytes : List ℕ) (m n : ℕ) → IsFileRefusal bytes (errors.BadLine m) → IsFileRefusal bytes (errors.BadLine n) → m ≡ n
one_refused bytes m n h k = one_behind bytes m n (behind header bytes) h k
