-- The two formats read what they write.
use Rattle.std.proofs.Common.{◌≡◌, ℕ, ◌<◌, ◌^◌, Bool, true, false, List, [], ◌∷◌, ◌++◌, Option, Some, None, refl, ap, ◌∙◌, arith}
use Rattle.std.specs.Prelude.{IfSome, codes, if◌then◌else◌, map}
use Rattle.std.specs.Option.{option_map}
use Rattle.std.specs.Fmt.{decimal}
use Rattle.std.specs.Int.{IsInRange}
use Rattle.std.specs.Prelude.{length}
use Rattle.std.proofs.Common.{get_or}
use Rattle.std.specs.Str.{bytes_eq}
use Rattle.std.proofs.lemmas.Slice.Eq.{bytes_eq-Decides}
use Rattle.std.proofs.lemmas.List.{append_assoc}
use Rattle.std.proofs.lemmas.Fmt.{decimal_is_IsNumeral, decimal_nonempty}
use Rattle.std.proofs.lemmas.Str.Parse.{digit_at}
use Rattle.std.proofs.lemmas.Bool.Decides.{nat_tests}
use Rattle.log_entries.specs.Texts.{event_text}
use Rattle.log_entries.specs.declared.event.Event.{Event}
use Rattle.log_entries.specs.declared.event.Event.TheVariants as events
use Rattle.event_files.specs.declared.line.Line.{Line}
use Rattle.event_files.specs.declared.line.Line.TheVariants as lines
use Rattle.event_files.specs.declared.plan.PlanLine.{PlanLine}
use Rattle.event_files.specs.Lines.{AreEvents, AreWorkers, IsLine, workers_text, line_text}
use Rattle.event_files.specs.Plans.{is_outside, plan_line_at, plan_line_in, IsPlanLine, plan_line_text}
use Rattle.event_files.specs.Files.{Row, Said, is_passed, AreRows, rows_text, all_said, IsFile}
use Rattle.event_files.specs.Reading.{pick, go_on, has, parted, behind, number_in, event_in, workers_in, settle_in, line_in}
use Rattle.event_files.specs.Printing.{events_text}
use Rattle.event_files.proofs.Decimals.{number_in-decimal, number_in-is, given_of}
use Rattle.event_files.proofs.Marks.{pick_keeps, behind-is, parted-at, parted-is, IsParted, no_mark_in_decimal, has-append}
use Rattle.event_files.proofs.EventTexts.{IsEventIn, event_in-text, event_in-is, event_in_a_line}
use Rattle.event_files.proofs.Settles.{AreWorkersIn, workers_in-is, workers_in-text}
use Rattle.event_files.proofs.Rows.{Reads}

-- ---- lines of event files

pub line_in-text : (l : Line) → IsLine l → line_in (line_text l) ≡ Some l
unfolding line_in
line_in-text (lines.Settle []) h = refl
line_in-text (lines.Settle (w ∷ ws)) h = rw (workers_in-text w ws h) refl
line_in-text (lines.Event e) h = by_event e (event_in-text e h)
  where
    by_event : (e : Event) → event_in (event_text e) ≡ Some e →
        (if bytes_eq (event_text e) (codes "settle") then Some (lines.Settle [])
        else pick (behind (codes "settle but ") (event_text e)) (λ x. settle_in x) (option_map (λ f. lines.Event f) (event_in (event_text e)))) ≡ Some (lines.Event e)
    by_event (events.Claim w) r = rw r refl
    by_event (events.Commit j) r = rw r refl
    by_event (events.Deliver m) r = rw r refl
    by_event (events.Tick w) r = rw r refl
    by_event (events.Notice w v) r = rw r refl
    by_event (events.NoticeNode w n) r = rw r refl
    by_event (events.Evict n o) r = rw r refl
    by_event (events.Lose n o) r = rw r refl
    by_event (events.Kill w) r = rw r refl
    by_event (events.KillNode n) r = rw r refl
    by_event events.Join r = rw r refl

record IsLineIn (bytes : List ℕ) (l : Line) : Type 0 where
  pub fits : IsLine l
  pub written : bytes ≡ line_text l

settle_is : (bytes x : List ℕ) → bytes ≡ codes "settle but " ++ x → IfSome (settle_in x) (IsLineIn bytes)
settle_is bytes x e = by_case (workers_in x) (workers_in-is x)
  where
    by_case : (r : Option (List ℕ)) → IfSome r (AreWorkersIn (32 ∷ x)) → IfSome (option_map (λ ws. lines.Settle ws) r) (IsLineIn bytes)
    by_case None h = tt
    by_case (Some []) h = let f = h.written in absurd (cc)
    by_case (Some (w ∷ ws)) h = record { fits = h.fit; written = e ∙ ap (λ z. codes "settle but" ++ z) h.written }

event_is : (bytes : List ℕ) → IfSome (option_map (λ e. lines.Event e) (event_in bytes)) (IsLineIn bytes)
event_is bytes = by_case (event_in bytes) (event_in-is bytes)
  where
    by_case : (r : Option Event) → IfSome r (IsEventIn bytes) → IfSome (option_map (λ e. lines.Event e) r) (IsLineIn bytes)
    by_case None h = tt
    by_case (Some e) h = record { fits = h.fits; written = h.written }

line_in-is : (bytes : List ℕ) → IfSome (line_in bytes) (IsLineIn bytes)
unfolding line_in
line_in-is bytes = by_test (bytes_eq bytes (codes "settle")) refl
  where
    by_test : (t : Bool) → bytes_eq bytes (codes "settle") ≡ t →
        IfSome (if t then Some (lines.Settle []) else pick (behind (codes "settle but ") bytes) (λ x. settle_in x) (option_map (λ e. lines.Event e) (event_in bytes))) (IsLineIn bytes)
    by_test true e = record { fits = tt; written = (bytes_eq-Decides bytes (codes "settle")).0 e }
    by_test false e = pick_keeps (IsLineIn bytes) (behind (codes "settle but ") bytes) (λ x. settle_in x) (option_map (λ f. lines.Event f) (event_in bytes))
        (λ x f. settle_is bytes x (behind-is (codes "settle but ") bytes x f)) (event_is bytes)

workers_in_a_line : (ws : List ℕ) → AreWorkers ws → has 10 (workers_text ws) ≡ false
workers_in_a_line [] h = refl
workers_in_a_line (w ∷ ws) h =
    has-append 10 (decimal w) (workers_text ws) (no_mark_in_decimal 10 w (omega arith) (omega (arith, h.0))) (workers_in_a_line ws h.1)

line_in_a_line : (l : Line) → IsLine l → has 10 (line_text l) ≡ false
line_in_a_line (lines.Event e) h = event_in_a_line e h
line_in_a_line (lines.Settle []) h = refl
line_in_a_line (lines.Settle (w ∷ ws)) h = workers_in_a_line (w ∷ ws) h

event_not_passed : (e : Event) → is_passed (event_text e) ≡ false
event_not_passed (events.Claim w) = refl
event_not_passed (events.Commit j) = refl
event_not_passed (events.Deliver m) = refl
event_not_passed (events.Tick w) = refl
event_not_passed (events.Notice w v) = refl
event_not_passed (events.NoticeNode w n) = refl
event_not_passed (events.Evict n o) = refl
event_not_passed (events.Lose n o) = refl
event_not_passed (events.Kill w) = refl
event_not_passed (events.KillNode n) = refl
event_not_passed events.Join = refl

line_not_passed : (l : Line) → IsLine l → is_passed (line_text l) ≡ false
line_not_passed (lines.Event e) h = event_not_passed e
line_not_passed (lines.Settle []) h = refl
line_not_passed (lines.Settle (w ∷ ws)) h = refl

line_only : (bytes : List ℕ) (l : Line) → line_in bytes ≡ Some l → IsLine l × (bytes ≡ line_text l)
line_only bytes l e = let k = given_of (IsLineIn bytes) (line_in bytes) l (line_in-is bytes) e in (k.fits, k.written)

pub reads_lines : Reads IsLine line_text line_in
reads_lines = record { reads = line_in-text; only = line_only; in_a_line = line_in_a_line; not_passed = line_not_passed }

-- ---- lines of plans

plan_line_in-text : (p : PlanLine) → IsPlanLine p → plan_line_in (plan_line_text p) ≡ Some p
unfolding plan_line_in
plan_line_in-text p h =
    let space = parted-at 32 (decimal p.commits) (event_text p.event) (no_mark_in_decimal 32 p.commits (omega arith) h.0) in
    let number = number_in-decimal 64 p.commits h.0 h.0 in
    let event = event_in-text p.event h.1 in
    rw (space, number, event, h.2) refl

record IsPlanLineIn (bytes : List ℕ) (p : PlanLine) : Type 0 where
  pub is : IsPlanLine p
  pub written : bytes ≡ plan_line_text p

plan_line_in-is : (bytes : List ℕ) → IfSome (plan_line_in bytes) (IsPlanLineIn bytes)
unfolding plan_line_in
plan_line_in-is bytes =
    pick_keeps (IsPlanLineIn bytes) (parted 32 bytes) _ None (λ x e.
    pick_keeps (IsPlanLineIn bytes) (number_in 64 x.0) _ None (λ n f.
    pick_keeps (IsPlanLineIn bytes) (event_in x.1) _ None (λ v g.
    by_test bytes x n v (given_of (IsParted 32 bytes) (parted 32 bytes) x (parted-is 32 bytes) e).are
    (given_of (λ m. (m < 2 ^ 64) × (x.0 ≡ decimal m)) (number_in 64 x.0) n (number_in-is 64 x.0) f)
    (given_of (IsEventIn x.1) (event_in x.1) v (event_in-is x.1) g) (is_outside v) refl) tt) tt) tt
  where
    by_test : (bytes : List ℕ) (x : List ℕ × List ℕ) (n : ℕ) (v : Event) → bytes ≡ x.0 ++ 32 ∷ x.1 → (n < 2 ^ 64) × (x.0 ≡ decimal n) → IsEventIn x.1 v →
        (t : Bool) → is_outside v ≡ t → IfSome (go_on (if t then Some v else None) (λ p. Some (plan_line_at n p))) (IsPlanLineIn bytes)
    by_test bytes x n v e f g true k = record {
      is = (f.0, g.fits, k);
      written = e ∙ ap (λ z. z ++ 32 ∷ x.1) f.1 ∙ ap (λ z. decimal n ++ 32 ∷ z) g.written;
    }
    by_test bytes x n v e f g false k = tt

plan_line_only : (bytes : List ℕ) (p : PlanLine) → plan_line_in bytes ≡ Some p → IsPlanLine p × (bytes ≡ plan_line_text p)
plan_line_only bytes p e = let k = given_of (IsPlanLineIn bytes) (plan_line_in bytes) p (plan_line_in-is bytes) e in (k.is, k.written)

plan_line_in_a_line : (p : PlanLine) → IsPlanLine p → has 10 (plan_line_text p) ≡ false
plan_line_in_a_line p h =
    has-append 10 (decimal p.commits) (codes " " ++ event_text p.event) (no_mark_in_decimal 10 p.commits (omega arith) h.0) (event_in_a_line p.event h.1)

pub digit_first : (bytes rest : List ℕ) → 0 < length bytes → IsInRange 48 57 (get_or bytes 0 0) → is_passed (bytes ++ rest) ≡ false
digit_first [] rest l r = absurd (omega arith)
digit_first (b ∷ bytes) rest l r = grind (arith, nat_tests)

plan_line_not_passed : (p : PlanLine) → IsPlanLine p → is_passed (plan_line_text p) ≡ false
plan_line_not_passed p h =
    digit_first (decimal p.commits) (codes " " ++ event_text p.event) (decimal_nonempty p.commits h.0)
    (digit_at (decimal p.commits) 0 (decimal_is_IsNumeral p.commits h.0).0.1 (decimal_nonempty p.commits h.0))

pub reads_plans : Reads IsPlanLine plan_line_text plan_line_in
reads_plans = record { reads = plan_line_in-text; only = plan_line_only; in_a_line = plan_line_in_a_line; not_passed = plan_line_not_passed }

-- ---- events that are printed

rows_of : List Event → List (Row Line)
rows_of [] = []
rows_of (e ∷ es) = Said (lines.Event e) ∷ rows_of es

printed_rows : (es : List Event) → AreEvents es → AreRows IsLine (rows_of es)
unfolding rows_of
printed_rows [] h = tt
printed_rows (e ∷ es) h = (h.0, printed_rows es h.1)

printed_text : (es : List Event) → events_text es ≡ rows_text line_text (rows_of es)
unfolding rows_of
printed_text [] = refl
printed_text (e ∷ es) = append_assoc (event_text e) (10 ∷ []) (events_text es) ∙ ap (λ z. event_text e ++ 10 ∷ z) (printed_text es)

printed_said : (es : List Event) → map (λ e. lines.Event e) es ≡ all_said (rows_of es)
unfolding rows_of
printed_said [] = refl
printed_said (e ∷ es) = ap (λ z. lines.Event e ∷ z) (printed_said es)

pub printed : (es : List Event) → AreEvents es → IsFile IsLine line_text (events_text es) (map (λ e. lines.Event e) es)
printed es h = record { rows = rows_of es; are_rows = printed_rows es h; written = printed_text es; said = printed_said es }
