-- What is summed up entry by entry is what the log sums up to.
use Rattle.std.proofs.Common.{◌≡◌, ℕ, suc, ◌+◌, Bool, true, false, List, [], ◌∷◌, ◌++◌, length, refl, sym, ap, ◌∙◌, arith, append-nil, length-append}
use Rattle.std.specs.Prelude.{◌==◌, if◌then◌else◌}
use Rattle.std.specs.List.{flat_map}
use Rattle.std.proofs.lemmas.List.Concat.{flat_map-append}
use Rattle.event_log.specs.Books.{sum}
use Rattle.event_log.specs.Entries.{Event, Commit, Entry, In}
use Rattle.event_log.specs.Events.{commit_in, refused_next}
use Rattle.books.specs.SeatTotals.{arrival, arrivals, commit_from, commits_from, seat_totals}
use Rattle.books.specs.Lines.{book_line, book_text, lines_below}
use Rattle.books.specs.Summing.{Sums, added_by, counts_for, no_sums, plus, sums_of}
use Rattle.books.proofs.SeatLaws.{sum-more}

abbrev sums_at : List ℕ → Sums
sums_at js = record { count = length js; sum = sum js }

-- whether an entry is an event
abbrev is_event : Entry → Bool
is_event (In e s) = true
is_event x = false

none : (seat : ℕ) → sums_at (commits_from seat []) ≡ no_sums
unfolding arrivals
none seat = refl

abbrev commits_here : ℕ → Bool → Event → ℕ → List ℕ
commits_here seat refused e s = flat_map (commit_from seat) (if refused then [] else arrival e s ∷ [])

commits-in : (seat : ℕ) (e : Event) (s : ℕ) (rest : List Entry) →
    commits_from seat (In e s ∷ rest) ≡ commits_here seat (refused_next rest) e s ++ commits_from seat rest
unfolding arrivals
commits-in seat e s rest = flat_map-append (commit_from seat) (if refused_next rest then [] else arrival e s ∷ []) (arrivals rest)

sums_parts : (a a' b b' : ℕ) → a ≡ a' → b ≡ b' → ◌≡◌ {A = Sums} (record { count = a; sum = b }) (record { count = a'; sum = b' })
sums_parts a a' b b' e f = cc

sums_more : (xs ys : List ℕ) → sums_at (xs ++ ys) ≡ plus (sums_at xs) (sums_at ys)
sums_more xs ys = sums_parts _ _ _ _ (length-append xs ys) (sum-more xs ys)

counted : (e : Event) (counts : Bool) → sums_at (if counts then commit_in e else []) ≡ added_by e counts
counted (Commit j) true = sums_parts _ _ _ _ refl (omega arith)
counted (Commit j) false = refl
counted e true = refl
counted e false = refl

one_sum : (seat : ℕ) (refused : Bool) (e : Event) (s : ℕ) → sums_at (commits_here seat refused e s) ≡ added_by e (counts_for seat s refused)
one_sum seat true e s = counted e false
one_sum seat false e s = ap sums_at (append-nil (if s == seat then commit_in e else [])) ∙ counted e (s == seat)

other : (seat : ℕ) (x : Entry) (rest : List Entry) → is_event x ≡ false → commits_from seat (x ∷ rest) ≡ commits_from seat rest
unfolding arrivals
other seat (In e s) rest h = absurd (cc)
other seat x rest h = refl

pub same_sums : (seat : ℕ) (log : List Entry) → sums_at (commits_from seat log) ≡ sums_of seat log
same_sums seat [] = none seat
same_sums seat (In e s ∷ rest) =
    ap sums_at (commits-in seat e s rest)
    ∙ sums_more (commits_here seat (refused_next rest) e s) (commits_from seat rest)
    ∙ ap (λ t. plus t (sums_at (commits_from seat rest))) (one_sum seat (refused_next rest) e s)
    ∙ ap (λ t. plus (added_by e (counts_for seat s (refused_next rest))) t) (same_sums seat rest)
same_sums seat (x ∷ rest) = ap sums_at (other seat x rest refl) ∙ same_sums seat rest

abbrev pub line_at : ℕ → Sums → List ℕ
line_at seat s = if s.count == 0 then [] else book_text seat s.count s.sum

pub same_line : (seat : ℕ) (log : List Entry) → book_line seat (seat_totals seat log) ≡ line_at seat (sums_of seat log)
same_line seat log = ap (line_at seat) (same_sums seat log)

-- a seat without accepted commits has no line
pub no_line : (seat : ℕ) (log : List Entry) (s : Sums) → s ≡ sums_of seat log → s.count ≡ 0 → book_line seat (seat_totals seat log) ≡ []
no_line seat log s same none =
    same_line seat log ∙ ap (line_at seat) (sym same) ∙ ap (λ (n : ℕ). if n == 0 then [] else book_text seat n s.sum) none

pub no_lines : (log : List Entry) → lines_below 0 log ≡ []
unfolding lines_below
no_lines log = refl

next_lines : (seat : ℕ) (log : List Entry) → lines_below (suc seat) log ≡ lines_below seat log ++ book_line seat (seat_totals seat log)
unfolding lines_below
next_lines seat log = refl

pub one_line_more : (seat : ℕ) (log : List Entry) → lines_below (seat + 1) log ≡ lines_below seat log ++ book_line seat (seat_totals seat log)
one_line_more seat log =
    let next : seat + 1 ≡ suc seat = omega arith in
    ap (λ n. lines_below n log) next ∙ next_lines seat log
