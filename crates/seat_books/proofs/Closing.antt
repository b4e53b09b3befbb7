-- All seats together: the watched one is among them, once.
use Rattle.std.proofs.Common.{◌≡◌, ℕ, ◌+◌, ◌*◌, ◌≤◌, Bool, true, false, List, [], ◌∷◌, Some, ap, sym, refl, ◌∙◌, length, arith}
use Rattle.std.specs.Prelude.{◌==◌, if◌then◌else◌, sum_by}
use Rattle.std.proofs.lemmas.List.Sums.{sum_by-cons}
use Rattle.event_log.specs.Books.{Totals}
use Rattle.event_log.specs.Laws.{nothing}
use Rattle.seat_books.specs.Seats.{AreParts, SeatOf, book_of, further_at, further_parts, parts_at}

abbrev pub marks : ℕ → List SeatOf → ℕ
marks w seats = sum_by (λ s. further_parts w s.number) seats

abbrev pub all_parts : ℕ → List SeatOf → ℕ
all_parts w seats = sum_by (λ s. parts_at w s.number) seats

-- of each seat the parts of both kinds are two
both_of : (b : Bool) → (if b then 1 else 2) + (if b then 1 else 0) ≡ 2
both_of true = refl
both_of false = refl

both : (w : ℕ) (seats : List SeatOf) → all_parts w seats + marks w seats ≡ 2 * length seats
both w [] = refl
both w (s ∷ seats) =
    let e = both w seats in
    let f = both_of (s.number == w) in
    let a = sum_by-cons (λ (s : SeatOf). parts_at w s.number) s seats in
    let m = sum_by-cons (λ (s : SeatOf). further_parts w s.number) s seats in
    omega (arith, e, f, a, m)

-- where so many seats have no more parts than there are, the watched seat is one of them, and so they have them all
pub marked_once : (w all : ℕ) (seats : List SeatOf) → AreParts (length seats) all → all_parts w seats ≤ all → marks w seats ≤ 1 →
    (marks w seats ≡ 1) × (all_parts w seats ≡ all)
marked_once w all seats parts bound once = let e = both w seats in (omega (arith, e, parts, bound, once), omega (arith, e, parts, bound, once))

-- what the seats with the number have in the further ledgers, number by number
abbrev pub events_in : ℕ → List SeatOf → ℕ
events_in w seats = sum_by (λ s. (further_at w s).book.events) seats

abbrev pub given_in : ℕ → List SeatOf → ℕ
given_in w seats = sum_by (λ s. (further_at w s).book.given) seats

abbrev pub commits_in : ℕ → List SeatOf → ℕ
commits_in w seats = sum_by (λ s. (further_at w s).book.commits) seats

abbrev pub committed_in : ℕ → List SeatOf → ℕ
committed_in w seats = sum_by (λ s. (further_at w s).book.committed) seats

abbrev pub held : ℕ → List SeatOf → Totals
held w seats = record { events = events_in w seats; given = given_in w seats; commits = commits_in w seats; committed = committed_in w seats }

totals_parts : (a a' b b' c c' d d' : ℕ) → a ≡ a' → b ≡ b' → c ≡ c' → d ≡ d' →
    ◌≡◌ {A = Totals} (record { events = a; given = b; commits = c; committed = d }) (record { events = a'; given = b'; commits = c'; committed = d' })
totals_parts a a' b b' c c' d d' ea eb ec ed = cc

-- with one seat more, by whether it has the number
abbrev held_with : Bool → Totals → Totals → Totals
held_with b book rest =
    let t : Totals = if b then book else nothing in
    record { events = t.events + rest.events; given = t.given + rest.given; commits = t.commits + rest.commits; committed = t.committed + rest.committed }

more_marks : (w : ℕ) (s : SeatOf) (seats : List SeatOf) (b : Bool) → (s.number == w) ≡ b → marks w (s ∷ seats) ≡ (if b then 1 else 0) + marks w seats
more_marks w s seats b e = sum_by-cons (λ (s : SeatOf). further_parts w s.number) s seats ∙ ap (λ (b : Bool). (if b then 1 else 0) + marks w seats) e

more_held : (w : ℕ) (s : SeatOf) (seats : List SeatOf) (b : Bool) → (s.number == w) ≡ b → held w (s ∷ seats) ≡ held_with b s.book (held w seats)
more_held w s seats b e =
    totals_parts _ _ _ _ _ _ _ _
    (sum_by-cons (λ (s : SeatOf). (further_at w s).book.events) s seats)
    (sum_by-cons (λ (s : SeatOf). (further_at w s).book.given) s seats)
    (sum_by-cons (λ (s : SeatOf). (further_at w s).book.commits) s seats)
    (sum_by-cons (λ (s : SeatOf). (further_at w s).book.committed) s seats)
    ∙ ap (λ b. held_with b s.book (held w seats)) e

none_with : (w : ℕ) (s : SeatOf) (seats : List SeatOf) → marks w (s ∷ seats) ≡ 0 → (marks w seats ≡ 0 → held w seats ≡ nothing) →
    (b : Bool) → (s.number == w) ≡ b → held w (s ∷ seats) ≡ nothing
none_with w s seats none rest true e =
    let f : marks w (s ∷ seats) ≡ 1 + marks w seats = more_marks w s seats true e in absurd (omega (arith, f, none))
none_with w s seats none rest false e =
    let f : marks w (s ∷ seats) ≡ 0 + marks w seats = more_marks w s seats false e in
    let left : marks w seats ≡ 0 = omega (arith, f, none) in
    more_held w s seats false e ∙ ap (λ t. held_with false s.book t) (rest left)

none_held : (w : ℕ) (seats : List SeatOf) → marks w seats ≡ 0 → held w seats ≡ nothing
none_held w [] none = refl
none_held w (s ∷ seats) none = none_with w s seats none (none_held w seats) (s.number == w) refl

with_none : (t : Totals) → held_with true t nothing ≡ t
with_none t = totals_parts _ _ _ _ _ _ _ _ (omega arith) (omega arith) (omega arith) (omega arith)

with_rest : (t u : Totals) → held_with false t u ≡ u
with_rest t u = totals_parts _ _ _ _ _ _ _ _ (omega arith) (omega arith) (omega arith) (omega arith)

book_with : (w : ℕ) (s : SeatOf) (seats : List SeatOf) → marks w (s ∷ seats) ≡ 1 → (marks w seats ≡ 1 → book_of w seats ≡ Some (held w seats)) →
    (b : Bool) → (s.number == w) ≡ b → book_of w (s ∷ seats) ≡ Some (held w (s ∷ seats))
book_with w s seats once rest true e =
    let f : marks w (s ∷ seats) ≡ 1 + marks w seats = more_marks w s seats true e in
    let none : marks w seats ≡ 0 = omega (arith, f, once) in
    let h : held w (s ∷ seats) ≡ s.book =
    more_held w s seats true e ∙ ap (λ t. held_with true s.book t) (none_held w seats none) ∙ with_none s.book in
    ap (λ (b : Bool). if b then Some s.book else book_of w seats) e ∙ ap (λ t. Some t) (sym h)
book_with w s seats once rest false e =
    let f : marks w (s ∷ seats) ≡ 0 + marks w seats = more_marks w s seats false e in
    let one : marks w seats ≡ 1 = omega (arith, f, once) in
    let h : held w (s ∷ seats) ≡ held w seats = more_held w s seats false e ∙ with_rest s.book (held w seats) in
    ap (λ (b : Bool). if b then Some s.book else book_of w seats) e ∙ rest one ∙ ap (λ t. Some t) (sym h)

-- where one seat has the number, what it has in the further ledgers is its book
pub held_is_book : (w : ℕ) (seats : List SeatOf) → marks w seats ≡ 1 → book_of w seats ≡ Some (held w seats)
held_is_book w [] once = absurd (omega (arith, once))
held_is_book w (s ∷ seats) once = book_with w s seats once (held_is_book w seats) (s.number == w) refl

pub same_totals : (t u : Totals) → t.events ≡ u.events → t.given ≡ u.given → t.commits ≡ u.commits → t.committed ≡ u.committed → t ≡ u
same_totals t u a b c d = totals_parts t.events u.events t.given u.given t.commits u.commits t.committed u.committed a b c d
