-- What the watched seat holds, and what another does.
use Rattle.std.proofs.Common.{◌≡◌, ℕ, ◌<◌, Bool, true, false, refl, sym, subst, arith}
use Rattle.std.specs.Prelude.{◌==◌, if◌then◌else◌}
use Rattle.event_log.specs.Books.{Totals}
use Rattle.event_log.specs.Laws.{nothing, plus}
use Rattle.seat_books.specs.Holdings.{holding, with_added}
use Rattle.seat_books.specs.Seats.{further_at, parts_at, seat_at}

part_of : (b : Bool) → 0 < (if b then 1 else 2)
part_of true = omega arith
part_of false = omega arith

pub some_part : (watched number : ℕ) → 0 < parts_at watched number
some_part watched number = part_of (number == watched)

totals_parts : (a a' b b' c c' d d' : ℕ) → a ≡ a' → b ≡ b' → c ≡ c' → d ≡ d' →
    ◌≡◌ {A = Totals} (record { events = a; given = b; commits = c; committed = d }) (record { events = a'; given = b'; commits = c'; committed = d' })
totals_parts a a' b b' c c' d d' ea eb ec ed = cc

pub plus_nothing : (t : Totals) → plus t nothing ≡ t
plus_nothing t = totals_parts _ _ _ _ _ _ _ _ (omega arith) (omega arith) (omega arith) (omega arith)

-- the watched seat counts in its further part what it counts in its book
pub here : (watched number : ℕ) (book more : Totals) → (number == watched) ≡ true →
    with_added more (further_at watched (seat_at number book)) ≡ further_at watched (seat_at number (plus book more))
here watched number book more is =
    let F : Bool → Type 0 = λ b. with_added more (holding (if b then 1 else 0) (if b then book else nothing)) ≡ holding (if b then 1 else 0) (if b then plus book more else nothing) in
    subst F (sym is) refl

-- another counts nothing there
pub elsewhere : (watched number : ℕ) (book more : Totals) → (number == watched) ≡ false → further_at watched (seat_at number book) ≡ further_at watched (seat_at number (plus book more))
elsewhere watched number book more is =
    let F : Bool → Type 0 = λ b. holding (if b then 1 else 0) (if b then book else nothing) ≡ holding (if b then 1 else 0) (if b then plus book more else nothing) in
    subst F (sym is) refl
