-- The totals of a seat are sums over the events that came from it.
use Rattle.std.proofs.Common.{◌≡◌, ℕ, ◌+◌, Bool, true, false, List, [], ◌∷◌, ◌++◌, length, refl, sym, ap, ◌∙◌, arith, append-nil, append_assoc, length-append}
use Rattle.std.specs.Prelude.{◌==◌, if◌then◌else◌}
use Rattle.std.specs.List.{flat_map}
use Rattle.std.proofs.lemmas.List.Concat.{flat_map-append}
use Rattle.event_log.specs.Entries.{Event, Claim, Commit, Entry, In, Refused}
use Rattle.event_log.specs.Events.{refused_next, accepted_events, claim_in, claims, commit_in}
use Rattle.event_log.specs.Legal.{has_event, opening}
use Rattle.event_log.specs.Books.{Totals, sum}
use Rattle.event_log.specs.Laws.{plus, nothing, answered_totals, event_totals}
use Rattle.books.specs.SeatTotals.{Arrival, arrival, arrivals, came_from, claim_seat, claim_seats, commit_from, commits_from, numbers_to, seat_totals}
use Rattle.books.specs.Laws.{from_seat, LawOfSeatTotals}

-- ---- the accepted events, behind one event more

unrefused_more : (log es : List Entry) → refused_next es ≡ false → refused_next (log ++ es) ≡ refused_next log
unrefused_more [] es h = h
unrefused_more (Refused code ∷ log) es h = refl
unrefused_more (x ∷ log) es h = refl

arrivals-append : (log es : List Entry) → refused_next es ≡ false → arrivals (log ++ es) ≡ arrivals log ++ arrivals es
unfolding arrivals
arrivals-append [] es h = refl
arrivals-append (In e seat ∷ log) es h =
    let first = λ (b : Bool). if b then [] else arrival e seat ∷ [] in
    ap (λ b. first b ++ arrivals (log ++ es)) (unrefused_more log es h)
    ∙ ap (λ xs. first (refused_next log) ++ xs) (arrivals-append log es h)
    ∙ sym (append_assoc (first (refused_next log)) (arrivals log) (arrivals es))
arrivals-append (x ∷ log) es h = arrivals-append log es h

no_arrivals : (es : List Entry) → has_event es ≡ false → arrivals es ≡ []
unfolding arrivals
no_arrivals [] h = refl
no_arrivals (In e seat ∷ es) h = absurd (cc)
no_arrivals (x ∷ es) h = no_arrivals es h

-- the one event, if it isn't refused
abbrev taken : Bool → Event → ℕ → List Arrival
taken refused e s = if refused then [] else arrival e s ∷ []

arrivals-event : (log : List Entry) (e : Event) (s : ℕ) (es : List Entry) → has_event es ≡ false →
    arrivals (log ++ In e s ∷ es) ≡ arrivals log ++ taken (refused_next es) e s
unfolding arrivals
arrivals-event log e s es h =
    arrivals-append log (In e s ∷ es) refl
    ∙ ap (λ xs. arrivals log ++ (taken (refused_next es) e s ++ xs)) (no_arrivals es h)
    ∙ ap (λ xs. arrivals log ++ xs) (append-nil (taken (refused_next es) e s))

word-event : {X : Type 0} (f : Arrival → List X) (log : List Entry) (e : Event) (s : ℕ) (es : List Entry) → has_event es ≡ false →
    flat_map f (arrivals (log ++ In e s ∷ es)) ≡ flat_map f (arrivals log) ++ flat_map f (taken (refused_next es) e s)
word-event f log e s es h = ap (λ xs. flat_map f xs) (arrivals-event log e s es h) ∙ flat_map-append f (arrivals log) (taken (refused_next es) e s)

none_came : (seat : ℕ) (es : List Entry) → has_event es ≡ false → flat_map (came_from seat) es ≡ []
none_came seat [] h = refl
none_came seat (In e s ∷ es) h = absurd (cc)
none_came seat (x ∷ es) h = none_came seat es h

came-event : (seat : ℕ) (log : List Entry) (e : Event) (s : ℕ) (es : List Entry) → has_event es ≡ false →
    flat_map (came_from seat) (log ++ In e s ∷ es) ≡ flat_map (came_from seat) log ++ (if s == seat then e ∷ [] else [])
came-event seat log e s es h =
    flat_map-append (came_from seat) log (In e s ∷ es)
    ∙ ap (λ xs. flat_map (came_from seat) log ++ ((if s == seat then e ∷ [] else []) ++ xs)) (none_came seat es h)
    ∙ ap (λ xs. flat_map (came_from seat) log ++ xs) (append-nil (if s == seat then e ∷ [] else []))

-- ---- as many claims as there are seats of them

one_claim : (b : Bool) (e : Event) (s : ℕ) → length (flat_map claim_seat (taken b e s)) ≡ length (flat_map claim_in (if b then [] else e ∷ []))
one_claim true e s = refl
one_claim false (Claim w) s = refl
one_claim false e s = refl

same_claims : (log : List Entry) → length (claim_seats log) ≡ length (claims log)
unfolding arrivals accepted_events
same_claims [] = refl
same_claims (In e s ∷ log) =
    let b = refused_next log in
    let here = one_claim b e s in
    let rest = same_claims log in
    let seats = ap length (flat_map-append claim_seat (taken b e s) (arrivals log)) ∙ length-append (flat_map claim_seat (taken b e s)) (claim_seats log) in
    let first : List Event = if b then [] else e ∷ [] in
    let workers = ap length (flat_map-append claim_in first (accepted_events log)) ∙ length-append (flat_map claim_in first) (claims log) in
    omega (arith, here, rest, seats, workers)
same_claims (x ∷ log) = same_claims log

-- ---- sums

pub sum-more : (xs ys : List ℕ) → sum (xs ++ ys) ≡ sum xs + sum ys
sum-more [] ys = omega arith
sum-more (x ∷ xs) ys = let e = sum-more xs ys in omega (arith, e)

numbers-more : (seat n : ℕ) (xs ys : List ℕ) → sum (numbers_to seat n (xs ++ ys)) ≡ sum (numbers_to seat n xs) + sum (numbers_to seat (length xs + n) ys)
numbers-more seat n [] ys =
    let f : length {A = ℕ} [] + n ≡ n = omega arith in
    let g : sum (numbers_to seat (length {A = ℕ} [] + n) ys) ≡ sum (numbers_to seat n ys) = ap (λ m. sum (numbers_to seat m ys)) f in
    omega (arith, g)
numbers-more seat n (x ∷ xs) ys =
    let here : List ℕ = if x == seat then n ∷ [] else [] in
    let e = numbers-more seat (n + 1) xs ys in
    let f : length xs + (n + 1) ≡ length (x ∷ xs) + n = omega arith in
    let g : sum (numbers_to seat (length xs + (n + 1)) ys) ≡ sum (numbers_to seat (length (x ∷ xs) + n) ys) = ap (λ m. sum (numbers_to seat m ys)) f in
    let whole = sum-more here (numbers_to seat (n + 1) (xs ++ ys)) in
    let first = sum-more here (numbers_to seat (n + 1) xs) in
    omega (arith, e, g, whole, first)

totals_parts : (a a' b b' c c' d d' : ℕ) → a ≡ a' → b ≡ b' → c ≡ c' → d ≡ d' →
    ◌≡◌ {A = Totals} (record { events = a; given = b; commits = c; committed = d }) (record { events = a'; given = b'; commits = c'; committed = d' })
totals_parts a a' b b' c c' d d' ea eb ec ed = cc

-- what the accepted event says of the seat's commits, where `here` tells whether it came from the seat
abbrev commits_here : Bool → List Arrival → List ℕ
commits_here here arrived = flat_map (λ (a : Arrival). if here then commit_in a.event else []) arrived

-- the numbers that claims give to the seat, where `here` tells whether they came from it
abbrev numbers_here : Bool → ℕ → List ℕ → List ℕ
numbers_here here n [] = []
numbers_here here n (s ∷ seats) = (if here then n ∷ [] else []) ++ numbers_here here (n + 1) seats

abbrev counted : List Event → List ℕ → List ℕ → Totals
counted xs given js = record { events = length xs; given = sum given; commits = length js; committed = sum js }

-- what one event adds behind so many claims
abbrev answered : Bool → ℕ → Event → Totals
answered refused n e = record (answered_totals refused n e) { events = 1 }

added : (here refused : Bool) (e : Event) (s n : ℕ) →
    counted (if here then e ∷ [] else []) (numbers_here here (n + 1) (flat_map claim_seat (taken refused e s))) (commits_here here (taken refused e s))
    ≡ (if here then answered refused n e else nothing)
added true true e s n = refl
added false true e s n = refl
added true false (Claim w) s n = totals_parts _ _ _ _ _ _ _ _ refl (omega arith) refl refl
added true false (Commit j) s n = totals_parts _ _ _ _ _ _ _ _ refl refl refl (omega arith)
added true false e s n = refl
added false false (Claim w) s n = refl
added false false (Commit j) s n = refl
added false false e s n = refl

same_numbers : (seat n : ℕ) (refused : Bool) (e : Event) (s : ℕ) →
    numbers_to seat n (flat_map claim_seat (taken refused e s)) ≡ numbers_here (s == seat) n (flat_map claim_seat (taken refused e s))
same_numbers seat n true e s = refl
same_numbers seat n false (Claim w) s = refl
same_numbers seat n false e s = refl

same_commits : (seat : ℕ) (refused : Bool) (e : Event) (s : ℕ) → flat_map (commit_from seat) (taken refused e s) ≡ commits_here (s == seat) (taken refused e s)
same_commits seat true e s = refl
same_commits seat false e s = refl

pub seat_totals-event : (seat : ℕ) (log : List Entry) (e : Event) (s : ℕ) (es : List Entry) → has_event es ≡ false →
    seat_totals seat (log ++ In e s ∷ es) ≡ plus (seat_totals seat log) (from_seat seat s (event_totals (length (claims log)) e es))
seat_totals-event seat log e s es h =
    let refused = refused_next es in
    let here : List Event = if s == seat then e ∷ [] else [] in
    let seats = flat_map claim_seat (taken refused e s) in
    let given = numbers_to seat (length (claims log) + 1) seats in
    let js = flat_map (commit_from seat) (taken refused e s) in
    let more : counted here given js ≡ from_seat seat s (event_totals (length (claims log)) e es) =
    ap (λ ns. counted here ns js) (same_numbers seat (length (claims log) + 1) refused e s)
    ∙ ap (λ ns. counted here (numbers_here (s == seat) (length (claims log) + 1) seats) ns) (same_commits seat refused e s)
    ∙ added (s == seat) refused e s (length (claims log)) in
    let came = ap (λ xs. length xs) (came-event seat log e s es h) ∙ length-append (flat_map (came_from seat) log) here in
    let numbers =
    ap (λ xs. sum (numbers_to seat 1 xs)) (word-event claim_seat log e s es h)
    ∙ numbers-more seat 1 (claim_seats log) seats
    ∙ ap (λ n. sum (numbers_to seat 1 (claim_seats log)) + sum (numbers_to seat (n + 1) seats)) (same_claims log) in
    let jobs = word-event (commit_from seat) log e s es h in
    let many = ap (λ xs. length xs) jobs ∙ length-append (commits_from seat log) js in
    let summed = ap sum jobs ∙ sum-more (commits_from seat log) js in
    totals_parts _ _ _ _ _ _ _ _ came numbers many summed ∙ ap (plus (seat_totals seat log)) more

pub no_totals : (seat : ℕ) → seat_totals seat opening ≡ nothing
unfolding arrivals
no_totals seat = refl

pub law_of_seat_totals : LawOfSeatTotals
law_of_seat_totals seat log = record { none = no_totals seat; more = seat_totals-event seat log }
