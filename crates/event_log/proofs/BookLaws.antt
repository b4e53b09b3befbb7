-- The totals of a log are sums over its events.
use Rattle.std.proofs.Common.{◌≡◌, ℕ, ◌+◌, Bool, true, false, List, [], ◌∷◌, ◌++◌, length, refl, ap, ◌∙◌, arith}
use Rattle.std.specs.Prelude.{if◌then◌else◌}
use Rattle.std.specs.List.{flat_map}
use Rattle.std.proofs.lemmas.List.Concat.{flat_map-append}
use Rattle.event_log.specs.Entries.{Event, Claim, Commit, Entry, In}
use Rattle.event_log.specs.Words.{came_in, events}
use Rattle.event_log.specs.Events.{refused_next, accepted_events, claim_in, claims, commit_in, commits}
use Rattle.event_log.specs.Legal.{has_event}
use Rattle.event_log.specs.Books.{Totals, sum, numbers_from, totals_of}
use Rattle.event_log.specs.Laws.{plus, nothing, answered_totals, event_totals, LawOfTotals}
use Rattle.event_log.proofs.EventLaws.{accepted-event}

sum-more : (xs ys : List ℕ) → sum (xs ++ ys) ≡ sum xs + sum ys
sum-more [] ys = omega arith
sum-more (x ∷ xs) ys = let e = sum-more xs ys in omega (arith, e)

length-more : {X : Type 0} (xs ys : List X) → length (xs ++ ys) ≡ length xs + length ys
length-more [] ys = omega arith
length-more (x ∷ xs) ys = let e = length-more xs ys in omega (arith, e)

given-more : (n : ℕ) (xs ys : List ℕ) → sum (numbers_from n (xs ++ ys)) ≡ sum (numbers_from n xs) + sum (numbers_from (length xs + n) ys)
given-more n [] ys = let f : length {A = ℕ} [] + n ≡ n = omega arith in let g : sum (numbers_from (length {A = ℕ} [] + n) ys) ≡ sum (numbers_from n ys) = ap (λ m. sum (numbers_from m ys)) f in omega (arith, g)
given-more n (x ∷ xs) ys =
    let e = given-more (n + 1) xs ys in
    let f : length xs + (n + 1) ≡ length (x ∷ xs) + n = omega arith in
    let g : sum (numbers_from (length xs + (n + 1)) ys) ≡ sum (numbers_from (length (x ∷ xs) + n) ys) = ap (λ m. sum (numbers_from m ys)) f in
    omega (arith, e, g)

totals_parts : (a a' b b' c c' d d' : ℕ) → a ≡ a' → b ≡ b' → c ≡ c' → d ≡ d' → ◌≡◌ {A = Totals} (record { events = a; given = b; commits = c; committed = d }) (record { events = a'; given = b'; commits = c'; committed = d' })
totals_parts a a' b b' c c' d d' ea eb ec ed = cc

no_events : (es : List Entry) → has_event es ≡ false → events es ≡ []
no_events [] h = refl
no_events (In e seat ∷ es) h = absurd (cc)
no_events (x ∷ es) h = no_events es h

-- what one more event adds to lists of events, of claims and of commits
added : (r : Bool) (e : Event) (xs : List Event) (ws js : List ℕ) →
    ◌≡◌ {A = Totals}
    (record { events = length (xs ++ e ∷ []); given = sum (numbers_from 1 (ws ++ flat_map claim_in (if r then [] else e ∷ []))); commits = length (js ++ flat_map commit_in (if r then [] else e ∷ [])); committed = sum (js ++ flat_map commit_in (if r then [] else e ∷ [])) })
    (plus (record { events = length xs; given = sum (numbers_from 1 ws); commits = length js; committed = sum js }) (record (answered_totals r (length ws) e) { events = 1 }))
added true e xs ws js =
    let a = length-more xs (e ∷ []) in let b = given-more 1 ws [] in let c = length-more js [] in let d = sum-more js [] in
    totals_parts _ _ _ _ _ _ _ _ (omega (arith, a)) (omega (arith, b)) (omega (arith, c)) (omega (arith, d))
added false (Claim w) xs ws js =
    let a = length-more xs (Claim w ∷ []) in let b = given-more 1 ws (w ∷ []) in let c = length-more js [] in let d = sum-more js [] in
    totals_parts _ _ _ _ _ _ _ _ (omega (arith, a)) (omega (arith, b)) (omega (arith, c)) (omega (arith, d))
added false (Commit j) xs ws js =
    let a = length-more xs (Commit j ∷ []) in let b = given-more 1 ws [] in let c = length-more js (j ∷ []) in let d = sum-more js (j ∷ []) in
    totals_parts _ _ _ _ _ _ _ _ (omega (arith, a)) (omega (arith, b)) (omega (arith, c)) (omega (arith, d))
added false e xs ws js =
    let a = length-more xs (e ∷ []) in let b = given-more 1 ws [] in let c = length-more js [] in let d = sum-more js [] in
    totals_parts _ _ _ _ _ _ _ _ (omega (arith, a)) (omega (arith, b)) (omega (arith, c)) (omega (arith, d))

events-event : (log : List Entry) (e : Event) (seat : ℕ) (es : List Entry) → has_event es ≡ false → events (log ++ In e seat ∷ es) ≡ events log ++ e ∷ []
events-event log e seat es h = flat_map-append came_in log (In e seat ∷ es) ∙ ap (λ xs. events log ++ (e ∷ xs)) (no_events es h)

word-event : {X : Type 0} (f : Event → List X) (log : List Entry) (e : Event) (seat : ℕ) (es : List Entry) → has_event es ≡ false →
    flat_map f (accepted_events (log ++ In e seat ∷ es)) ≡ flat_map f (accepted_events log) ++ flat_map f (if refused_next es then [] else e ∷ [])
word-event f log e seat es h = ap (λ xs. flat_map f xs) (accepted-event log e seat es h) ∙ flat_map-append f (accepted_events log) (if refused_next es then [] else e ∷ [])

pub totals-event : (log : List Entry) (e : Event) (seat : ℕ) (es : List Entry) → has_event es ≡ false → totals_of (log ++ In e seat ∷ es) ≡ plus (totals_of log) (event_totals (length (claims log)) e es)
totals-event log e seat es h =
    let ws = word-event claim_in log e seat es h in
    let js = word-event commit_in log e seat es h in
    totals_parts _ _ _ _ _ _ _ _ (ap (λ xs. length xs) (events-event log e seat es h)) (ap (λ xs. sum (numbers_from 1 xs)) ws) (ap (λ xs. length xs) js) (ap (λ xs. sum xs) js)
    ∙ added (refused_next es) e (events log) (claims log) (commits log)

no_totals : totals_of [] ≡ nothing
unfolding accepted_events
no_totals = refl

pub law_of_totals : LawOfTotals
law_of_totals log = record {
  none = no_totals;
  more = totals-event log;
}
