-- What one more entry changes in the words of a log.
use Rattle.std.proofs.Common.{◌≡◌, ℕ, ◌+◌, true, List, [], ◌∷◌, ◌++◌, ap, ◌∙◌, arith, append-nil}
use Rattle.std.specs.Prelude.{if◌then◌else◌, ◌==◌}
use Rattle.std.specs.List.{flat_map}
use Rattle.std.proofs.lemmas.List.Concat.{flat_map-append}
use Rattle.std.proofs.lemmas.Bool.Decides.{nat_tests}
use Rattle.script_laws.specs.of_meaning.Values.{Value, Outcome, results_of, Id}
use Rattle.script_laws.specs.of_meaning.Births.{same_id, Bearing}
use Rattle.script_laws.proofs.of_meaning.BirthLaws.{same_id-true, same_id-refl}
use Rattle.event_log.specs.Entries.{Attempt, Entry}
use Rattle.event_log.specs.Words.{same_attempt, main_bearing, born_in, births, next_serial, Lack, Received, got_in, answers_of, answered_in, answered_of, printed_in, printed_by, ended_in, ends_of, faulted_in, faults_of}

pub word_push : {X : Type 0} (f : Entry → List X) (log : List Entry) (e : Entry) → flat_map f (log ++ e ∷ []) ≡ flat_map f log ++ f e
word_push f log e = flat_map-append f log (e ∷ []) ∙ ap (λ ys. flat_map f log ++ ys) (append-nil (f e))

-- what an attempt did, by the log
pub record Deeds : Type 0 where
  pub answers : List Outcome
  pub answered : List Received
  pub prints : List Value
  pub ends : List (List Outcome)
  pub faults : List Lack

abbrev pub deeds : Attempt → List Entry → Deeds
deeds a log = record { answers = answers_of a log; answered = answered_of a log; prints = printed_by a log; ends = ends_of a log; faults = faults_of a log }

abbrev pub deeds_in : Attempt → Entry → Deeds
deeds_in a e = record { answers = got_in a e; answered = answered_in a e; prints = printed_in a e; ends = ended_in a e; faults = faulted_in a e }

abbrev pub join : Deeds → Deeds → Deeds
join d x = record { answers = d.answers ++ x.answers; answered = d.answered ++ x.answered; prints = d.prints ++ x.prints; ends = d.ends ++ x.ends; faults = d.faults ++ x.faults }

abbrev pub nothing_done : Deeds
nothing_done = record { answers = []; answered = []; prints = []; ends = []; faults = [] }

pub deeds_parts : (a a' : List Outcome) (b b' : List Received) (c c' : List Value) (d d' : List (List Outcome)) (e e' : List Lack) → a ≡ a' → b ≡ b' → c ≡ c' → d ≡ d' → e ≡ e' →
    ◌≡◌ {A = Deeds} (record { answers = a; answered = b; prints = c; ends = d; faults = e }) (record { answers = a'; answered = b'; prints = c'; ends = d'; faults = e' })
deeds_parts a a' b b' c c' d d' e e' ea eb ec ed ee = cc

pub deeds_push : (a : Attempt) (log : List Entry) (e : Entry) → deeds a (log ++ e ∷ []) ≡ join (deeds a log) (deeds_in a e)
deeds_push a log e = deeds_parts _ _ _ _ _ _ _ _ _ _ (word_push (got_in a) log e) (word_push (answered_in a) log e) (word_push (printed_in a) log e) (word_push (ended_in a) log e) (word_push (faulted_in a) log e)

pub join_nothing : (d : Deeds) → join d nothing_done ≡ d
join_nothing d = deeds_parts _ _ _ _ _ _ _ _ _ _ (append-nil d.answers) (append-nil d.answered) (append-nil d.prints) (append-nil d.ends) (append-nil d.faults)

pub births_push : (log : List Entry) (e : Entry) → births (log ++ e ∷ []) ≡ births log ++ born_in e
births_push log e = ap (λ xs. main_bearing ∷ xs) (word_push born_in log e)

attempt_parts : (o p : Id) (m n : ℕ) → o ≡ p → m ≡ n → ◌≡◌ {A = Attempt} (record { object = o; number = m }) (record { object = p; number = n })
attempt_parts o p m n e f = cc

pub same_attempt-true : (a b : Attempt) → same_attempt a b ≡ true → a ≡ b
unfolding same_attempt
same_attempt-true a b h =
    let objects : same_id a.object b.object ≡ true = grind (arith, nat_tests) in
    let numbers : a.number ≡ b.number = grind (arith, nat_tests) in
    attempt_parts a.object b.object a.number b.number (same_id-true a.object b.object objects) numbers

pub same_attempt-refl : (a : Attempt) → same_attempt a a ≡ true
unfolding same_attempt
same_attempt-refl a = grind (arith, nat_tests, same_id-refl a.object)

pub next_serial-push : (w : ℕ) (xs : List Bearing) (x : Bearing) → next_serial w (xs ++ x ∷ []) ≡ next_serial w xs + (if x.object.owner == w then results_of x.birth else 0)
next_serial-push w [] x = omega arith
next_serial-push w (y ∷ xs) x = let e = next_serial-push w xs x in omega arith
