-- Whether a log says something of an attempt.
use Rattle.std.proofs.Common.{◌≡◌, ℕ, Bool, true, false, if◌then◌else◌, ◌&&◌, ◌||◌, ◌+◌, ◌<◌, ◌==◌, List, [], ◌∷◌, ◌++◌, length, take, drop, get_or, refl, sym, ap, ◌∙◌, append-nil, add-one, arith}
use Rattle.std.specs.Prelude.{Option, Result, Ok, Err, OnErr, OnOk}
use Rattle.std.specs.List.{flat_map}
use Rattle.std.proofs.Math.Seq.{take-suc}
use Rattle.std.proofs.lemmas.List.{append_assoc, drop_more}
use Rattle.std.proofs.lemmas.Grind.{flat_map-append}
use Rattle.std.proofs.lemmas.Bool.Decides.{nat_tests}
use Rattle.meaning.specs.Births.{same_id}
use Rattle.event_log.specs.Entries.{Attempt, Begun, Entry, Event, main_attempt}
use Rattle.event_log.specs.Words.{same_attempt, accepted_in, ended_in, faulted_in}
use Rattle.report_lines.specs.Attempts.{any, attempt_in, attempt_line, AreStatesOf}
use Rattle.report_lines.specs.Refusals.{last_in, refused_in, refused_lines}
use Rattle.report_lines.specs.Sets.{has}
use Rattle.report_lines.specs.declared.attempts.AttemptStates.{AttemptStates}

any-append : {A : Type 0} (xs ys : List A) → any (xs ++ ys) ≡ any xs || any ys
any-append [] ys = refl
any-append (x ∷ xs) ys = refl

-- what the entries say, with one more entry
said_more : {A : Type 0} (f : Entry → List A) (log : List Entry) (k : ℕ) (x d : Entry) → k < length log → get_or log k d ≡ x → flat_map f (take (k + 1) log) ≡ flat_map f (take k log) ++ f x
said_more f log k x d h g =
    let before : List Entry = take k log in
    let taken : take (k + 1) log ≡ before ++ x ∷ [] = ap (λ j. take j log) (add-one k) ∙ take-suc log k d h ∙ ap (λ y. before ++ y ∷ []) g in
    ap (flat_map f) taken ∙ flat_map-append f before (x ∷ []) ∙ ap (λ t. flat_map f before ++ t) (append-nil (f x))

-- whether something is said, with one more entry
pub any_more : {A : Type 0} (f : Entry → List A) (log : List Entry) (k : ℕ) (x d : Entry) → k < length log → get_or log k d ≡ x → any (flat_map f (take (k + 1) log)) ≡ any (flat_map f (take k log)) || any (f x)
any_more f log k x d h g = ap any (said_more f log k x d h g) ∙ any-append (flat_map f (take k log)) (f x)

-- a text with the lines of one more entry
pub text_more : (f : Entry → List ℕ) (log : List Entry) (k : ℕ) (x : Entry) (start old new : List ℕ) → k < length log → get_or log k x ≡ x →
    old ≡ start ++ flat_map f (take k log) → new ≡ old ++ f x → new ≡ start ++ flat_map f (take (k + 1) log)
text_more f log k x start old new h g o n =
    n ∙ ap (λ t. t ++ f x) o ∙ append_assoc start (flat_map f (take k log)) (f x) ∙ ap (λ t. start ++ t) (sym (said_more f log k x x h g))

eqb-sym : (m n : ℕ) → (m == n) ≡ (n == m)
eqb-sym m n = grind (arith, nat_tests)

same-sym : (a b : Attempt) → same_attempt a b ≡ same_attempt b a
unfolding same_attempt same_id
same-sym a b =
    ap (λ t. (t && (a.object.serial == b.object.serial)) && (a.number == b.number)) (eqb-sym a.object.owner b.object.owner)
    ∙ ap (λ t. ((b.object.owner == a.object.owner) && t) && (a.number == b.number)) (eqb-sym a.object.serial b.object.serial)
    ∙ ap (λ t. ((b.object.owner == a.object.owner) && (b.object.serial == a.object.serial)) && t) (eqb-sym a.number b.number)

any-if : {A : Type 0} (t : Bool) (x : A) → any (if t then x ∷ [] else []) ≡ t
any-if true x = refl
any-if false x = refl

-- what is said of b is said of a where they are the same
pub said : {A : Type 0} (a b : Attempt) (x : A) → same_attempt a b ≡ any (if same_attempt b a then x ∷ [] else [])
said a b x = same-sym a b ∙ sym (any-if (same_attempt b a) x)

-- what follows of what holds after an answer holds after it
pub on_ok : {X E : Type 0} {P Q : Type 0} (r : Result X E) → (P → Q) → OnOk r P → OnOk r Q
on_ok (Ok x) f p = f p
on_ok (Err e) f p = p

-- and what follows of what holds after an error
pub on_err : {X E : Type 0} {P Q : Type 0} (r : Result X E) → (P → Q) → OnErr r P → OnErr r Q
on_err (Ok x) f p = p
on_err (Err e) f p = f p

-- what is noted of each entry adds up to what the log says
pub states_more : (old new : AttemptStates) (log : List Entry) (k : ℕ) (x : Entry) → k < length log → get_or log k x ≡ x → AreStatesOf old (take k log) →
    ((a : Attempt) → has new.accepted a ≡ (has old.accepted a || any (accepted_in a x))) →
    ((a : Attempt) → has new.ended a ≡ (has old.ended a || any (ended_in a x))) →
    ((a : Attempt) → has new.faulted a ≡ (has old.faulted a || any (faulted_in a x))) →
    AreStatesOf new (take (k + 1) log)
states_more old new log k x h g s accepted ended faulted = record {
  accepted = λ a. accepted a ∙ ap (λ t. t || any (accepted_in a x)) (s.accepted a) ∙ sym (any_more (accepted_in a) log k x x h g);
  ended = λ a. ended a ∙ ap (λ t. t || any (ended_in a x)) (s.ended a) ∙ sym (any_more (ended_in a) log k x x h g);
  faulted = λ a. faulted a ∙ ap (λ t. t || any (faulted_in a x)) (s.faulted a) ∙ sym (any_more (faulted_in a) log k x x h g);
}

-- no refusal stands in what was passed over, with one more entry
pub none_refused_more : (old new : Bool) (log : List Entry) (k : ℕ) (x : Entry) → k < length log → get_or log k x ≡ x →
    (old ≡ false → ((last : Option Event) → refused_lines last (drop k log) ≡ []) → (last : Option Event) → refused_lines last log ≡ []) →
    (new ≡ false → old ≡ false) → (new ≡ false → (last : Option Event) → refused_in last x ≡ []) →
    new ≡ false → ((last : Option Event) → refused_lines last (drop (k + 1) log) ≡ []) → (last : Option Event) → refused_lines last log ≡ []
none_refused_more old new log k x h g before was none n rest =
    let here : drop k log ≡ x ∷ drop (k + 1) log = drop_more log k x h ∙ ap (λ y. y ∷ drop (k + 1) log) g in
    before (was n) (λ last. ap (refused_lines last) here ∙ ap (λ t. t ++ refused_lines (last_in last x) (drop (k + 1) log)) (none n last) ∙ rest (last_in last x))

-- the line of an attempt that isn't main's
pub line_is : (log : List Entry) (a : Attempt) (w : ℕ) (x : Entry) → x ≡ Begun a w → same_attempt a main_attempt ≡ false → attempt_line log a w ≡ attempt_in log x
line_is log a w x h other = sym (ap (attempt_in log) h ∙ ap (λ t. if t then [] else attempt_line log a w) other)
