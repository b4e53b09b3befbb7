-- What further entries leave of the events that were accepted.
use Rattle.std.proofs.Common.{◌≡◌, ℕ, zero, suc, Bool, true, false, List, [], ◌∷◌, ◌++◌, Some, refl, sym, ap, ◌∙◌, subst, append-nil, append_assoc}
use Rattle.std.specs.Prelude.{◌||◌, if◌then◌else◌, slice_get}
use Rattle.std.specs.List.{flat_map, list_any}
use Rattle.std.proofs.lemmas.List.Concat.{flat_map-append}
use Rattle.log_entries.proofs.of_sequence.Places.{slice_get-append}
use Rattle.event_log.specs.Entries.{Event, Entry, In, Refused}
use Rattle.event_log.specs.Entries.{Refusal}
use Rattle.event_log.specs.Events.{refused_next, accepted_events, from_one, claim_in, claims, commit_in, commits}
use Rattle.event_log.specs.Legal.{has_event}

unrefused_more : (log es : List Entry) → refused_next es ≡ false → refused_next (log ++ es) ≡ refused_next log
unrefused_more [] es h = h
unrefused_more (Refused code ∷ log) es h = refl
unrefused_more (x ∷ log) es h = refl

-- further entries that don't begin with a refusal leave the events as accepted
pub accepted-append : (log es : List Entry) → refused_next es ≡ false → accepted_events (log ++ es) ≡ accepted_events log ++ accepted_events es
unfolding accepted_events
accepted-append [] es h = refl
accepted-append (In e seat ∷ log) es h =
    let first = λ (b : Bool). if b then [] else e ∷ [] in
    ap (λ b. first b ++ accepted_events (log ++ es)) (unrefused_more log es h)
    ∙ ap (λ xs. first (refused_next log) ++ xs) (accepted-append log es h)
    ∙ sym (append_assoc (first (refused_next log)) (accepted_events log) (accepted_events es))
accepted-append (x ∷ log) es h = accepted-append log es h

pub accepted_of_none : (es : List Entry) → has_event es ≡ false → accepted_events es ≡ []
unfolding accepted_events
accepted_of_none [] h = refl
accepted_of_none (In e seat ∷ es) h = absurd (cc)
accepted_of_none (x ∷ es) h = accepted_of_none es h

-- one event with its entries, the first of which may be its refusal
pub accepted-event : (log : List Entry) (e : Event) (seat : ℕ) (es : List Entry) → has_event es ≡ false → accepted_events (log ++ In e seat ∷ es) ≡ accepted_events log ++ (if refused_next es then [] else e ∷ [])
unfolding accepted_events
accepted-event log e seat es h =
    accepted-append log (In e seat ∷ es) refl
    ∙ ap (λ xs. accepted_events log ++ ((if refused_next es then [] else e ∷ []) ++ xs)) (accepted_of_none es h)
    ∙ ap (λ xs. accepted_events log ++ xs) (append-nil (if refused_next es then [] else e ∷ []))

or_more : (b c d : Bool) → (c ≡ true → d ≡ true) → (b || c) ≡ true → (b || d) ≡ true
or_more true c d f h = refl
or_more false c d f h = f h

pub list_any-more : {X : Type 0} (p : X → Bool) (xs ys : List X) → list_any p xs ≡ true → list_any p (xs ++ ys) ≡ true
list_any-more p [] ys h = absurd (cc)
list_any-more p (x ∷ xs) ys h = or_more (p x) (list_any p xs) (list_any p (xs ++ ys)) (list_any-more p xs ys) h

-- what one of the accepted events does stays done
pub any_accepted-more : (p : Event → Bool) (log es : List Entry) → refused_next es ≡ false → list_any p (accepted_events log) ≡ true → list_any p (accepted_events (log ++ es)) ≡ true
any_accepted-more p log es h k = subst (λ xs. list_any p xs ≡ true) (sym (accepted-append log es h)) (list_any-more p (accepted_events log) (accepted_events es) k)

-- a word of the accepted events
pub accepted_word-more : {X : Type 0} (f : Event → List X) (log es : List Entry) → refused_next es ≡ false → (k : ℕ) (x : X) →
    slice_get (flat_map f (accepted_events log)) k ≡ Some x → slice_get (flat_map f (accepted_events (log ++ es))) k ≡ Some x
accepted_word-more f log es h k x e =
    subst (λ xs. slice_get xs k ≡ Some x) (sym (ap (λ xs. flat_map f xs) (accepted-append log es h) ∙ flat_map-append f (accepted_events log) (accepted_events es)))
    (slice_get-append (flat_map f (accepted_events log)) (flat_map f (accepted_events es)) k x e)

-- a word of the entries
pub word-more : {X : Type 0} (f : Entry → List X) (log es : List Entry) (k : ℕ) (x : X) → slice_get (flat_map f log) k ≡ Some x → slice_get (flat_map f (log ++ es)) k ≡ Some x
word-more f log es k x e = subst (λ xs. slice_get xs k ≡ Some x) (sym (flat_map-append f log es)) (slice_get-append (flat_map f log) (flat_map f es) k x e)

pub from_one-more : {X : Type 0} (xs ys : List X) (j : ℕ) (x : X) → from_one xs j ≡ Some x → from_one (xs ++ ys) j ≡ Some x
from_one-more xs ys zero x e = absurd (cc)
from_one-more xs ys (suc k) x e = slice_get-append xs ys k x e

-- ---- jobs behind an accepted event

word_of_event : {X : Type 0} (f : Event → List X) (log : List Entry) (e : Event) (seat : ℕ) (es : List Entry) → has_event es ≡ false → refused_next es ≡ false →
    flat_map f (accepted_events (log ++ In e seat ∷ es)) ≡ flat_map f (accepted_events log) ++ f e
word_of_event f log e seat es h r =
    ap (λ xs. flat_map f xs) (accepted-event log e seat es h)
    ∙ ap (λ b. flat_map f (accepted_events log ++ (if b then [] else e ∷ []))) r
    ∙ flat_map-append f (accepted_events log) (e ∷ [])
    ∙ ap (λ xs. flat_map f (accepted_events log) ++ xs) (append-nil (f e))

-- an accepted event adds its own to the claims and to the commits
pub claims-event : (log : List Entry) (e : Event) (seat : ℕ) (es : List Entry) → has_event es ≡ false → refused_next es ≡ false → claims (log ++ In e seat ∷ es) ≡ claims log ++ claim_in e
claims-event log e seat es h r = word_of_event claim_in log e seat es h r

pub commits-event : (log : List Entry) (e : Event) (seat : ℕ) (es : List Entry) → has_event es ≡ false → refused_next es ≡ false → commits (log ++ In e seat ∷ es) ≡ commits log ++ commit_in e
commits-event log e seat es h r = word_of_event commit_in log e seat es h r

-- a refused event adds none
pub accepted-refused : (log : List Entry) (e : Event) (seat : ℕ) (code : Refusal) → accepted_events (log ++ In e seat ∷ Refused code ∷ []) ≡ accepted_events log
accepted-refused log e seat code = accepted-event log e seat (Refused code ∷ []) refl ∙ append-nil (accepted_events log)
