-- An event adds to the log itself, with the seat from which it came, and no other event.
use Rattle.std.proofs.Common.{◌≡◌, ◌⊎◌, ℕ, zero, suc, true, false, Bool, List, [], ◌∷◌, ◌++◌, Option, Some, None, refl, sym, ap, subst, inl, inr}
use Rattle.std.specs.Prelude.{if◌then◌else◌, slice_get}
use Rattle.segment.specs.Jobs.{Done}
use Rattle.event_log.specs.Entries.{Entry, Event, In, Refused}
use Rattle.event_log.specs.Entries.{Limit, Refusal}
use Rattle.event_log.specs.Legal.{has_event, opening}
use Rattle.protocol.specs.Answers.{answer, decided, given_out, logged, takes}
use Rattle.protocol.specs.Answers as answers
use Rattle.protocol.specs.Events.{happens}
use Rattle.protocol.specs.Jobs.{CommitInput}
use Rattle.protocol.specs.Refusals.{is_within_limits, refusal}
use Rattle.protocol.specs.Cluster.{ClusterState}
use Rattle.protocol_owed.proofs.Counting.{happens-counted, no_event}
use Rattle.run_paths.specs.of_protocol_board.Cores.{RunState, Reply, Answers, Follows}
use Rattle.seat_books.specs.Seats.{IsSeat}
use Rattle.seats.specs.Seated.{AreFrom, StaysFrom}

split : (xs ys : List Entry) (k : ℕ) (x : Entry) → slice_get (xs ++ ys) k ≡ Some x →
    ((i : ℕ) × (slice_get xs i ≡ Some x)) ⊎ ((i : ℕ) × (slice_get ys i ≡ Some x))
split [] ys k x h = inr (k, h)
split (y ∷ xs) ys zero x h = inl (0, h)
split (y ∷ xs) ys (suc k) x h = elim (split xs ys k x h) [ inl q ↦ inl (suc q.0, q.1) | inr q ↦ inr q ]

-- each event of the log came from a seat of that kind
abbrev AreOf : (ℕ → Type 0) → List Entry → Type 0
AreOf P log = (k : ℕ) (e : Event) (seat : ℕ) → slice_get log k ≡ Some (In e seat) → P seat

both : (P : ℕ → Type 0) (xs ys : List Entry) → AreOf P xs → AreOf P ys → AreOf P (xs ++ ys)
both P xs ys h k i e seat at = elim (split xs ys i (In e seat) at) [ inl q ↦ h q.0 e seat q.1 | inr q ↦ k q.0 e seat q.1 ]

none_in : (es : List Entry) → has_event es ≡ false → (k : ℕ) (e : Event) (seat : ℕ) → slice_get es k ≡ Some (In e seat) → ⊥
none_in [] h k e seat at = cc
none_in (In f from ∷ es) h k e seat at = cc
none_in (x ∷ es) h zero e seat at = cc
none_in (x ∷ es) h (suc k) e seat at = none_in es h k e seat at

none_from : (P : ℕ → Type 0) (es : List Entry) → has_event es ≡ false → AreOf P es
none_from P es h k e seat at = absurd (none_in es h k e seat at)

abbrev seat_in : Option Entry → ℕ
seat_in (Some (In e seat)) = seat
seat_in x = 0

-- an event, and what it adds behind itself
one_from : (P : ℕ → Type 0) (e : Event) (seat : ℕ) (es : List Entry) → P seat → has_event es ≡ false → AreOf P (In e seat ∷ es)
one_from P e seat es h none zero f from at = subst P (ap seat_in at) h
one_from P e seat es h none (suc k) f from at = none_from P es none k f from at

limited : (P : ℕ → Type 0) (c : ClusterState) (e : Event) (seat : ℕ) (handed : CommitInput) → P seat → (b : Bool) →
    AreOf P (logged e seat (if b then takes (happens c e handed) (given_out c e) else answers.Refuses Limit))
limited P c e seat handed h true =
    one_from P e seat (happens c e handed).out.entries h (no_event (happens c e handed).out.entries (happens-counted c e handed).quiet)
limited P c e seat handed h false = one_from P e seat (Refused Limit ∷ []) h refl

by_refusal : (P : ℕ → Type 0) (c : ClusterState) (e : Event) (seat : ℕ) (handed : CommitInput) → P seat → (o : Option Refusal) →
    AreOf P (logged e seat (decided c e handed o))
by_refusal P c e seat handed h None = limited P c e seat handed h (is_within_limits (happens c e handed).whole)
by_refusal P c e seat handed h (Some code) = one_from P e seat (Refused code ∷ []) h refl

-- where the events so far came from seats of that kind, so they do behind one from such a seat
pub behind_answers : (P : ℕ → Type 0) (before after : RunState) (e : Event) (seat : ℕ) (done : Option Done) (told : Reply) →
    Answers before e seat done after told → P seat → AreOf P before.log → AreOf P after.log
behind_answers P before after e seat done told answers h from = by_halt before.is_halted refl
  where
    follows : Follows before e seat done after told → AreOf P after.log
    follows (inl out) = subst (AreOf P) (sym out.same) from
    follows (inr (handed, is_handed, is)) =
        subst (AreOf P) (sym is.log)
        (both P before.log (logged e seat (answer before.whole e handed)) from
        (by_refusal P before.whole e seat handed h (refusal before.whole e handed)))

    by_halt : (b : Bool) → before.is_halted ≡ b → AreOf P after.log
    by_halt true f = subst (AreOf P) (sym (ap (λ (r : RunState). r.log) (answers.halted f).0)) from
    by_halt false f = follows (answers.follows f)

-- a run that begins
pub none_of_opening : (P : ℕ → Type 0) (log : List Entry) → log ≡ opening → AreOf P log
none_of_opening P log h = subst (AreOf P) (sym h) (none_from P opening refl)

pub stays_from : (before after : RunState) (e : Event) (seat : ℕ) (done : Option Done) (told : Reply) → Answers before e seat done after told →
    StaysFrom seat before.log after.log
stays_from before after e seat done told answers n h from = behind_answers (IsSeat n) before after e seat done told answers h from

pub none_came_yet : (log : List Entry) → log ≡ opening → (n : ℕ) → AreFrom n log
none_came_yet log h n = none_of_opening (IsSeat n) log h
