-- The events from outside in a log, behind each event.
use Rattle.std.proofs.Common.{◌≡◌, ℕ, true, false, Bool, List, [], ◌∷◌, ◌++◌, Option, Some, None, refl, sym, ap, ◌∙◌, subst, inl, inr}
use Rattle.std.specs.Prelude.{if◌then◌else◌}
use Rattle.std.proofs.lemmas.List.{append-nil}
use Rattle.std.proofs.lemmas.List.Concat.{flat_map-append}
use Rattle.std.proofs.lemmas.List.Elements.{filter-append}
use Rattle.segment.specs.Jobs.{Done}
use Rattle.event_log.specs.Entries.{Entry, Event, In, Refused}
use Rattle.event_log.specs.Entries.{Limit}
use Rattle.event_log.specs.Legal.{has_event, opening}
use Rattle.event_log.specs.Words.{came_in, events}
use Rattle.log_entries.specs.declared.refusal.Refusal.{Refusal}
use Rattle.log_entries.specs.declared.refusal.Refusal.TheVariants as refusals
use Rattle.protocol.specs.Answers.{Answer, answer, decided, given_out, logged, takes}
use Rattle.protocol.specs.Answers as answers
use Rattle.protocol.specs.Events.{happens}
use Rattle.protocol.specs.Jobs.{CommitInput}
use Rattle.protocol.specs.Refusals.{is_within_limits, refusal}
use Rattle.protocol.specs.Cluster.{ClusterState}
use Rattle.protocol_owed.proofs.Counting.{happens-counted, no_event}
use Rattle.run_paths.specs.of_protocol_board.Cores.{RunState, Reply, Refuses, Answers, Follows}
use Rattle.seats.specs.Ends.{first_events}
use Rattle.seats.specs.Outside.{HasNoOther, KeepsToThem, Passes, is_outside, outside}
use Rattle.seats.specs.Turns.{KeepsOut, TurnState, given_up_by, or_first}
use Rattle.seats.specs.declared.outs.JobOut.{JobOut}
use Rattle.seats.proofs.Passing.{IsAllowed, IsPast, past_of}
use Rattle.seats.proofs.Planned.{past_events, plans_line}

-- ---- the events of the log

no_events : (es : List Entry) → has_event es ≡ false → events es ≡ []
no_events [] h = refl
no_events (In e seat ∷ es) h = absurd (cc)
no_events (x ∷ es) h = no_events es h

one_more : (log : List Entry) (e : Event) (seat : ℕ) (es : List Entry) → has_event es ≡ false → events (log ++ In e seat ∷ es) ≡ events log ++ e ∷ []
one_more log e seat es h = flat_map-append came_in log (In e seat ∷ es) ∙ ap (λ xs. events log ++ (e ∷ xs)) (no_events es h)

limited_more : (log : List Entry) (c : ClusterState) (e : Event) (seat : ℕ) (handed : CommitInput) (b : Bool) →
    events (log ++ logged e seat (if b then takes (happens c e handed) (given_out c e) else answers.Refuses Limit)) ≡ events log ++ e ∷ []
limited_more log c e seat handed true =
    one_more log e seat (happens c e handed).out.entries (no_event (happens c e handed).out.entries (happens-counted c e handed).quiet)
limited_more log c e seat handed false = one_more log e seat (Refused Limit ∷ []) refl

decided_more : (log : List Entry) (c : ClusterState) (e : Event) (seat : ℕ) (handed : CommitInput) (o : Option Refusal) →
    events (log ++ logged e seat (decided c e handed o)) ≡ events log ++ e ∷ []
decided_more log c e seat handed None = limited_more log c e seat handed (is_within_limits (happens c e handed).whole)
decided_more log c e seat handed (Some code) = one_more log e seat (Refused code ∷ []) refl

-- ---- those from outside

outside_more : (xs : List Event) (e : Event) → outside (xs ++ e ∷ []) ≡ outside xs ++ outside (e ∷ [])
outside_more xs e = filter-append is_outside xs (e ∷ [])

-- so much more of the plan is taken as the event is from outside
abbrev IsMore : Bool → List Event → List Event → Event → Type 0
IsMore is_open es es_now e = is_open ≡ false → outside es_now ≡ outside es ++ outside (e ∷ [])

heeded : (is_open : Bool) (es : List Event) (log : List Entry) (told : Reply) → HasNoOther is_open es log → KeepsToThem is_open es log (given_up_by told None)
heeded is_open es log (Refuses refusals.Limit) h = h
heeded is_open es log (Refuses refusals.Halted) h = tt
heeded is_open es log (Refuses refusals.NoMemory) h = tt
heeded is_open es log told h = h

pub first_refused : (is_open : Bool) (es : List Event) (log : List Entry) (g : Option Refusal) → KeepsToThem is_open es log g →
    KeepsToThem is_open es log (or_first g refusals.NoMemory)
first_refused is_open es log None h = tt
first_refused is_open es log (Some x) h = h

-- where it is logged
has_more : (is_open : Bool) (es es_now : List Event) (before : RunState) (log : List Entry) (e : Event) (seat : ℕ) (handed : CommitInput) →
    IsMore is_open es es_now e → log ≡ before.log ++ logged e seat (answer before.whole e handed) → HasNoOther is_open es before.log →
    HasNoOther is_open es_now log
has_more is_open es es_now before log e seat handed more is h =
    let same : events log ≡ events before.log ++ e ∷ [] =
    ap (λ l. events l) is ∙ decided_more before.log before.whole e seat handed (refusal before.whole e handed) in
    λ closed. ap outside same ∙ (outside_more (events before.log) e ∙ (ap (λ xs. xs ++ outside (e ∷ [])) (h closed) ∙ sym (more closed)))

goes_on : (is_open : Bool) (es es_now : List Event) (before after : RunState) (e : Event) (seat : ℕ) (done : Option Done) (told : Reply) →
    IsMore is_open es es_now e → Answers before e seat done after told → HasNoOther is_open es before.log →
    KeepsToThem is_open es_now after.log (given_up_by told None)
goes_on is_open es es_now before after e seat done told more answers h = by_halt before.is_halted refl
  where
    follows : Follows before e seat done after told → KeepsToThem is_open es_now after.log (given_up_by told None)
    follows (inl out) = subst (λ t. KeepsToThem is_open es_now after.log (given_up_by t None)) (sym out.told_so) tt
    follows (inr (handed, is_handed, is)) =
        heeded is_open es_now after.log told (has_more is_open es es_now before after.log e seat handed more is.log h)

    by_halt : (b : Bool) → before.is_halted ≡ b → KeepsToThem is_open es_now after.log (given_up_by told None)
    by_halt true f = subst (λ t. KeepsToThem is_open es_now after.log (given_up_by t None)) (sym (answers.halted f).1) tt
    by_halt false f = follows (answers.follows f)

-- ---- by the lines that are taken

closed_own : (b is_open : Bool) → (b ≡ true → is_open ≡ true) → is_open ≡ false → b ≡ false
closed_own false is_open may closed = refl
closed_own true is_open may closed = sym (may refl) ∙ closed

own_more : (is_open : Bool) (es : List Event) (e : Event) → IsAllowed is_open e → IsMore is_open es es e
own_more is_open es e may closed =
    let own : outside (e ∷ []) ≡ [] = ap (λ (b : Bool). if b then e ∷ [] else []) (closed_own (is_outside e) is_open may closed) in
    sym (ap (λ xs. outside es ++ xs) own ∙ append-nil (outside es))

past_more : (is_open : Bool) (t : TurnState) (e : Event) (taken : ℕ) → IsPast is_open t e taken →
    IsMore is_open (first_events t.taken t.plan) (first_events taken t.plan) e
past_more is_open t e taken (inl (same, may)) =
    subst (λ n. IsMore is_open (first_events t.taken t.plan) (first_events n t.plan) e) (sym same)
    (own_more is_open (first_events t.taken t.plan) e may)
past_more is_open t e taken (inr (same, chosen, free)) = λ closed.
    ap (λ n. outside (first_events n t.plan)) same
    ∙ (ap outside (past_events t.plan t.taken e (plans_line t e chosen)) ∙ outside_more (first_events t.taken t.plan) e)

-- ---- behind an event of a run that was given up: it is the run's own

own_has : (is_open : Bool) (es : List Event) (before after : RunState) (e : Event) (seat : ℕ) (done : Option Done) (told : Reply) → IsAllowed is_open e →
    Answers before e seat done after told → HasNoOther is_open es before.log → HasNoOther is_open es after.log
own_has is_open es before after e seat done told may answers h = by_halt before.is_halted refl
  where
    unlogged : after.log ≡ before.log → HasNoOther is_open es after.log
    unlogged same = subst (λ l. HasNoOther is_open es l) (sym same) h

    follows : Follows before e seat done after told → HasNoOther is_open es after.log
    follows (inl out) = unlogged out.same
    follows (inr (handed, is_handed, is)) = has_more is_open es es before after.log e seat handed (own_more is_open es e may) is.log h

    by_halt : (b : Bool) → before.is_halted ≡ b → HasNoOther is_open es after.log
    by_halt true f = unlogged (ap (λ (r : RunState). r.log) (answers.halted f).0)
    by_halt false f = follows (answers.follows f)

own_keeps : (is_open : Bool) (es : List Event) (before after : RunState) (e : Event) (seat : ℕ) (done : Option Done) (told : Reply) (x : Refusal) →
    IsAllowed is_open e → Answers before e seat done after told → KeepsToThem is_open es before.log (Some x) → KeepsToThem is_open es after.log (Some x)
own_keeps is_open es before after e seat ran told refusals.Limit may answers h = own_has is_open es before after e seat ran told may answers h
own_keeps is_open es before after e seat ran told x may answers h = tt

pub stays_so : (told : Reply) (x : Refusal) → given_up_by told (Some x) ≡ Some x
stays_so (Refuses refusals.Limit) x = refl
stays_so (Refuses refusals.Halted) x = refl
stays_so (Refuses refusals.NoMemory) x = refl
stays_so told x = refl

given_up : (is_open : Bool) (t : TurnState) (after : RunState) (e : Event) (seat : ℕ) (done : Option Done) (told : Reply) (taken : ℕ) (x : Refusal) →
    t.given_up ≡ Some x → IsPast is_open t e taken → Answers t.run e seat done after told →
    KeepsToThem is_open (first_events t.taken t.plan) t.run.log (Some x) → KeepsToThem is_open (first_events taken t.plan) after.log (Some x)
given_up is_open t after e seat ran told taken x g (inl (same, may)) answers h =
    subst (λ n. KeepsToThem is_open (first_events n t.plan) after.log (Some x)) (sym same)
    (own_keeps is_open (first_events t.taken t.plan) t.run after e seat ran told x may answers h)
given_up is_open t after e seat ran told taken x g (inr (same, chosen, free)) answers h =
    let bad : ◌≡◌ {A = Option Refusal} None (Some x) = sym free ∙ g in
    absurd (cc)

-- behind an event with its answer
pub keeps_past : (is_open : Bool) (t : TurnState) (after : RunState) (e : Event) (seat : ℕ) (done : Option Done) (told : Reply) (taken : ℕ) →
    Passes is_open t e done taken → Answers t.run e seat done after told → KeepsToThem is_open (first_events t.taken t.plan) t.run.log t.given_up →
    KeepsToThem is_open (first_events taken t.plan) after.log (given_up_by told t.given_up)
keeps_past is_open t after e seat done told taken passes answers h = by_given t.given_up refl h
  where
    past : IsPast is_open t e taken
    past = past_of is_open t e done taken passes

    by_given : (g : Option Refusal) → t.given_up ≡ g → KeepsToThem is_open (first_events t.taken t.plan) t.run.log g →
        KeepsToThem is_open (first_events taken t.plan) after.log (given_up_by told g)
    by_given None f k =
        goes_on is_open (first_events t.taken t.plan) (first_events taken t.plan) t.run after e seat done told (past_more is_open t e taken past) answers k
    by_given (Some x) f k =
        subst (KeepsToThem is_open (first_events taken t.plan) after.log) (sym (stays_so told x))
        (given_up is_open t after e seat done told taken x f past answers k)

-- and where there is no memory to keep that a job is out
pub keeps_kept : (is_open : Bool) (es : List Event) (log : List Entry) (e : Event) (told : Reply) (out : List JobOut) (g : Option Refusal)
    (out_now : List JobOut) (g_now : Option Refusal) →
    KeepsToThem is_open es log (given_up_by told g) → KeepsOut e told out g out_now g_now → KeepsToThem is_open es log g_now
keeps_kept is_open es log e told out g out_now g_now h (inl kept) = subst (KeepsToThem is_open es log) (sym kept.1) h
keeps_kept is_open es log e told out g out_now g_now h (inr kept) =
    subst (KeepsToThem is_open es log) (sym kept.1) (first_refused is_open es log (given_up_by told g) h)

-- a run that begins
pub none_yet : (is_open : Bool) (log : List Entry) → log ≡ opening → HasNoOther is_open [] log
none_yet is_open log h = λ closed. ap (λ l. outside (events l)) h
