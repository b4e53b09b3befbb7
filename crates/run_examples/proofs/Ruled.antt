-- A run that was reached has no entry behind its opening only where no event came, and its first event is answered by the limits.
use Rattle.std.proofs.Common.{◌≡◌, ◌<◌, ◌≤◌, inl, inr, ℕ, zero, suc, List, [], ◌∷◌, ◌++◌, Option, Some, None, refl, sym, ap, ◌∙◌, subst, arith, append_assoc, append-nil}
use Rattle.std.specs.Prelude.{Bool, true, false, if◌then◌else◌, ◌+◌}
use Rattle.std.proofs.lemmas.List.{append_cancel_left}
use Rattle.std.proofs.lemmas.List.Concat.{flat_map-append}
use Rattle.std.proofs.lemmas.List.Elements.{filter-append}
use Rattle.meaning.specs.Syntax.{Script}
use Rattle.script_check.specs.Scripts.{IsWellTyped}
use Rattle.event_log.specs.Entries.{Claim, Entry, Event, In, Join, Refused, Tick}
use Rattle.event_log.specs.Entries.{Refusal, Limit}
use Rattle.event_log.specs.Events.{accepted_events, refused_next}
use Rattle.event_log.specs.Legal.{opening}
use Rattle.event_log.specs.Books.{Totals}
use Rattle.event_log.specs.Rules.{Setting}
use Rattle.event_log.specs.Words.{came_in, events}
use Rattle.protocol.specs.Answers.{Answer, Refuses, Step, Takes, answer, decided, given_out, logged, takes}
use Rattle.protocol.specs.Events.{happens}
use Rattle.protocol.specs.Jobs.{CommitInput}
use Rattle.protocol.specs.Refusals.{is_within_limits, refusal}
use Rattle.protocol.specs.Settling.{next}
use Rattle.protocol.specs.Cluster.{ClusterState, first_whole}
use Rattle.protocol_owed.specs.Runs.{Handing, Running, after_event, after_events, answer_to, opening_run}
use Rattle.protocol_owed.proofs.Counting.{happens-counted, not_refused}
use Rattle.seats.specs.of_count_laws.Law.{IsReached}
use Rattle.seats.proofs.of_count_laws.Reached.{reached_goes_on}
use Rattle.seats.specs.of_count_laws.Counts.{borne, counted}
use Rattle.seats.specs.of_count_laws.Law.{IsFull}
use Rattle.seats.proofs.of_count_laws.Laws.{events_are_limited}
use Rattle.seats.specs.of_protocol_board.Cores.{Size}
use Rattle.seats.specs.of_protocol_board.Cores.{IsReachedRun, RunState, beside}
use Rattle.event_files.specs.declared.plan.PlanLine.{PlanLine}
use Rattle.seats.specs.of_run_paths.Handing.{AllHandedIn}
use Rattle.seats.specs.Ends.{IsAtLimit, IsOverBeside, WasLimited, first_events}
use Rattle.seats.specs.Outside.{is_outside, outside}
use Rattle.run_examples.specs.Examples.{BooksAreTrue, LimitsAreTrue, OpeningIsNotOver, OverIsTrue, SeatsAreTrue, dropped_job, early_limit}

-- ---- what events add

-- an event adds itself first
pub adds_itself : (e : Event) (seat : ℕ) (a : Answer) → (es : List Entry) × (logged e seat a ≡ In e seat ∷ es)
adds_itself e seat (Takes step) = (step.entries, refl)
adds_itself e seat (Refuses code) = (Refused code ∷ [], refl)

abbrev Adds : Running → List Handing → List Entry → Type 0
Adds r gs es = (after_events r gs).log ≡ r.log ++ es

events_add : (r : Running) (gs : List Handing) → (es : List Entry) × Adds r gs es
events_add r [] = ([], sym (append-nil r.log))
events_add r (g ∷ gs) =
    let k = events_add (after_event r g) gs in
    (logged g.event g.seat (answer_to r g) ++ k.0, k.1 ∙ append_assoc r.log (logged g.event g.seat (answer_to r g)) k.0)

one_adds : (r : Running) (g : Handing) (gs : List Handing) → (es : List Entry) × Adds r (g ∷ gs) (In g.event g.seat ∷ es)
one_adds r g gs =
    let k = events_add (after_event r g) gs in
    let i = adds_itself g.event g.seat (answer_to r g) in
    (i.0 ++ k.0, k.1 ∙ append_assoc r.log (logged g.event g.seat (answer_to r g)) k.0 ∙ ap (λ es. r.log ++ (es ++ k.0)) i.1)

-- ---- a run that is over

-- main has its first job to do
main_may_claim : (nodes slots : ℕ) → 1 ≤ nodes → next (first_whole nodes slots) [] ≡ None → ⊥
main_may_claim zero slots some e = omega (arith, some)
main_may_claim (suc n) slots some e =
    let i : Some (Claim 1) ≡ None = e in
    cc

none_came : (nodes slots : ℕ) (gs : List Handing) → (after_events (opening_run nodes slots) gs).log ≡ opening → (after_events (opening_run nodes slots) gs).whole ≡ first_whole nodes slots
none_came nodes slots [] e = refl
none_came nodes slots (g ∷ gs) e =
    let k = one_adds (opening_run nodes slots) g gs in
    let i : opening ++ In g.event g.seat ∷ k.0 ≡ opening ++ [] = sym k.1 ∙ e in
    let j : In g.event g.seat ∷ k.0 ≡ [] = append_cancel_left opening (In g.event g.seat ∷ k.0) [] i in
    absurd (cc)

pub opening_is_not_over : OpeningIsNotOver
opening_is_not_over script is_open plan size cluster r sound over e =
    let k : IsReachedRun script r = sound.reached in
    let at : IsReached (beside script r.first_nodes []) k.slots k.run = k.reached in
    let whole : k.run.whole ≡ first_whole r.first_nodes k.slots =
    sym (ap (λ (x : Running). x.whole) at.leads)
    ∙ none_came r.first_nodes k.slots at.handings (ap (λ (x : Running). x.log) at.leads ∙ k.log ∙ e) in
    let nodes : r.first_nodes ≡ size.nodes = ap (λ (x : Size). x.nodes) over.on_cluster in
    main_may_claim r.first_nodes k.slots (subst (λ n. 1 ≤ n) (sym nodes) cluster.a_node)
    (ap (λ c. next c []) (sym whole ∙ k.whole over.goes_on) ∙ over.settled)

-- ---- a tick that is refused at once

-- no entry of an event that is taken says that it is refused
taken_says_none : (c : ClusterState) (e : Event) (handed : CommitInput) (step : Step) → answer c e handed ≡ Takes step → refused_next step.entries ≡ false
taken_says_none c e handed step i = go (refusal c e handed) i
  where
    quiet : takes (happens c e handed) (given_out c e) ≡ Takes step → refused_next step.entries ≡ false
    quiet j =
        let k : (happens c e handed).out.entries ≡ step.entries = cc in
        ap refused_next (sym k) ∙ not_refused (happens c e handed).out.entries (happens-counted c e handed).quiet

    by_test : (t : Bool) → (if t then takes (happens c e handed) (given_out c e) else Refuses Limit) ≡ Takes step → refused_next step.entries ≡ false
    by_test true j = quiet j
    by_test false j = absurd (cc)

    go : (o : Option Refusal) → decided c e handed o ≡ Takes step → refused_next step.entries ≡ false
    go None j = by_test (is_within_limits (happens c e handed).whole) j
    go (Some code) j = absurd (cc)

abbrev refused_tick : List Entry
refused_tick = In (Tick 1) 1 ∷ Refused Limit ∷ []

-- what one event adds is the refused tick only where it is that tick, and refused so
was_refused : (c : ClusterState) (g : Handing) (a : Answer) → answer c g.event g.handed ≡ a → logged g.event g.seat a ≡ refused_tick → (g.event ≡ Tick 1) × (a ≡ Refuses Limit)
was_refused c g (Takes step) i e =
    let k : step.entries ≡ Refused Limit ∷ [] = cc in
    let none : refused_next step.entries ≡ false = taken_says_none c g.event g.handed step i in
    let some : refused_next step.entries ≡ true = ap refused_next k in
    absurd (cc)
was_refused c g (Refuses code) i e =
    let tick : g.event ≡ Tick 1 = cc in
    let refused : Refused code ≡ Refused Limit = cc in
    let number : code ≡ Limit = cc in
    (tick, ap (λ n. Refuses n) number)

-- behind an entry of its own no further event stands in it
no_second : (es fs : List Entry) (e : Event) (seat : ℕ) → es ++ In e seat ∷ fs ≡ Refused Limit ∷ [] → ⊥
no_second [] fs e seat i = cc
no_second (x ∷ []) fs e seat i =
    let j : In e seat ∷ fs ≡ [] = cc in
    cc
no_second (x ∷ y ∷ es) fs e seat i =
    let j : y ∷ (es ++ In e seat ∷ fs) ≡ [] = cc in
    cc

-- a tick passes no limit where there are one worker and one object
tick_is_not_full : (s : Setting) (g : Handing) → g.event ≡ Tick 1 → IsFull (counted s opening) g → ⊥
tick_is_not_full s g e (inl i) =
    let j : Tick 1 ≡ Join = sym e ∙ i.0 in
    cc
tick_is_not_full s g e (inr (inl i)) =
    let j : ◌≡◌ {A = ℕ} 1 1024 = i in
    omega (arith, j)
tick_is_not_full s g e (inr (inr i)) = ticks g.event g.handed e i
  where
    ticks : (x : Event) (handed : CommitInput) → x ≡ Tick 1 → 1000000 < (counted s opening).objects + borne x handed → ⊥
    ticks (Tick w) handed e i =
        let j : 1000000 < 1 = i in
        omega (arith, j)
    ticks _ handed e i = cc

not_so : (script : Script) → IsWellTyped script → (nodes slots : ℕ) → 0 < nodes → nodes ≤ 64 → (gs : List Handing) →
    (after_events (opening_run nodes slots) gs).log ≡ early_limit → ⊥
not_so script typed nodes slots some few [] e =
    let i : refused_tick ≡ [] = append_cancel_left opening refused_tick [] (sym e) in
    cc
not_so script typed nodes slots some few (g ∷ []) e =
    let r : Running = opening_run nodes slots in
    let s : Setting = beside script nodes [] in
    let i : logged g.event g.seat (answer_to r g) ≡ refused_tick = append_cancel_left opening (logged g.event g.seat (answer_to r g)) refused_tick e in
    let k = was_refused r.whole g (answer_to r g) refl i in
    let full = (events_are_limited s slots some few typed.main_apart r (reached_goes_on.opening s slots) g).full k.1 in
    tick_is_not_full s g k.0 full
not_so script typed nodes slots some few (g ∷ h ∷ gs) e =
    let r : Running = opening_run nodes slots in
    let k = one_adds (after_event r g) h gs in
    let i = adds_itself g.event g.seat (answer_to r g) in
    let j : opening ++ (logged g.event g.seat (answer_to r g) ++ In h.event h.seat ∷ k.0) ≡ opening ++ refused_tick =
    sym (append_assoc opening (logged g.event g.seat (answer_to r g)) (In h.event h.seat ∷ k.0)) ∙ sym k.1 ∙ e in
    let l : logged g.event g.seat (answer_to r g) ++ In h.event h.seat ∷ k.0 ≡ refused_tick =
    append_cancel_left opening (logged g.event g.seat (answer_to r g) ++ In h.event h.seat ∷ k.0) refused_tick j in
    let m : In g.event g.seat ∷ (i.0 ++ In h.event h.seat ∷ k.0) ≡ refused_tick = ap (λ es. es ++ In h.event h.seat ∷ k.0) (sym i.1) ∙ l in
    no_second i.0 k.0 h.event h.seat (cc)

-- ---- a join beside no plan

no_lines : (n : ℕ) → first_events n [] ≡ []
no_lines zero = refl
no_lines (suc n) = refl

not_empty : (es fs : List Event) (e : Event) → es ++ e ∷ fs ≡ [] → ⊥
not_empty [] fs e i = cc
not_empty (x ∷ es) fs e i = cc

joins_stand : (before after : List Entry) (seat : ℕ) →
    outside (events (before ++ In Join seat ∷ after)) ≡ outside (events before) ++ Join ∷ outside (events after)
joins_stand before after seat =
    ap outside (flat_map-append came_in before (In Join seat ∷ after)) ∙ filter-append is_outside (events before) (Join ∷ events after)

none_joins : (script : Script) (size : Size) (r : RunState) → IsAtLimit script false [] size r → (before after : List Entry) (seat : ℕ) →
    r.log ≡ before ++ In Join seat ∷ after → ⊥
none_joins script size r limit before after seat e =
    let none : outside (events r.log) ≡ [] = limit.planned.1 refl ∙ ap outside (no_lines limit.taken) in
    not_empty (outside (events before)) (outside (events after)) Join
    (sym (joins_stand before after seat) ∙ ap (λ l. outside (events l)) (sym e) ∙ none)

pub limits_are_true : LimitsAreTrue
limits_are_true = record {
  says_so = (3, refl);
  is_of_none = λ script typed r some few sound e.
      let k : IsReachedRun script r = sound.reached in
      let at : IsReached (beside script r.first_nodes []) k.slots k.run = k.reached in
      not_so script typed r.first_nodes k.slots some few at.handings (ap (λ (x : Running). x.log) at.leads ∙ k.log ∙ e);
  unplanned = none_joins;
}

-- ---- a run that isn't over

no_dropped : (script : Script) (is_open : Bool) (plan : List PlanLine) (size : Size) (r : RunState) → IsOverBeside script is_open plan size r →
    r.log ≡ dropped_job → ⊥
unfolding accepted_events
no_dropped script is_open plan size r over e =
    let all : AllHandedIn dropped_job = subst AllHandedIn e over.handed_in in
    let bad : false ≡ true = all 1 (omega arith) (omega arith) in
    absurd (cc)

no_limited : (script : Script) (is_open : Bool) (plan : List PlanLine) (size : Size) (r : RunState) → IsOverBeside script is_open plan size r →
    r.log ≡ early_limit → ⊥
no_limited script is_open plan size r over e = over.within_limits (subst WasLimited (sym e) limits_are_true.says_so)

pub over_is_true : OverIsTrue
over_is_true = record { dropped = no_dropped; limited = no_limited }

-- ---- a third seat

pub seats_are_true : SeatsAreTrue
seats_are_true h =
    let k = h 2 (Tick 1) 3 refl in
    omega (arith, k.1)

-- ---- books of which nothing is known

pub books_are_true : BooksAreTrue
books_are_true h =
    let k : ◌≡◌ {A = ℕ} 1 0 = ap (λ (t : Totals). t.events) h.0 in
    omega (arith, k)
