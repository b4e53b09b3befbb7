-- A plan's line that is taken stands in the log behind the lines before it.
use Rattle.std.proofs.Common.{◌≡◌, ◌⊎◌, ◌+◌, ◌<◌, ℕ, zero, suc, true, false, Bool, List, [], ◌∷◌, ◌++◌, length, Option, Some, None, refl, sym, ap, ◌∙◌, subst, inl, inr, arith}
use Rattle.std.specs.Prelude.{nat_lt, if◌then◌else◌, slice_get}
use Rattle.std.proofs.lemmas.Bool.Decides.{nat_tests}
use Rattle.segment.specs.Jobs.{Done}
use Rattle.event_files.specs.declared.plan.PlanLine.{PlanLine}
use Rattle.event_log.specs.Books.{totals_of}
use Rattle.event_log.specs.Entries.{Entry, Event, Claim, Commit, Deliver, In, Refused}
use Rattle.log_entries.specs.declared.refusal.Refusal.{Refusal}
use Rattle.log_entries.specs.declared.refusal.Refusal.TheVariants as refusals
use Rattle.protocol.specs.Answers.{Answer, answer, logged}
use Rattle.protocol.specs.Answers as answers
use Rattle.protocol.specs.Jobs.{Job}
use Rattle.protocol.specs.Settling.{next}
use Rattle.run_paths.specs.of_protocol_board.Cores.{RunState, GivesThat, Reply, Refuses, Tells, Answers, Follows}
use Rattle.seats.specs.Ends.{AreIn, Stands, first_events}
use Rattle.seats.specs.Outside.{Passes}
use Rattle.seats.specs.Turns.{Choice, Ends, Plans, TurnState, busy, choice, due, given_up_by, or_claim, or_message, or_plan, or_wait}
use Rattle.seats.specs.Turns.{past_line}
use Rattle.seats.proofs.Passing.{IsPast, past_of}
use Rattle.seats.proofs.Standing.{in_last, limited_now, stands_behind}

-- ---- which line it is

abbrev planned_event : Event → Choice → Event
planned_event other (Plans e) = e
planned_event other _ = other

abbrev IsLine : Option PlanLine → Event → Type 0
IsLine o e = (line : PlanLine) × (o ≡ Some line) × (line.event ≡ e)

line_or : (o : Option PlanLine) (other : Choice) (e : Event) → or_plan o other ≡ Plans e → IsLine o e ⊎ (other ≡ Plans e)
line_or None other e h = inr h
line_or (Some line) other e h = inl (line, refl, ap (planned_event e) h)

behind_message : (o : Option Event) (other : Choice) (e : Event) → or_message o other ≡ Plans e → other ≡ Plans e
behind_message None other e h = h
behind_message (Some (Deliver k)) other e h = absurd cc
behind_message (Some x) other e h = h

behind_claim : (o : Option Event) (other : Choice) (e : Event) → or_claim o other ≡ Plans e → other ≡ Plans e
behind_claim None other e h = h
behind_claim (Some (Claim w)) other e h = absurd cc
behind_claim (Some x) other e h = h

behind_wait : (o : Option Event) (other : Choice) (e : Event) → or_wait o other ≡ Plans e → other ≡ Plans e
behind_wait None other e h = h
behind_wait (Some (Commit j)) other e h = absurd cc
behind_wait (Some x) other e h = h

due_or_later : (b : Bool) (line found : PlanLine) → ◌≡◌ {A = Option PlanLine} (if b then None else Some line) (Some found) → ◌≡◌ {A = Option PlanLine} (Some line) (Some found)
due_or_later true line found h = absurd cc
due_or_later false line found h = h

due_line : (commits : ℕ) (o : Option PlanLine) (line : PlanLine) → due commits o ≡ Some line → o ≡ Some line
due_line commits None line h = h
due_line commits (Some x) line h = due_or_later (nat_lt commits x.commits) x line h

last_line : (slot : Option PlanLine) (e : Event) → IsLine slot e ⊎ (Ends ≡ Plans e) → IsLine slot e
last_line slot e (inl k) = k
last_line slot e (inr bad) = absurd cc

line_behind : (commits : ℕ) (slot : Option PlanLine) (first claim : Option Event) (e : Event) →
    IsLine (due commits slot) e ⊎ (or_claim claim (or_wait first (or_plan slot Ends)) ≡ Plans e) → IsLine slot e
line_behind commits slot first claim e (inl (line, found, same)) = (line, due_line commits slot line found, same)
line_behind commits slot first claim e (inr k) =
    let waited = behind_claim claim (or_wait first (or_plan slot Ends)) e k in
    last_line slot e (line_or slot Ends e (behind_wait first (or_plan slot Ends) e waited))

-- the plan's next line
pub plans_line : (t : TurnState) (e : Event) → choice t ≡ Plans e → IsLine (slice_get t.plan t.taken) e
plans_line t e h =
    let commits = (totals_of t.run.log).commits in
    let slot = slice_get t.plan t.taken in
    let first = next t.run.whole [] in
    let claim = next t.run.whole (busy t.out) in
    let behind = or_claim claim (or_wait first (or_plan slot Ends)) in
    line_behind commits slot first claim e (line_or (due commits slot) behind e (behind_message first (or_plan (due commits slot) behind) e h))

-- ---- the lines through it

inside : (plan : List PlanLine) (k : ℕ) (line : PlanLine) → slice_get plan k ≡ Some line → k < length plan
inside [] k line h = absurd cc
inside (x ∷ plan) zero line h = omega arith
inside (x ∷ plan) (suc k) line h = let i = inside plan k line h in omega (arith, i)

below : (k n : ℕ) → k < n → nat_lt k n ≡ true
below k n h = grind (arith, nat_tests)

some_line : (x line : PlanLine) → ◌≡◌ {A = Option PlanLine} (Some x) (Some line) → x ≡ line
some_line x line h = cc

one_more : (plan : List PlanLine) (k : ℕ) (line : PlanLine) → slice_get plan k ≡ Some line →
    first_events (suc k) plan ≡ first_events k plan ++ line.event ∷ []
one_more [] k line h = absurd cc
one_more (x ∷ plan) zero line h = ap (λ (l : PlanLine). l.event ∷ []) (some_line x line h)
one_more (x ∷ plan) (suc k) line h = ap (λ es. x.event ∷ es) (one_more plan k line h)

pub past_events : (plan : List PlanLine) (k : ℕ) (e : Event) → IsLine (slice_get plan k) e → first_events (past_line plan k) plan ≡ first_events k plan ++ e ∷ []
past_events plan k e (line, found, same) =
    let next : k + 1 ≡ suc k = omega arith in
    ap (λ b. first_events (if b then k + 1 else k) plan) (below k (length plan) (inside plan k line found))
    ∙ (ap (λ n. first_events n plan) next ∙ (one_more plan k line found ∙ ap (λ x. first_events k plan ++ x ∷ []) same))

-- ---- the log behind it

refused_in : (es : List Event) (log : List Entry) (e : Event) (seat : ℕ) (refusal : Refusal) → AreIn es log →
    Stands (es ++ e ∷ []) (log ++ In e seat ∷ Refused refusal ∷ []) (given_up_by (Refuses refusal) None)
refused_in es log e seat refusals.Limit h = (in_last es log e seat (Refused refusals.Limit ∷ []) h, limited_now log e seat)
refused_in es log e seat refusals.Halted h = tt
refused_in es log e seat refusals.NoMemory h = tt
refused_in es log e seat refusal h = in_last es log e seat (Refused refusal ∷ []) h

taken_in : (es : List Event) (log : List Entry) (e : Event) (seat : ℕ) (more : List Entry) (given : Option Job) (told : Reply) → GivesThat given told →
    AreIn es log →
    Stands (es ++ e ∷ []) (log ++ In e seat ∷ more) (given_up_by told None)
taken_in es log e seat more None told tells h =
    subst (λ t. Stands (es ++ e ∷ []) (log ++ In e seat ∷ more) (given_up_by t None)) (sym tells) (in_last es log e seat more h)
taken_in es log e seat more (Some job) told tells h =
    subst (λ t. Stands (es ++ e ∷ []) (log ++ In e seat ∷ more) (given_up_by t None)) (sym tells) (in_last es log e seat more h)

answered_in : (es : List Event) (log : List Entry) (e : Event) (seat : ℕ) (a : Answer) (told : Reply) → Tells a told → AreIn es log →
    Stands (es ++ e ∷ []) (log ++ logged e seat a) (given_up_by told None)
answered_in es log e seat (answers.Takes s) told tells h = taken_in es log e seat s.entries s.given told tells h
answered_in es log e seat (answers.Refuses refusal) told told_so h =
    subst (λ t. Stands (es ++ e ∷ []) (log ++ In e seat ∷ Refused refusal ∷ []) (given_up_by t None)) (sym told_so) (refused_in es log e seat refusal h)

event_in : (es : List Event) (before after : RunState) (e : Event) (seat : ℕ) (done : Option Done) (told : Reply) → Answers before e seat done after told →
    AreIn es before.log →
    Stands (es ++ e ∷ []) after.log (given_up_by told None)
event_in es before after e seat done told answers h = by_halt before.is_halted refl
  where
    follows : Follows before e seat done after told → Stands (es ++ e ∷ []) after.log (given_up_by told None)
    follows (inl out) = subst (λ t. Stands (es ++ e ∷ []) after.log (given_up_by t None)) (sym out.told_so) tt
    follows (inr (handed, is_handed, is)) =
        subst (λ l. Stands (es ++ e ∷ []) l (given_up_by told None)) (sym is.log) (answered_in es before.log e seat (answer before.whole e handed) told is.told_so h)

    by_halt : (b : Bool) → before.is_halted ≡ b → Stands (es ++ e ∷ []) after.log (given_up_by told None)
    by_halt true f = subst (λ t. Stands (es ++ e ∷ []) after.log (given_up_by t None)) (sym (answers.halted f).1) tt
    by_halt false f = follows (answers.follows f)

-- behind an event with its answer, by the lines that are taken
pub stands_past : (is_open : Bool) (t : TurnState) (after : RunState) (e : Event) (seat : ℕ) (done : Option Done) (told : Reply) (taken : ℕ) →
    Passes is_open t e done taken → Answers t.run e seat done after told → Stands (first_events t.taken t.plan) t.run.log t.given_up →
    Stands (first_events taken t.plan) after.log (given_up_by told t.given_up)
stands_past is_open t after e seat done told taken passes answers h = by_past (past_of is_open t e done taken passes)
  where
    es : List Event
    es = first_events t.taken t.plan

    by_past : IsPast is_open t e taken → Stands (first_events taken t.plan) after.log (given_up_by told t.given_up)
    by_past (inl (same, may)) =
        subst (λ n. Stands (first_events n t.plan) after.log (given_up_by told t.given_up)) (sym same)
        (stands_behind es t.run after e seat done told t.given_up answers h)
    by_past (inr (same, chosen, free)) =
        let now : Stands (es ++ e ∷ []) after.log (given_up_by told None) =
        event_in es t.run after e seat done told answers (subst (Stands es t.run.log) free h) in
        let kept = subst (λ g. Stands (es ++ e ∷ []) after.log (given_up_by told g)) (sym free) now in
        let through : first_events taken t.plan ≡ es ++ e ∷ [] =
        ap (λ n. first_events n t.plan) same ∙ past_events t.plan t.taken e (plans_line t e chosen) in
        subst (λ xs. Stands xs after.log (given_up_by told t.given_up)) (sym through) kept
