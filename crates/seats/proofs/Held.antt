-- Each job is handed in once, behind each event.
use Rattle.std.proofs.Common.{◌≡◌, ◌⊎◌, ◌≤◌, ◌<◌, ℕ, suc, zero, true, false, Bool, List, [], ◌∷◌, ◌++◌, length, Option, Some, None}
use Rattle.std.proofs.Common.{refl, sym, ap, ◌∙◌, subst, inl, inr, arith, length-append}
use Rattle.std.specs.Prelude.{◌==◌, ◌||◌, ◌&&◌, if◌then◌else◌, not, is_some, slice_get}
use Rattle.std.specs.List.{flat_map, list_any}
use Rattle.std.proofs.lemmas.Bool.{and_parts, eq-eqb, eqb-false, eqb-true, not-true, true≢false}
use Rattle.meaning.proofs.BirthLaws.{at_test}
use Rattle.segment.specs.Jobs.{Done}
use Rattle.event_files.specs.declared.plan.PlanLine.{PlanLine}
use Rattle.event_log.specs.Breaks.{Among}
use Rattle.event_log.specs.Causes.{shown, unless}
use Rattle.event_log.specs.Entries.{Entry, In, Refused, Event, Claim, Commit, Deliver, Tick, Notice, NoticeNode, Evict, Lose, Kill, KillNode, Join}
use Rattle.event_log.specs.Entries.{Refusal, Pinned, NoCopy, NoWorker, NotReady, NoJob, Stale, NoMessage, NotDead, NoNode, Limit, Halted, NoMemory}
use Rattle.event_log.specs.Events.{accepted_events, claims, claim_in, commit_in, commits, from_one, is_committed, refused_next, worker_lives, worker_of_job}
use Rattle.event_log.specs.Legal.{has_event, opening}
use Rattle.event_log.specs.Settings.{Setting}
use Rattle.event_log.proofs.EventLaws.{claims-event}
use Rattle.protocol.specs.Answers.{answer, decided, given_out, logged, takes}
use Rattle.protocol.specs.Answers as answers
use Rattle.protocol.specs.Cluster.{ClusterState}
use Rattle.protocol.specs.Events.{happens}
use Rattle.protocol.specs.Jobs.{CommitInput}
use Rattle.protocol.specs.Refusals.{is_of_job, is_within_limits, refusal}
use Rattle.protocol_owed.proofs.Counting.{are_parts, happens-counted, no_event, not_refused}
use Rattle.run_paths.specs.Handing.{hands_in_once, has_commit, refused_unknown}
use Rattle.run_paths.proofs.Handing.{is_tested}
use Rattle.run_paths.specs.of_protocol_board.Cores.{RunState, GivesJob, GivesThat, Reply, Accepts, Refuses, Tells, Answers, AnswersAsShown, Follows}
use Rattle.run_paths.specs.of_protocol_board.Cores.{IsHanded, IsOut, beside}
use Rattle.job_laws.specs.of_protocol_core.Steps.{IsShown, refusal_in}
use Rattle.job_laws.specs.of_protocol_laws.Shown.{IsAsShown, IsHidden}
use Rattle.meaning.specs.Syntax.{Script}
use Rattle.seats.specs.Counted.{ClaimsGaveJobs}
use Rattle.seats.specs.Held.{AreHeld, AreOutside, IsStillOut, StayHeld}
use Rattle.event_files.specs.Plans.{is_outside}
use Rattle.seats.specs.Outside.{Passes}
use Rattle.seats.specs.Owed.{has_job}
use Rattle.seats.specs.Ruled.{HandsIn, IsNamed, IsRuled}
use Rattle.seats.specs.Turns.{KeepsOut, TurnState, given_up_by, or_first, out_behind, without}
use Rattle.seats.specs.declared.outs.JobOut.{JobOut}
use Rattle.seats.proofs.Jobs.{claim_gives}
use Rattle.seats.proofs.Outside.{stays_so}
use Rattle.seats.proofs.Owed.{no_claim, or_right, refused_claims, taken_goes_on}
use Rattle.seats.proofs.Passing.{does_own}
use Rattle.seats.proofs.Planned.{plans_line}

-- ---- truth values

or_none : (a : Bool) → (a || false) ≡ a
or_none true = refl
or_none false = refl

or_three : (a b c : Bool) → (a || (b || c)) ≡ ((a || b) || c)
or_three true b c = refl
or_three false b c = refl

or_cases : (a b : Bool) → (a || b) ≡ true → (a ≡ true) ⊎ (b ≡ true)
or_cases true b h = inl refl
or_cases false b h = inr h

or_neither : (a b : Bool) → (a || b) ≡ false → (a ≡ false) × (b ≡ false)
or_neither false false h = (refl, refl)
or_neither true b h = absurd (true≢false h)
or_neither false true h = absurd (true≢false h)

is_or_not : (b : Bool) → (b ≡ true) ⊎ (b ≡ false)
is_or_not true = inl refl
is_or_not false = inr refl

both_ways : {A : Type 0} (b : Bool) → b ≡ true → b ≡ false → A
both_ways b t f = absurd (true≢false (sym t ∙ f))

turned : (i j : ℕ) → (i == j) ≡ false → (j == i) ≡ false
turned i j apart = by_test (is_or_not (j == i))
  where
    by_test : ((j == i) ≡ true) ⊎ ((j == i) ≡ false) → (j == i) ≡ false
    by_test (inl same) = absurd (eqb-false i j apart (sym (eqb-true j i same)))
    by_test (inr other) = other

-- ---- commits of a log

-- the event is a commit of the job
abbrev pub commits_job : ℕ → Event → Bool
commits_job i (Commit j) = j == i
commits_job i _ = false

abbrev pub is_committing : Event → Bool
is_committing (Commit j) = true
is_committing _ = false

pub no_job_committed : (e : Event) (i : ℕ) → is_committing e ≡ false → commits_job i e ≡ false
no_job_committed (Commit j) i h = absurd (true≢false h)
no_job_committed e i h = refl

none_later : (i : ℕ) (es : List Entry) → has_event es ≡ false → has_commit i es ≡ false
none_later i [] h = refl
none_later i (In e seat ∷ es) h = absurd (cc)
none_later i (x ∷ es) h = none_later i es h

once_none : (es : List Entry) → has_event es ≡ false → hands_in_once es ≡ true
once_none [] h = refl
once_none (In e seat ∷ es) h = absurd (cc)
once_none (x ∷ es) h = once_none es h

commit_more : (i : ℕ) (log : List Entry) (e : Event) (seat : ℕ) (es : List Entry) → has_event es ≡ false →
    has_commit i (log ++ In e seat ∷ es) ≡ (has_commit i log || commits_job i e)
commit_more i [] (Commit j) seat es h = ap (λ b. (j == i) || b) (none_later i es h) ∙ or_none (j == i)
commit_more i [] e seat es h = none_later i es h
commit_more i (In (Commit k) s ∷ log) e seat es h =
    ap (λ b. (k == i) || b) (commit_more i log e seat es h) ∙ or_three (k == i) (has_commit i log) (commits_job i e)
commit_more i (x ∷ log) e seat es h = commit_more i log e seat es h

unknown_more : (log : List Entry) (e : Event) (seat : ℕ) (es : List Entry) → refused_unknown (log ++ In e seat ∷ es) ≡ refused_unknown log
unknown_more [] e seat es = refl
unknown_more (Refused NoJob ∷ log) e seat es = refl
unknown_more (Refused Pinned ∷ log) e seat es = refl
unknown_more (Refused NoCopy ∷ log) e seat es = refl
unknown_more (Refused NoWorker ∷ log) e seat es = refl
unknown_more (Refused NotReady ∷ log) e seat es = refl
unknown_more (Refused Stale ∷ log) e seat es = refl
unknown_more (Refused NoMessage ∷ log) e seat es = refl
unknown_more (Refused NotDead ∷ log) e seat es = refl
unknown_more (Refused NoNode ∷ log) e seat es = refl
unknown_more (Refused Limit ∷ log) e seat es = refl
unknown_more (Refused Halted ∷ log) e seat es = refl
unknown_more (Refused NoMemory ∷ log) e seat es = refl
unknown_more (x ∷ log) e seat es = refl

-- no commit of the log is of that event's job
abbrev IsNew : Event → List Entry → Type 0
IsNew e log = (i : ℕ) → has_commit i log ≡ true → commits_job i e ≡ false

once_more : (log : List Entry) (e : Event) (seat : ℕ) (es : List Entry) → has_event es ≡ false → hands_in_once (In e seat ∷ es) ≡ true → IsNew e log →
    hands_in_once log ≡ true → hands_in_once (log ++ In e seat ∷ es) ≡ true
once_more [] e seat es none first new h = first
once_more (In (Commit k) s ∷ log) e seat es none first new h =
    let rest : List Entry = log ++ In e seat ∷ es in
    let both = and_parts (not (has_commit k log) && not (refused_unknown log)) (hands_in_once log) h in
    let parts = and_parts (not (has_commit k log)) (not (refused_unknown log)) both.0 in
    let fresh : commits_job k e ≡ false = new k (ap (λ b. b || has_commit k log) (eq-eqb k k refl)) in
    let mine : has_commit k rest ≡ false =
    commit_more k log e seat es none ∙ (ap (λ b. b || commits_job k e) (not-true (has_commit k log) parts.0) ∙ fresh) in
    ap (λ b. not b && not (refused_unknown rest) && hands_in_once rest) mine
    ∙ (ap (λ b. not b && hands_in_once rest) (unknown_more log e seat es ∙ not-true (refused_unknown log) parts.1)
    ∙ once_more log e seat es none first (λ i c. new i (or_right (k == i) (has_commit i log) c)) both.1)
once_more (x ∷ log) e seat es none first new h = once_more log e seat es none first new h

first_quiet : (e : Event) (seat : ℕ) (es : List Entry) → is_committing e ≡ false → has_event es ≡ false → hands_in_once (In e seat ∷ es) ≡ true
first_quiet (Commit j) seat es quiet h = absurd (true≢false quiet)
first_quiet e seat es quiet h = once_none es h

first_commit : (j seat : ℕ) (es : List Entry) → has_event es ≡ false → refused_unknown es ≡ false → hands_in_once (In (Commit j) seat ∷ es) ≡ true
first_commit j seat es h known =
    ap (λ b. not b && not (refused_unknown es) && hands_in_once es) (none_later j es h)
    ∙ (ap (λ b. not b && hands_in_once es) known ∙ once_none es h)

-- ---- behind an event that is no commit

-- each job that is out was, or is a further one
abbrev OutBehind : List JobOut → List JobOut → ℕ → ℕ → Type 0
OutBehind out out_now few now = (j : ℕ) → has_job j out_now ≡ true → (has_job j out ≡ true) ⊎ ((few < j) × (j ≤ now))

held_quiet : (out out_now : List JobOut) (log : List Entry) (e : Event) (seat : ℕ) (es : List Entry) → has_event es ≡ false → is_committing e ≡ false →
    length (claims log) ≤ length (claims (log ++ In e seat ∷ es)) →
    OutBehind out out_now (length (claims log)) (length (claims (log ++ In e seat ∷ es))) → AreHeld out log → AreHeld out_now (log ++ In e seat ∷ es)
held_quiet out out_now log e seat es none quiet more outs h = record {
  once = is_tested.once now (once_more log e seat es none (first_quiet e seat es quiet none) (λ i c. no_job_committed e i quiet) (is_tested.passed log h.once));
  given = λ j c. let few = h.given j (sym (same j) ∙ c) in omega (arith, few, more);
  unhanded = λ j k. by_old j (outs j k);
}
  where
    now : List Entry
    now = log ++ In e seat ∷ es

    same : (j : ℕ) → has_commit j now ≡ has_commit j log
    same j = commit_more j log e seat es none ∙ (ap (λ b. has_commit j log || b) (no_job_committed e j quiet) ∙ or_none (has_commit j log))

    fresh : (j : ℕ) → length (claims log) < j → (has_commit j log ≡ true) ⊎ (has_commit j log ≡ false) → has_commit j log ≡ false
    fresh j beyond (inl c) = let few = h.given j c in absurd (omega (arith, few, beyond))
    fresh j beyond (inr none_of_it) = none_of_it

    by_old : (j : ℕ) → (has_job j out ≡ true) ⊎ ((length (claims log) < j) × (j ≤ length (claims now))) →
        (1 ≤ j) × (j ≤ length (claims now)) × (has_commit j now ≡ false)
    by_old j (inl k) =
        let o = h.unhanded j k in
        let some = o.0 in
        let few = o.1 in
        (some, omega (arith, few, more), same j ∙ o.2)
    by_old j (inr k) =
        let beyond = k.0 in
        (omega (arith, beyond), k.1, same j ∙ fresh j beyond (is_or_not (has_commit j log)))

-- ---- behind a commit that takes what was handed in, or whose worker is dead

out_of : (i j : ℕ) (out : List JobOut) → has_job i (without j out) ≡ true → (has_job i out ≡ true) × ((j == i) ≡ false)
out_of i j [] h = absurd (true≢false (sym h))
out_of i j (x ∷ out) h = by_job (λ k. out_of i j out k) (is_or_not (x.job == j))
  where
    rest : List JobOut
    rest = without j out

    Found : Type 0
    Found = ((x.job == i) || has_job i out ≡ true) × ((j == i) ≡ false)

    by_number : (has_job i rest ≡ true → (has_job i out ≡ true) × ((j == i) ≡ false)) → (x.job == j) ≡ false → ((x.job == i) ≡ true) ⊎ (has_job i rest ≡ true) → Found
    by_number later other (inl same) =
        (ap (λ b. b || has_job i out) same, turned i j (ap (λ n. n == j) (sym (eqb-true x.job i same)) ∙ other))
    by_number later other (inr there) =
        let k = later there in
        (or_right (x.job == i) (has_job i out) k.0, k.1)

    by_job : (has_job i rest ≡ true → (has_job i out ≡ true) × ((j == i) ≡ false)) → ((x.job == j) ≡ true) ⊎ ((x.job == j) ≡ false) → Found
    by_job later (inl same) =
        let k = later (sym (ap (λ b. has_job i (if not b then x ∷ rest else rest)) same) ∙ h) in
        (or_right (x.job == i) (has_job i out) k.0, k.1)
    by_job later (inr other) =
        let k : (x.job == i) || has_job i rest ≡ true = sym (ap (λ b. has_job i (if not b then x ∷ rest else rest)) other) ∙ h in
        by_number later other (or_cases (x.job == i) (has_job i rest) k)

held_in : (out : List JobOut) (log : List Entry) (j seat : ℕ) (es : List Entry) → has_event es ≡ false → refused_unknown es ≡ false →
    claims (log ++ In (Commit j) seat ∷ es) ≡ claims log → has_job j out ≡ true → AreHeld out log → AreHeld (without j out) (log ++ In (Commit j) seat ∷ es)
held_in out log j seat es none known same there h = record {
  once = is_tested.once now (once_more log (Commit j) seat es none (first_commit j seat es none known) new (is_tested.passed log h.once));
  given = λ i c. by_commit i (or_cases (has_commit i log) (j == i) (sym (commit_more i log (Commit j) seat es none) ∙ c));
  unhanded = λ i k.
      let o = out_of i j out k in
      let was = h.unhanded i o.0 in (
        was.0,
        subst (λ ws. i ≤ length ws) (sym same) was.1,
        commit_more i log (Commit j) seat es none ∙ (ap (λ b. b || (j == i)) was.2 ∙ o.1),
      );
}
  where
    now : List Entry
    now = log ++ In (Commit j) seat ∷ es

    new : IsNew (Commit j) log
    new i c = by_test (is_or_not (j == i))
      where
        by_test : ((j == i) ≡ true) ⊎ ((j == i) ≡ false) → (j == i) ≡ false
        by_test (inl is) = both_ways (has_commit j log) (ap (λ n. has_commit n log) (eqb-true j i is) ∙ c) (h.unhanded j there).2
        by_test (inr other) = other

    by_commit : (i : ℕ) → (has_commit i log ≡ true) ⊎ ((j == i) ≡ true) → i ≤ length (claims now)
    by_commit i (inl c) = subst (λ ws. i ≤ length ws) (sym same) (h.given i c)
    by_commit i (inr is) = subst (λ ws. i ≤ length ws) (sym same) (subst (λ n. n ≤ length (claims log)) (eqb-true j i is) (h.unhanded j there).1)

-- ---- a commit of a job that is out is refused for its worker's death or at a limit alone

not_committed : (j : ℕ) (log : List Entry) → has_commit j log ≡ false → list_any (λ i. i == j) (commits log) ≡ false
unfolding accepted_events
not_committed j [] h = refl
not_committed j (In (Commit i) seat ∷ log) h =
    let k = or_neither (i == j) (has_commit j log) h in
    at_test (λ b. list_any (λ n. n == j) (flat_map commit_in ((if b then [] else Commit i ∷ []) ++ accepted_events log)) ≡ false) (refused_next log)
    (λ _. not_committed j log k.1) (λ _. ap (λ b. b || list_any (λ n. n == j) (commits log)) k.0 ∙ not_committed j log k.1)
not_committed j (In e seat ∷ log) h =
    at_test (λ b. list_any (λ n. n == j) (flat_map commit_in ((if b then [] else e ∷ []) ++ accepted_events log)) ≡ false) (refused_next log)
    (λ _. not_committed j log h) (λ _. not_committed j log h)
not_committed j (x ∷ log) h = not_committed j log h

uncommitted : (j : ℕ) (log : List Entry) → has_commit j log ≡ false → is_committed j log ≡ false
unfolding is_committed
uncommitted j log h = not_committed j log h

some_within : {A : Type 0} (xs : List A) (k : ℕ) → k < length xs → is_some (slice_get xs k) ≡ true
some_within [] k h = absurd (omega (arith, h))
some_within (x ∷ xs) zero h = refl
some_within (x ∷ xs) (suc k) h = some_within xs k (omega (arith, h))

some_worker : (xs : List ℕ) (j : ℕ) → 1 ≤ j → j ≤ length xs → is_some (from_one xs j) ≡ true
some_worker xs zero some few = absurd (omega (arith, some))
some_worker xs (suc k) some few = some_within xs k (omega (arith, few))

shown_then : (s : Setting) (log : List Entry) (j : ℕ) (handed : Bool) → handed ≡ true → 1 ≤ j → j ≤ length (claims log) → has_commit j log ≡ false →
    shown s log handed (Commit j) ≡ unless (worker_lives (worker_of_job j log) log) Stale None
shown_then s log j handed is some few none =
    let lives = worker_lives (worker_of_job j log) log in
    ap (λ b. unless b NoJob (unless (not (is_committed j log)) NoJob (unless handed NoJob (unless lives Stale None)))) (some_worker (claims log) j some few)
    ∙ (ap (λ b. unless (not b) NoJob (unless handed NoJob (unless lives Stale None))) (uncommitted j log none)
    ∙ ap (λ b. unless b NoJob (unless lives Stale None)) is)

-- it is accepted, or refused for one of these
abbrev is_fine : Option Refusal → Bool
is_fine None = true
is_fine (Some Stale) = true
is_fine (Some Limit) = true
is_fine (Some _) = false

at_limit_alone : (code : Refusal) → Among code (Limit ∷ []) → is_fine (Some code) ≡ true
at_limit_alone code (zero, e) =
    let same : Limit ≡ code = cc in
    ap (λ r. is_fine (Some r)) (sym same)
at_limit_alone code (suc k, e) = absurd (cc)

hidden_fine : (j : ℕ) (o : Option Refusal) → IsHidden (Commit j) o → is_fine o ≡ true
hidden_fine j None h = refl
hidden_fine j (Some code) h = at_limit_alone code h

shown_fine : (j : ℕ) (lives : Bool) (o : Option Refusal) → IsAsShown (Commit j) (unless lives Stale None) o → is_fine o ≡ true
shown_fine j true o h = hidden_fine j o h
shown_fine j false o h = ap is_fine h

-- ---- what an event of such a run may be

abbrev pub IsFit : List JobOut → ClusterState → Event → Option Done → Type 0
IsFit out c (Commit j) None = ⊥
IsFit out c (Commit j) (Some d) = (has_job j out ≡ true) × IsOut c j d.job
IsFit out c e work = Unit {0}

-- so its answer is fine
abbrev IsFine : List JobOut → Event → Reply → Type 0
IsFine out (Commit j) told = (has_job j out ≡ true) × (is_fine (refusal_in told) ≡ true)
IsFine out e told = Unit {0}

handed_job : (c : ClusterState) (j : ℕ) (d : Done) (handed : CommitInput) → IsHanded c (Commit j) (Some d) handed → IsOut c j d.job → is_of_job handed ≡ true
handed_job c j d handed (inl k) out = ap is_of_job k.0
handed_job c j d handed (inr k) out = absurd (k.1 out)

fit_fine : (script : Script) (before : RunState) (out : List JobOut) (e : Event) (done : Option Done) (told : Reply) → AreHeld out before.log →
    IsFit out before.whole e done → IsShown script before e done told → IsFine out e told
fit_fine script before out (Commit j) None told h fit k = absurd fit
fit_fine script before out (Commit j) (Some d) told h fit (handed, is_handed, as_shown) =
    let o = h.unhanded j fit.0 in (
      fit.0,
      shown_fine j (worker_lives (worker_of_job j before.log) before.log) (refusal_in told)
          (subst (λ r. IsAsShown (Commit j) r (refusal_in told))
          (shown_then (beside script before.first_nodes before.whole.network) before.log j (is_of_job handed)
          (handed_job before.whole j d handed is_handed fit.1) o.0 o.1 o.2)
          as_shown),
    )
fit_fine script before out e work told h fit k = tt

-- ---- by what is answered

last_or : (j n w : ℕ) (out : List JobOut) → has_job j (out ++ record { job = n; worker = w } ∷ []) ≡ true → (has_job j out ≡ true) ⊎ (n ≡ j)
last_or j n w [] h = inr (eqb-true n j (sym (or_none (n == j)) ∙ h))
last_or j n w (x ∷ out) h = elim (or_cases (x.job == j) (has_job j (out ++ record { job = n; worker = w } ∷ [])) h) [
  | inl same ↦ inl (ap (λ b. b || has_job j out) same)
  | inr later ↦ elim (last_or j n w out later) [ inl k ↦ inl (or_right (x.job == j) (has_job j out) k) | inr k ↦ inr k ]
]

unrefused_known : (es : List Entry) → refused_next es ≡ false → refused_unknown es ≡ false
unrefused_known [] h = refl
unrefused_known (Refused code ∷ es) h = absurd (true≢false h)
unrefused_known (x ∷ es) h = refl

-- no job is given out, and none comes in
still_now : (out : List JobOut) (log : List Entry) (e : Event) (seat : ℕ) (es : List Entry) → has_event es ≡ false → is_committing e ≡ false →
    claims (log ++ In e seat ∷ es) ≡ claims log → AreHeld out log → AreHeld out (log ++ In e seat ∷ es)
still_now out log e seat es none quiet same h =
    let n = ap length same in
    held_quiet out out log e seat es none quiet (omega (arith, n)) (λ j k. inl k) h

other_now : (out : List JobOut) (log : List Entry) (e : Event) (seat : ℕ) (told : Reply) (es : List Entry) → are_parts es ≡ true → is_committing e ≡ false →
    claim_in e ≡ [] → told ≡ Accepts → out_behind e Accepts out ≡ out → AreHeld out log → AreHeld (out_behind e told out) (log ++ In e seat ∷ es)
other_now out log e seat told es quiet bare none is same h =
    subst (λ t. AreHeld (out_behind e t out) (log ++ In e seat ∷ es)) (sym is)
    (subst (λ o. AreHeld o (log ++ In e seat ∷ es)) (sym same)
    (still_now out log e seat es (no_event es quiet) bare (no_claim log e seat es quiet none) h))

taken_now : (out : List JobOut) (log : List Entry) (c : ClusterState) (e : Event) (seat : ℕ) (handed : CommitInput) (told : Reply) (es : List Entry) →
    are_parts es ≡ true → length (claims log) ≡ length c.jobs → refusal c e handed ≡ None → GivesThat (given_out c e) told → IsFine out e told → AreHeld out log →
    AreHeld (out_behind e told out) (log ++ In e seat ∷ es)
taken_now out log c (Claim w) seat handed told es quiet same r tells fine h =
    let g = claim_gives c w handed r in
    let is : told ≡ GivesJob g.0 = subst (λ o. GivesThat o told) g.1 tells in
    let number = g.2 in
    let more = length-append (claims log) (claim_in (Claim w)) in
    let claimed : length (claims (log ++ In (Claim w) seat ∷ es)) ≡ length (claims log ++ claim_in (Claim w)) =
    ap length (claims-event log (Claim w) seat es (no_event es quiet) (not_refused es quiet)) in
    subst (λ t. AreHeld (out_behind (Claim w) t out) (log ++ In (Claim w) seat ∷ es)) (sym is)
    (held_quiet out (out ++ record { job = g.0.number; worker = w } ∷ []) log (Claim w) seat es (no_event es quiet) refl (omega (arith, more, claimed))
    (λ j k. elim (last_or j g.0.number w out k) [
      | inl was ↦ inl was
      | inr is_new ↦ inr (omega (arith, is_new, number, same), omega (arith, is_new, number, same, more, claimed))
    ]) h)
taken_now out log c (Commit j) seat handed told es quiet same r tells fine h =
    subst (λ t. AreHeld (out_behind (Commit j) t out) (log ++ In (Commit j) seat ∷ es)) (sym tells)
    (held_in out log j seat es (no_event es quiet) (unrefused_known es (not_refused es quiet)) (no_claim log (Commit j) seat es quiet refl) fine.0 h)
taken_now out log c (Deliver k) seat handed told es quiet same r tells fine h = other_now out log (Deliver k) seat told es quiet refl refl tells refl h
taken_now out log c (Tick w) seat handed told es quiet same r tells fine h = other_now out log (Tick w) seat told es quiet refl refl tells refl h
taken_now out log c (Notice w v) seat handed told es quiet same r tells fine h = other_now out log (Notice w v) seat told es quiet refl refl tells refl h
taken_now out log c (NoticeNode w m) seat handed told es quiet same r tells fine h = other_now out log (NoticeNode w m) seat told es quiet refl refl tells refl h
taken_now out log c (Evict m o) seat handed told es quiet same r tells fine h = other_now out log (Evict m o) seat told es quiet refl refl tells refl h
taken_now out log c (Lose m o) seat handed told es quiet same r tells fine h = other_now out log (Lose m o) seat told es quiet refl refl tells refl h
taken_now out log c (Kill w) seat handed told es quiet same r tells fine h = other_now out log (Kill w) seat told es quiet refl refl tells refl h
taken_now out log c (KillNode m) seat handed told es quiet same r tells fine h = other_now out log (KillNode m) seat told es quiet refl refl tells refl h
taken_now out log c Join seat handed told es quiet same r tells fine h = other_now out log Join seat told es quiet refl refl tells refl h

-- what is refused
module _ (is_open : Bool) (plan : List PlanLine) (out : List JobOut) (log : List Entry) (seat : ℕ) (held : is_open ≡ false → AreOutside plan → AreHeld out log) where
  refused_now : (e : Event) (code : Refusal) → (is_open ≡ false → AreOutside plan → IsFine out e (Refuses code)) →
      StayHeld is_open plan (out_behind e (Refuses code) out) (log ++ In e seat ∷ Refused code ∷ []) (given_up_by (Refuses code) None)
  refused_now e Limit fine = tt
  refused_now e Halted fine = tt
  refused_now e NoMemory fine = tt
  refused_now (Commit j) Stale fine = λ closed outside.
      held_in out log j seat (Refused Stale ∷ []) refl refl (refused_claims log (Commit j) seat Stale) (fine closed outside).0 (held closed outside)
  refused_now (Commit j) code fine = λ closed outside. absurd (true≢false (sym (fine closed outside).1))
  refused_now e code fine = λ closed outside.
      still_now out log e seat (Refused code ∷ []) refl refl (refused_claims log e seat code) (held closed outside)

  refused_held : (e : Event) (code : Refusal) (told : Reply) → Tells (answers.Refuses code) told → (is_open ≡ false → AreOutside plan → IsFine out e told) →
      StayHeld is_open plan (out_behind e told out) (log ++ In e seat ∷ Refused code ∷ []) (given_up_by told None)
  refused_held e code told is fine =
      subst (λ t. StayHeld is_open plan (out_behind e t out) (log ++ In e seat ∷ Refused code ∷ []) (given_up_by t None)) (sym is)
      (refused_now e code (subst (λ t. is_open ≡ false → AreOutside plan → IsFine out e t) is fine))

  module _ (c : ClusterState) (e : Event) (handed : CommitInput) (told : Reply) (same : length (claims log) ≡ length c.jobs)
      (fine : is_open ≡ false → AreOutside plan → IsFine out e told) where
    taken_held : refusal c e handed ≡ None → GivesThat (given_out c e) told →
        StayHeld is_open plan (out_behind e told out) (log ++ logged e seat (takes (happens c e handed) (given_out c e))) (given_up_by told None)
    taken_held r tells =
        let es : List Entry = (happens c e handed).out.entries in
        let quiet : are_parts es ≡ true = (happens-counted c e handed).quiet in
        subst (StayHeld is_open plan (out_behind e told out) (log ++ In e seat ∷ es)) (sym (taken_goes_on (given_out c e) told tells))
        (λ closed outside. taken_now out log c e seat handed told es quiet same r tells (fine closed outside) (held closed outside))

    limited_held : refusal c e handed ≡ None → (b : Bool) → Tells (if b then takes (happens c e handed) (given_out c e) else answers.Refuses Limit) told →
        StayHeld is_open plan (out_behind e told out) (log ++ logged e seat (if b then takes (happens c e handed) (given_out c e) else answers.Refuses Limit))
        (given_up_by told None)
    limited_held r true tells = taken_held r tells
    limited_held r false tells = refused_held e Limit told tells fine

    decided_held : (o : Option Refusal) → refusal c e handed ≡ o → Tells (decided c e handed o) told →
        StayHeld is_open plan (out_behind e told out) (log ++ logged e seat (decided c e handed o)) (given_up_by told None)
    decided_held None r tells = limited_held r (is_within_limits (happens c e handed).whole) tells
    decided_held (Some code) r tells = refused_held e code told tells fine

-- ---- behind an event with its answer

goes_on_held : (script : Script) (is_open : Bool) (plan : List PlanLine) (out : List JobOut) (before after : RunState) (e : Event) (seat : ℕ) (done : Option Done)
    (told : Reply) → ClaimsGaveJobs before → Answers before e seat done after told → AnswersAsShown script before e done after told →
    (is_open ≡ false → AreOutside plan → IsFit out before.whole e done) → StayHeld is_open plan out before.log None →
    StayHeld is_open plan (out_behind e told out) after.log (given_up_by told None)
goes_on_held script is_open plan out before after e seat done told counted answers shows fit held = by_halt before.is_halted refl
  where
    ends : (code : Refusal) → told ≡ Refuses code → given_up_by (Refuses code) None ≡ Some code →
        StayHeld is_open plan (out_behind e told out) after.log (given_up_by told None)
    ends code is gives_up =
        subst (StayHeld is_open plan (out_behind e told out) after.log) (sym (ap (λ t. given_up_by t None) is ∙ gives_up)) tt

    follows : before.is_halted ≡ false → Follows before e seat done after told → StayHeld is_open plan (out_behind e told out) after.log (given_up_by told None)
    follows goes (inl ran_out) = ends NoMemory ran_out.told_so refl
    follows goes (inr (handed, is_handed, is)) =
        subst (λ l. StayHeld is_open plan (out_behind e told out) l (given_up_by told None)) (sym is.log)
        (decided_held is_open plan out before.log seat held before.whole e handed told (counted goes)
        (λ closed outside. fit_fine script before out e done told (held closed outside) (fit closed outside) (shows goes is.goes_on))
        (refusal before.whole e handed) refl is.told_so)

    by_halt : (b : Bool) → before.is_halted ≡ b → StayHeld is_open plan (out_behind e told out) after.log (given_up_by told None)
    by_halt true f = ends Halted (answers.halted f).1 refl
    by_halt false f = follows f (answers.follows f)

first_held : (is_open : Bool) (plan : List PlanLine) (out : List JobOut) (log : List Entry) (g : Option Refusal) (x : Refusal) →
    StayHeld is_open plan out log (or_first g x)
first_held is_open plan out log None x = tt
first_held is_open plan out log (Some y) x = tt

-- and where there is no memory to keep that a job is out
pub held_behind : (script : Script) (is_open : Bool) (plan : List PlanLine) (out : List JobOut) (g : Option Refusal) (before after : RunState) (e : Event) (seat : ℕ)
    (done : Option Done) (told : Reply) (out_now : List JobOut) (g_now : Option Refusal) → ClaimsGaveJobs before → Answers before e seat done after told →
    AnswersAsShown script before e done after told → (g ≡ None → is_open ≡ false → AreOutside plan → IsFit out before.whole e done) →
    StayHeld is_open plan out before.log g → KeepsOut e told out g out_now g_now → StayHeld is_open plan out_now after.log g_now
held_behind script is_open plan out g before after e seat ran told out_now g_now counted answers shows fit held (inr kept) =
    subst (StayHeld is_open plan out_now after.log) (sym kept.1) (first_held is_open plan out_now after.log (given_up_by told g) NoMemory)
held_behind script is_open plan out None before after e seat ran told out_now g_now counted answers shows fit held (inl kept) =
    subst (λ o. StayHeld is_open plan o after.log g_now) (sym kept.0)
    (subst (StayHeld is_open plan (out_behind e told out) after.log) (sym kept.1)
    (goes_on_held script is_open plan out before after e seat ran told counted answers shows (fit refl) held))
held_behind script is_open plan out (Some x) before after e seat ran told out_now g_now counted answers shows fit held (inl kept) =
    subst (StayHeld is_open plan out_now after.log) (sym (kept.1 ∙ stays_so told x)) tt

-- ---- what is ruled is fit

pub named_quiet : (plan : List PlanLine) (t : TurnState) (e : Event) (taken : ℕ) → t.plan ≡ plan → AreOutside plan → IsNamed t e taken → is_committing e ≡ false
named_quiet plan t e taken same outside (inl (chosen, past)) =
    not-true (is_committing e) (does_own (λ x. not (is_committing x)) (λ k. refl) (λ w. refl) t e chosen)
named_quiet plan t e taken same outside (inr (chosen, past)) =
    let l = plans_line t e chosen in
    from_outside e (sym (ap is_outside l.2) ∙ outside t.taken l.0 (subst (λ lines. slice_get lines t.taken ≡ Some l.0) same l.1))
  where
    from_outside : (x : Event) → is_outside x ≡ true → is_committing x ≡ false
    from_outside (Commit j) h = absurd (true≢false (sym h))
    from_outside x h = refl

quiet_fit : (out : List JobOut) (c : ClusterState) (e : Event) (done : Option Done) → is_committing e ≡ false → IsFit out c e done
quiet_fit out c (Commit j) work h = absurd (true≢false h)
quiet_fit out c e work h = tt

hands_fit : (t : TurnState) (e : Event) (done : Option Done) → AreOutside t.plan → t.given_up ≡ None → HandsIn e done → IsStillOut t done →
    IsFit t.out t.run.whole e done
hands_fit t (Commit j) (Some d) outside goes number out =
    let o = out outside goes in
    (ap (λ n. has_job n t.out) number ∙ o.0, subst (λ n. IsOut t.run.whole n d.job) (sym number) o.1)
hands_fit t e work outside goes hands out = absurd hands

ruled_fit : (plan : List PlanLine) (t : TurnState) (e : Event) (done : Option Done) (taken : ℕ) → t.plan ≡ plan → t.given_up ≡ None → AreOutside plan →
    IsRuled t e done taken → IsFit t.out t.run.whole e done
ruled_fit plan t e work taken same goes outside (inl (named, bare, free)) = quiet_fit t.out t.run.whole e work (named_quiet plan t e taken same outside named)
ruled_fit plan t e work taken same goes outside (inr (hands, out, past)) = hands_fit t e work (subst AreOutside (sym same) outside) goes hands out

pub passes_fit : (is_open : Bool) (plan : List PlanLine) (t : TurnState) (e : Event) (done : Option Done) (taken : ℕ) → Passes is_open t e done taken → t.plan ≡ plan →
    t.given_up ≡ None → is_open ≡ false → AreOutside plan → IsFit t.out t.run.whole e done
passes_fit is_open plan t e work taken (inl ruled) same goes closed outside = ruled_fit plan t e work taken same goes outside ruled
passes_fit is_open plan t e work taken (inr (opened, past)) same goes closed outside = both_ways is_open opened closed

-- ---- a run that begins, and one that is at its end

none_handed : hands_in_once opening ≡ true
none_handed = refl

pub none_held_yet : (is_open : Bool) (plan : List PlanLine) (out : List JobOut) (log : List Entry) → log ≡ opening → out ≡ [] → StayHeld is_open plan out log None
none_held_yet is_open plan out log is none closed outside = record {
  once = is_tested.once log (ap hands_in_once is ∙ none_handed);
  given = λ j c. absurd (true≢false (sym c ∙ ap (has_commit j) is));
  unhanded = λ j k. absurd (true≢false (sym k ∙ ap (has_job j) none));
}
