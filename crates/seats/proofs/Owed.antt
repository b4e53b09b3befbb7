-- Each job that was given out is out, or was handed in, behind each event; and no event is refused at a limit, unless that gives the run up.
use Rattle.std.proofs.Common.{◌≡◌, ◌⊎◌, ◌≤◌, ◌+◌, ℕ, zero, suc, true, false, Bool, List, [], ◌∷◌, ◌++◌, length, Option, Some, None}
use Rattle.std.proofs.Common.{refl, sym, ap, ◌∙◌, subst, inl, inr, arith, append-nil, length-append}
use Rattle.std.specs.Prelude.{◌==◌, ◌||◌, ◌&&◌, if◌then◌else◌, not}
use Rattle.std.specs.List.{flat_map}
use Rattle.std.proofs.lemmas.Bool.{eq-eqb, eqb-false, eqb-true, true≢false}
use Rattle.sequence.proofs.Places.{and_left, and_right}
use Rattle.meaning.proofs.BirthLaws.{at_test}
use Rattle.segment.specs.Jobs.{Done}
use Rattle.event_log.specs.Breaks.{Among}
use Rattle.event_log.specs.Entries.{Entry, In, Refused, Event, Claim, Commit, Deliver, Tick, Notice, NoticeNode, Evict, Lose, Kill, KillNode, Join}
use Rattle.event_log.specs.Entries.{Refusal, Pinned, NoCopy, NoWorker, NotReady, NoJob, Stale, NoMessage, NotDead, NoNode, Limit, Halted, NoMemory}
use Rattle.event_log.specs.Events.{accepted_events, claims, claim_in, refused_next}
use Rattle.event_log.specs.Legal.{opening}
use Rattle.event_log.proofs.EventLaws.{accepted-refused, claims-event}
use Rattle.protocol.specs.Jobs.{CommitInput, Job}
use Rattle.protocol.specs.Cluster.{ClusterState}
use Rattle.protocol.specs.Events.{happens}
use Rattle.protocol.specs.Refusals.{is_within_limits, refusal}
use Rattle.protocol.specs.Answers.{answer, decided, given_out, logged, takes}
use Rattle.protocol.specs.Answers as answers
use Rattle.protocol_owed.proofs.Counting.{are_parts, happens-counted, is_part, no_event, not_refused}
use Rattle.protocol_owed.proofs.Envelopes.{among-append_cases, among-nothing}
use Rattle.run_paths.specs.of_protocol_board.Cores.{RunState, GivesJob, GivesThat, Reply, Accepts, Refuses, Tells, Answers, Follows}
use Rattle.run_paths.specs.Handing.{AllHandedIn, is_handed_in, takes_done}
use Rattle.seats.specs.Counted.{ClaimsGaveJobs}
use Rattle.seats.specs.Ends.{IsWithinLimits, WasLimited}
use Rattle.seats.specs.Owed.{AreOut, has_job}
use Rattle.seats.specs.Turns.{KeepsOut, given_up_by, or_first, out_behind, without}
use Rattle.seats.specs.declared.outs.JobOut.{JobOut}
use Rattle.seats.proofs.Jobs.{claim_gives}
use Rattle.seats.proofs.Outside.{stays_so}

-- ---- jobs that are out

pub or_right : (a b : Bool) → b ≡ true → (a || b) ≡ true
or_right true b h = refl
or_right false b h = h

pub has_more : (j : ℕ) (out more : List JobOut) → has_job j out ≡ true → has_job j (out ++ more) ≡ true
has_more j [] more h = absurd (true≢false (sym h))
has_more j (x ∷ out) more h = at_test (λ b. (b || has_job j out) ≡ true → (b || has_job j (out ++ more)) ≡ true) (x.job == j)
    (λ _ k. refl) (λ _ k. has_more j out more k) h

pub has_last : (j w : ℕ) (out : List JobOut) → has_job j (out ++ record { job = j; worker = w } ∷ []) ≡ true
has_last j w [] = ap (λ b. b || false) (eq-eqb j j refl)
has_last j w (x ∷ out) = or_right (x.job == j) (has_job j (out ++ record { job = j; worker = w } ∷ [])) (has_last j w out)

other_job : (i j k : ℕ) → (i == j) ≡ false → (k == i) ≡ true → (k == j) ≡ false
other_job i j k apart same = ap (λ n. n == j) (eqb-true k i same) ∙ apart

-- another job stays
pub has_others : (i j : ℕ) (out : List JobOut) → (i == j) ≡ false → has_job j out ≡ true → has_job j (without i out) ≡ true
has_others i j [] apart h = h
has_others i j (x ∷ out) apart h = at_test (λ b. (x.job == i) ≡ b → has_job j (if not b then x ∷ without i out else without i out) ≡ true) (x.job == i)
    (λ _ same. has_others i j out apart (ap (λ b. b || has_job j out) (sym (other_job i j x.job apart same)) ∙ h))
    (λ _ _. at_test (λ b. (b || has_job j out) ≡ true → (b || has_job j (without i out)) ≡ true) (x.job == j)
    (λ _ k. refl) (λ _ k. has_others i j out apart k) h)
    refl

-- ---- jobs that were handed in

takes_more : (log : List Entry) (e : Event) (seat : ℕ) (more : List Entry) → takes_done (log ++ In e seat ∷ more) ≡ takes_done log
takes_more [] e seat more = refl
takes_more (Refused Stale ∷ log) e seat more = refl
takes_more (Refused Pinned ∷ log) e seat more = refl
takes_more (Refused NoCopy ∷ log) e seat more = refl
takes_more (Refused NoWorker ∷ log) e seat more = refl
takes_more (Refused NotReady ∷ log) e seat more = refl
takes_more (Refused NoJob ∷ log) e seat more = refl
takes_more (Refused NoMessage ∷ log) e seat more = refl
takes_more (Refused NotDead ∷ log) e seat more = refl
takes_more (Refused NoNode ∷ log) e seat more = refl
takes_more (Refused Limit ∷ log) e seat more = refl
takes_more (Refused Halted ∷ log) e seat more = refl
takes_more (Refused NoMemory ∷ log) e seat more = refl
takes_more (x ∷ log) e seat more = refl

-- one that was stays so
handed_more : (j : ℕ) (log : List Entry) (e : Event) (seat : ℕ) (more : List Entry) → is_handed_in j log ≡ true →
    is_handed_in j (log ++ In e seat ∷ more) ≡ true
handed_more j [] e seat more h = absurd (true≢false (sym h))
handed_more j (In (Commit i) s ∷ log) e seat more h =
    ap (λ b. ((i == j) && b) || is_handed_in j (log ++ In e seat ∷ more)) (takes_more log e seat more)
    ∙ at_test (λ b. (b || is_handed_in j log) ≡ true → (b || is_handed_in j (log ++ In e seat ∷ more)) ≡ true) ((i == j) && takes_done log)
    (λ _ k. refl) (λ _ k. handed_more j log e seat more k) h
handed_more j (x ∷ log) e seat more h = handed_more j log e seat more h

handed_later : (j : ℕ) (x : Entry) (log : List Entry) → is_handed_in j log ≡ true → is_handed_in j (x ∷ log) ≡ true
handed_later j (In (Commit i) s) log h = or_right ((i == j) && takes_done log) (is_handed_in j log) h
handed_later j x log h = h

-- one whose commit takes it is
handed_now : (j : ℕ) (log : List Entry) (seat : ℕ) (more : List Entry) → takes_done more ≡ true → is_handed_in j (log ++ In (Commit j) seat ∷ more) ≡ true
handed_now j [] seat more takes_it =
    ap (λ b. (b && takes_done more) || is_handed_in j more) (eq-eqb j j refl) ∙ ap (λ b. b || is_handed_in j more) takes_it
handed_now j (x ∷ log) seat more takes_it = handed_later j x (log ++ In (Commit j) seat ∷ more) (handed_now j log seat more takes_it)

pub unrefused_takes : (es : List Entry) → refused_next es ≡ false → takes_done es ≡ true
unrefused_takes [] h = refl
unrefused_takes (Refused code ∷ es) h = absurd (true≢false h)
unrefused_takes (x ∷ es) h = refl

-- ---- behind an event

-- no job is given out, and none comes in
still_out : (out : List JobOut) (log : List Entry) (e : Event) (seat : ℕ) (more : List Entry) → claims (log ++ In e seat ∷ more) ≡ claims log →
    AreOut out log None → AreOut out (log ++ In e seat ∷ more) None
still_out out log e seat more same h j some few =
    elim (h j some (subst (λ ws. j ≤ length ws) same few)) [ inl k ↦ inl k | inr k ↦ inr (handed_more j log e seat more k) ]

-- a job is given out
one_given : (out : List JobOut) (log : List Entry) (e : Event) (seat w n : ℕ) (more : List Entry) → length (claims (log ++ In e seat ∷ more)) ≡ n →
    n ≡ length (claims log) + 1 → AreOut out log None → AreOut (out ++ record { job = n; worker = w } ∷ []) (log ++ In e seat ∷ more) None
one_given out log e seat w n more now is h j some few = by_test (n == j) refl
  where
    out_now : List JobOut
    out_now = out ++ record { job = n; worker = w } ∷ []

    by_test : (b : Bool) → (n == j) ≡ b → (has_job j out_now ≡ true) ⊎ (is_handed_in j (log ++ In e seat ∷ more) ≡ true)
    by_test true same = inl (subst (λ i. has_job i out_now ≡ true) (eqb-true n j same) (has_last n w out))
    by_test false other =
        let apart : n ≡ j → ⊥ = eqb-false n j other in
        let before : j ≤ length (claims log) = omega (arith, few, now, is, apart) in
        elim (h j some before) [ inl k ↦ inl (has_more j out (record { job = n; worker = w } ∷ []) k) | inr k ↦ inr (handed_more j log e seat more k) ]

-- a job comes in
one_in : (out : List JobOut) (log : List Entry) (i seat : ℕ) (more : List Entry) → takes_done more ≡ true →
    claims (log ++ In (Commit i) seat ∷ more) ≡ claims log →
    AreOut out log None → AreOut (without i out) (log ++ In (Commit i) seat ∷ more) None
one_in out log i seat more takes_it same h j some few = by_test (i == j) refl
  where
    by_test : (b : Bool) → (i == j) ≡ b → (has_job j (without i out) ≡ true) ⊎ (is_handed_in j (log ++ In (Commit i) seat ∷ more) ≡ true)
    by_test true is = inr (subst (λ k. is_handed_in k (log ++ In (Commit i) seat ∷ more) ≡ true) (eqb-true i j is) (handed_now i log seat more takes_it))
    by_test false other = elim (h j some (subst (λ ws. j ≤ length ws) same few))
        [ inl k ↦ inl (has_others i j out other k) | inr k ↦ inr (handed_more j log (Commit i) seat more k) ]

-- ---- by what is answered

pub no_claim : (log : List Entry) (e : Event) (seat : ℕ) (es : List Entry) → are_parts es ≡ true → claim_in e ≡ [] → claims (log ++ In e seat ∷ es) ≡ claims log
no_claim log e seat es quiet none =
    claims-event log e seat es (no_event es quiet) (not_refused es quiet) ∙ ap (λ ws. claims log ++ ws) none ∙ append-nil (claims log)

claim_out : (out : List JobOut) (log : List Entry) (c : ClusterState) (w seat : ℕ) (handed : CommitInput) (told : Reply) (es : List Entry) → are_parts es ≡ true →
    length (claims log) ≡ length c.jobs → refusal c (Claim w) handed ≡ None → GivesThat (given_out c (Claim w)) told → AreOut out log None →
    AreOut (out_behind (Claim w) told out) (log ++ In (Claim w) seat ∷ es) None
claim_out out log c w seat handed told es quiet same r tells h =
    let g = claim_gives c w handed r in
    let is : told ≡ GivesJob g.0 = subst (λ o. GivesThat o told) g.1 tells in
    let number : g.0.number ≡ length (claims log) + 1 = g.2 ∙ ap (λ n. n + 1) (sym same) in
    let more = length-append (claims log) (claim_in (Claim w)) in
    let claimed : length (claims (log ++ In (Claim w) seat ∷ es)) ≡ length (claims log ++ claim_in (Claim w)) =
    ap length (claims-event log (Claim w) seat es (no_event es quiet) (not_refused es quiet)) in
    subst (λ t. AreOut (out_behind (Claim w) t out) (log ++ In (Claim w) seat ∷ es) None) (sym is)
    (one_given out log (Claim w) seat w g.0.number es (omega (arith, more, claimed, number)) number h)

-- an event of another kind is taken
other_out : (out : List JobOut) (log : List Entry) (e : Event) (seat : ℕ) (told : Reply) (es : List Entry) → are_parts es ≡ true → told ≡ Accepts →
    claim_in e ≡ [] → out_behind e Accepts out ≡ out → AreOut out log None → AreOut (out_behind e told out) (log ++ In e seat ∷ es) None
other_out out log e seat told es quiet is none same h =
    subst (λ t. AreOut (out_behind e t out) (log ++ In e seat ∷ es) None) (sym is)
    (subst (λ o. AreOut o (log ++ In e seat ∷ es) None) (sym same) (still_out out log e seat es (no_claim log e seat es quiet none) h))

taken_out : (out : List JobOut) (log : List Entry) (c : ClusterState) (e : Event) (seat : ℕ) (handed : CommitInput) (told : Reply) (es : List Entry) → are_parts es ≡ true →
    length (claims log) ≡ length c.jobs → refusal c e handed ≡ None → GivesThat (given_out c e) told → AreOut out log None →
    AreOut (out_behind e told out) (log ++ In e seat ∷ es) None
taken_out out log c (Claim w) seat handed told es quiet same r tells h = claim_out out log c w seat handed told es quiet same r tells h
taken_out out log c (Commit j) seat handed told es quiet same r tells h =
    subst (λ t. AreOut (out_behind (Commit j) t out) (log ++ In (Commit j) seat ∷ es) None) (sym tells)
    (one_in out log j seat es (unrefused_takes es (not_refused es quiet)) (no_claim log (Commit j) seat es quiet refl) h)
taken_out out log c (Deliver k) seat handed told es quiet same r tells h = other_out out log (Deliver k) seat told es quiet tells refl refl h
taken_out out log c (Tick w) seat handed told es quiet same r tells h = other_out out log (Tick w) seat told es quiet tells refl refl h
taken_out out log c (Notice w v) seat handed told es quiet same r tells h = other_out out log (Notice w v) seat told es quiet tells refl refl h
taken_out out log c (NoticeNode w m) seat handed told es quiet same r tells h = other_out out log (NoticeNode w m) seat told es quiet tells refl refl h
taken_out out log c (Evict m o) seat handed told es quiet same r tells h = other_out out log (Evict m o) seat told es quiet tells refl refl h
taken_out out log c (Lose m o) seat handed told es quiet same r tells h = other_out out log (Lose m o) seat told es quiet tells refl refl h
taken_out out log c (Kill w) seat handed told es quiet same r tells h = other_out out log (Kill w) seat told es quiet tells refl refl h
taken_out out log c (KillNode m) seat handed told es quiet same r tells h = other_out out log (KillNode m) seat told es quiet tells refl refl h
taken_out out log c Join seat handed told es quiet same r tells h = other_out out log Join seat told es quiet tells refl refl h

pub refused_claims : (log : List Entry) (e : Event) (seat : ℕ) (code : Refusal) → claims (log ++ In e seat ∷ Refused code ∷ []) ≡ claims log
refused_claims log e seat code = ap (λ es. flat_map claim_in es) (accepted-refused log e seat code)

-- what is refused leaves the jobs that are out as they are, but where its worker is dead
refused_still : (out : List JobOut) (log : List Entry) (e : Event) (seat : ℕ) (code : Refusal) → out_behind e (Refuses code) out ≡ out → AreOut out log None →
    AreOut (out_behind e (Refuses code) out) (log ++ In e seat ∷ Refused code ∷ []) None
refused_still out log e seat code same h =
    subst (λ o. AreOut o (log ++ In e seat ∷ Refused code ∷ []) None) (sym same)
    (still_out out log e seat (Refused code ∷ []) (refused_claims log e seat code) h)

-- a commit is refused, for any cause but that
abbrev is_stale : Refusal → Bool
is_stale Stale = true
is_stale _ = false

commit_same : (out : List JobOut) (j : ℕ) (code : Refusal) → is_stale code ≡ false → out_behind (Commit j) (Refuses code) out ≡ out
commit_same out j Stale h = absurd (true≢false h)
commit_same out j code h = refl

others_same : (out : List JobOut) (e : Event) (code : Refusal) → is_stale code ≡ false → out_behind e (Refuses code) out ≡ out
others_same out (Commit j) code h = commit_same out j code h
others_same out e code h = refl

stale_out : (out : List JobOut) (log : List Entry) (e : Event) (seat : ℕ) → AreOut out log None →
    AreOut (out_behind e (Refuses Stale) out) (log ++ In e seat ∷ Refused Stale ∷ []) None
stale_out out log (Commit j) seat h = one_in out log j seat (Refused Stale ∷ []) refl (refused_claims log (Commit j) seat Stale) h
stale_out out log e seat h = refused_still out log e seat Stale refl h

refused_out : (out : List JobOut) (log : List Entry) (e : Event) (seat : ℕ) (code : Refusal) → AreOut out log None →
    AreOut (out_behind e (Refuses code) out) (log ++ In e seat ∷ Refused code ∷ []) (given_up_by (Refuses code) None)
refused_out out log e seat Limit h = tt
refused_out out log e seat Halted h = tt
refused_out out log e seat NoMemory h = tt
refused_out out log e seat Stale h = stale_out out log e seat h
refused_out out log e seat code h = refused_still out log e seat code (others_same out e code refl) h

-- what is told of an event that is taken gives nothing up
pub taken_goes_on : (given : Option Job) (told : Reply) → GivesThat given told → given_up_by told None ≡ None
taken_goes_on None told tells = ap (λ t. given_up_by t None) tells
taken_goes_on (Some job) told tells = ap (λ t. given_up_by t None) tells

-- so many, and with them what is known of limits
pub record IsKept (out : List JobOut) (log : List Entry) (g : Option Refusal) : Type 0 where
  pub jobs : AreOut out log g
  pub within : IsWithinLimits log g

-- ---- limits

-- no entry of an event that is taken says that it was refused
none_refused : (es : List Entry) (code : Refusal) → are_parts es ≡ true → Among (Refused code) es → ⊥
none_refused [] code quiet h = among-nothing (Refused code) h
none_refused (x ∷ es) code quiet (zero, e) =
    let same : x ≡ Refused code = cc in
    true≢false (sym (and_left (is_part x) (are_parts es) quiet) ∙ ap is_part same)
none_refused (x ∷ es) code quiet (suc k, e) = none_refused es code (and_right (is_part x) (are_parts es) quiet) (k, e)

taken_within : (log : List Entry) (e : Event) (seat : ℕ) (es : List Entry) → are_parts es ≡ true → IsWithinLimits log None →
    IsWithinLimits (log ++ In e seat ∷ es) None
taken_within log e seat es quiet h limited = by_place (among-append_cases log (In e seat ∷ es) (Refused Limit) limited)
  where
    by_place : Among (Refused Limit) log ⊎ Among (Refused Limit) (In e seat ∷ es) → ⊥
    by_place (inl k) = h k
    by_place (inr (zero, k)) = cc
    by_place (inr (suc n, k)) = none_refused es Limit quiet (n, k)

abbrev is_limit : Refusal → Bool
is_limit Limit = true
is_limit _ = false

other_within : (log : List Entry) (e : Event) (seat : ℕ) (code : Refusal) → is_limit code ≡ false → IsWithinLimits log None →
    IsWithinLimits (log ++ In e seat ∷ Refused code ∷ []) None
other_within log e seat code other h limited = by_place (among-append_cases log (In e seat ∷ Refused code ∷ []) (Refused Limit) limited)
  where
    by_place : Among (Refused Limit) log ⊎ Among (Refused Limit) (In e seat ∷ Refused code ∷ []) → ⊥
    by_place (inl k) = h k
    by_place (inr (zero, k)) = cc
    by_place (inr (suc zero, k)) =
        let same : code ≡ Limit = cc in
        true≢false (sym (ap is_limit same) ∙ other)
    by_place (inr (suc (suc n), k)) = cc

refused_within : (log : List Entry) (e : Event) (seat : ℕ) (code : Refusal) → IsWithinLimits log None →
    IsWithinLimits (log ++ In e seat ∷ Refused code ∷ []) (given_up_by (Refuses code) None)
refused_within log e seat Limit h = tt
refused_within log e seat Halted h = tt
refused_within log e seat NoMemory h = tt
refused_within log e seat code h = other_within log e seat code refl h

-- ---- behind an event with its answer

abbrev KeptBehind : List JobOut → List Entry → ClusterState → Event → ℕ → answers.Answer → Reply → Type 0
KeptBehind out log c e seat a told = IsKept (out_behind e told out) (log ++ logged e seat a) (given_up_by told None)

refused_kept : (out : List JobOut) (log : List Entry) (c : ClusterState) (e : Event) (seat : ℕ) (code : Refusal) (told : Reply) → Tells (answers.Refuses code) told →
    IsKept out log None → KeptBehind out log c e seat (answers.Refuses code) told
refused_kept out log c e seat code told tells h =
    subst (λ t. KeptBehind out log c e seat (answers.Refuses code) t) (sym tells)
    (record { jobs = refused_out out log e seat code h.jobs; within = refused_within log e seat code h.within })

taken_kept : (out : List JobOut) (log : List Entry) (c : ClusterState) (e : Event) (seat : ℕ) (handed : CommitInput) (told : Reply) →
    length (claims log) ≡ length c.jobs → refusal c e handed ≡ None → GivesThat (given_out c e) told → IsKept out log None →
    KeptBehind out log c e seat (takes (happens c e handed) (given_out c e)) told
taken_kept out log c e seat handed told same r tells h =
    let es : List Entry = (happens c e handed).out.entries in
    let quiet : are_parts es ≡ true = (happens-counted c e handed).quiet in
    subst (λ g. IsKept (out_behind e told out) (log ++ In e seat ∷ es) g) (sym (taken_goes_on (given_out c e) told tells))
    (record {
      jobs = taken_out out log c e seat handed told es quiet same r tells h.jobs;
      within = taken_within log e seat es quiet h.within;
    })

limited_kept : (out : List JobOut) (log : List Entry) (c : ClusterState) (e : Event) (seat : ℕ) (handed : CommitInput) (told : Reply) →
    length (claims log) ≡ length c.jobs → refusal c e handed ≡ None → IsKept out log None → (b : Bool) →
    Tells (if b then takes (happens c e handed) (given_out c e) else answers.Refuses Limit) told →
    KeptBehind out log c e seat (if b then takes (happens c e handed) (given_out c e) else answers.Refuses Limit) told
limited_kept out log c e seat handed told same r h true tells = taken_kept out log c e seat handed told same r tells h
limited_kept out log c e seat handed told same r h false tells = refused_kept out log c e seat Limit told tells h

decided_kept : (out : List JobOut) (log : List Entry) (c : ClusterState) (e : Event) (seat : ℕ) (handed : CommitInput) (told : Reply) →
    length (claims log) ≡ length c.jobs → IsKept out log None → (o : Option Refusal) → refusal c e handed ≡ o → Tells (decided c e handed o) told →
    KeptBehind out log c e seat (decided c e handed o) told
decided_kept out log c e seat handed told same h None r tells =
    limited_kept out log c e seat handed told same r h (is_within_limits (happens c e handed).whole) tells
decided_kept out log c e seat handed told same h (Some code) r tells = refused_kept out log c e seat code told tells h

-- once it is given up nothing more is said
given_up_kept : (out : List JobOut) (log : List Entry) (told : Reply) (x : Refusal) → IsKept out log (given_up_by told (Some x))
given_up_kept out log told x = subst (IsKept out log) (sym (stays_so told x)) (record { jobs = tt; within = tt })

goes_on_kept : (out : List JobOut) (before after : RunState) (e : Event) (seat : ℕ) (done : Option Done) (told : Reply) → ClaimsGaveJobs before →
    Answers before e seat done after told → IsKept out before.log None → IsKept (out_behind e told out) after.log (given_up_by told None)
goes_on_kept out before after e seat done told counted answers h = by_halt before.is_halted refl
  where
    ends : (code : Refusal) → told ≡ Refuses code → given_up_by (Refuses code) None ≡ Some code →
        IsKept (out_behind e told out) after.log (given_up_by told None)
    ends code is gives_up =
        subst (IsKept (out_behind e told out) after.log) (sym (ap (λ t. given_up_by t None) is ∙ gives_up)) (record { jobs = tt; within = tt })

    follows : before.is_halted ≡ false → Follows before e seat done after told → IsKept (out_behind e told out) after.log (given_up_by told None)
    follows goes (inl ran_out) = ends NoMemory ran_out.told_so refl
    follows goes (inr (handed, is_handed, is)) =
        subst (λ l. IsKept (out_behind e told out) l (given_up_by told None)) (sym is.log)
        (decided_kept out before.log before.whole e seat handed told (counted goes) h (refusal before.whole e handed) refl is.told_so)

    by_halt : (b : Bool) → before.is_halted ≡ b → IsKept (out_behind e told out) after.log (given_up_by told None)
    by_halt true f = ends Halted (answers.halted f).1 refl
    by_halt false f = follows f (answers.follows f)

first_kept : (out : List JobOut) (log : List Entry) (g : Option Refusal) (x : Refusal) → IsKept out log (or_first g x)
first_kept out log None x = record { jobs = tt; within = tt }
first_kept out log (Some y) x = record { jobs = tt; within = tt }

-- and where there is no memory to keep that a job is out
pub kept_behind : (out : List JobOut) (g : Option Refusal) (before after : RunState) (e : Event) (seat : ℕ) (done : Option Done) (told : Reply)
    (out_now : List JobOut) (g_now : Option Refusal) → ClaimsGaveJobs before → Answers before e seat done after told → IsKept out before.log g →
    KeepsOut e told out g out_now g_now → IsKept out_now after.log g_now
kept_behind out g before after e seat ran told out_now g_now counted answers h (inr kept) =
    subst (IsKept out_now after.log) (sym kept.1) (first_kept out_now after.log (given_up_by told g) NoMemory)
kept_behind out None before after e seat ran told out_now g_now counted answers h (inl kept) =
    subst (λ o. IsKept o after.log g_now) (sym kept.0)
    (subst (IsKept (out_behind e told out) after.log) (sym kept.1) (goes_on_kept out before after e seat ran told counted answers h))
kept_behind out (Some x) before after e seat ran told out_now g_now counted answers h (inl kept) =
    subst (IsKept out_now after.log) (sym kept.1) (given_up_kept out_now after.log told x)

-- ---- a run that begins, and one that is at its end

none_claimed : length (claims opening) ≡ 0
unfolding accepted_events
none_claimed = refl

none_limited : WasLimited opening → ⊥
none_limited (zero, k) = cc
none_limited (suc zero, k) = cc
none_limited (suc (suc zero), k) = cc
none_limited (suc (suc (suc n)), k) = cc

pub none_out_yet : (log : List Entry) → log ≡ opening → IsKept [] log None
none_out_yet log is = subst (λ l. IsKept [] l None) (sym is) (record {
  jobs = λ j some few. absurd (omega (arith, some, few, none_claimed));
  within = none_limited;
})

no_job : (j : ℕ) (out : List JobOut) → length out ≡ 0 → has_job j out ≡ false
no_job j [] none = refl
no_job j (x ∷ out) none = absurd (omega (arith, none))

-- where no job is out, each was handed in
pub all_handed_in : (out : List JobOut) (log : List Entry) → length out ≡ 0 → AreOut out log None → AllHandedIn log
all_handed_in out log none h j some few =
    elim (h j some few) [ inl k ↦ absurd (true≢false (sym k ∙ no_job j out none)) | inr k ↦ k ]
