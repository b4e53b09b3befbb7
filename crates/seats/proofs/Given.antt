-- What has a ticket is out as it was given out, behind each turn and each commit.
use Rattle.std.proofs.Common.{◌≡◌, ◌⊎◌, ◌+◌, ℕ, suc, zero, true, false, Bool, List, [], ◌∷◌, ◌++◌, length, Option, Some, None}
use Rattle.std.proofs.Common.{refl, sym, ap, ◌∙◌, subst, inl, inr, arith}
use Rattle.std.specs.Prelude.{◌==◌, if◌then◌else◌, slice_get}
use Rattle.std.proofs.lemmas.Bool.{eqb-true, true≢false}
use Rattle.segment.specs.Jobs.{Done, JobParts}
use Rattle.event_files.specs.declared.plan.PlanLine.{PlanLine}
use Rattle.event_log.specs.Entries.{Event, Claim, Commit}
use Rattle.event_log.specs.Entries.{Refusal, Stale, Limit, Halted, NoMemory}
use Rattle.event_log.specs.Events.{claims}
use Rattle.job_laws.specs.Standing.{ClaimsGiveJobsOut, JobsStand}
use Rattle.job_tickets.specs.declared.law.Claim.{Claim as Ticket}
use Rattle.job_tickets.specs.Tickets.{TakenBack, taken_back}
use Rattle.meaning.specs.Syntax.{Script}
use Rattle.protocol.specs.Answers.{Answer, Step, answer, decided, given_out, takes, whole_after}
use Rattle.protocol.specs.Answers as answers
use Rattle.protocol.specs.Cluster.{ClusterState}
use Rattle.protocol.specs.Events.{happens}
use Rattle.protocol.specs.Jobs.{CommitInput}
use Rattle.protocol.specs.Refusals.{is_within_limits, refusal}
use Rattle.run_paths.specs.of_protocol_board.Cores.{GivesJob, GivesThat, Reply, Accepts, Refuses, Tells, Answers, Applies, Follows}
use Rattle.run_paths.specs.of_protocol_board.Cores.{IsOut, IsSoundRun}
use Rattle.seats.specs.Counted.{ClaimsGaveJobs}
use Rattle.seats.specs.Held.{AllHeld, AreHeld, AreOutside, IsFor, IsHeld, IsStillOut, StayHeld, StayOut, given_behind}
use Rattle.seats.specs.Outside.{MayApply}
use Rattle.seats.specs.Owed.{has_job}
use Rattle.seats.specs.Ruled.{HandsIn}
use Rattle.seats.specs.Turns.{Choice, Does, Ends, Plans, Waits, IsDone, KeepsOut, Takes, Told, TurnState, Turned, TurnedBy}
use Rattle.seats.specs.Turns.{choice, given_up_by, or_first, out_behind, past_line, told_by}
use Rattle.seats.specs.declared.outs.JobOut.{JobOut}
use Rattle.seats.proofs.Held.{is_committing, named_quiet}
use Rattle.seats.proofs.Jobs.{claim_gives}
use Rattle.seats.proofs.Outside.{stays_so}
use Rattle.seats.proofs.Owed.{has_last, has_more, has_others}

-- ---- lists of what was given out

some_same : {A : Type 0} (x y : A) → ◌≡◌ {A = Option A} (Some x) (Some y) → x ≡ y
some_same x y e = cc

none_some : {A : Type 0} (x : A) → ◌≡◌ {A = Option A} None (Some x) → ⊥
none_some x e = cc

-- at the end of a list is what was added
at_end : (given : List (Option JobParts)) (n : ℕ) (new job : JobParts) → slice_get (given ++ Some new ∷ []) n ≡ Some (Some job) →
    (slice_get given n ≡ Some (Some job)) ⊎ ((n ≡ length given) × (new ≡ job))
at_end [] zero new job e = inr (refl, some_same new job (some_same (Some new) (Some job) e))
at_end [] (suc n) new job e = absurd (none_some (Some job) e)
at_end (x ∷ given) zero new job e = inl e
at_end (x ∷ given) (suc n) new job e = elim (at_end given n new job e) [ inl k ↦ inl k | inr k ↦ inr (ap suc k.0, k.1) ]

-- what is left there once one is handed back was there before, at another place
left_there : (given : List (Option JobParts)) (n m : ℕ) (job : JobParts) → slice_get (taken_back n given) m ≡ Some (Some job) →
    (n ≡ m → ⊥) × (slice_get given m ≡ Some (Some job))
left_there [] n m job e = absurd (none_some (Some job) e)
left_there (x ∷ given) zero zero job e = absurd (none_some job (some_same None (Some job) e))
left_there (x ∷ given) zero (suc m) job e = ((λ same. absurd (omega (arith, same))), e)
left_there (x ∷ given) (suc n) zero job e = ((λ same. absurd (omega (arith, same))), e)
left_there (x ∷ given) (suc n) (suc m) job e =
    let k = left_there given n m job e in
    ((λ same. k.0 (omega (arith, same))), k.1)

-- ---- a job that is out stays so but for its commit

other_number : (i j : ℕ) → (Commit i ≡ Commit j → ⊥) → (i == j) ≡ false
other_number i j apart = by_test (i == j) refl
  where
    by_test : (b : Bool) → (i == j) ≡ b → (i == j) ≡ false
    by_test true is = absurd (apart (ap Commit (eqb-true i j is)))
    by_test false is = is

still_listed : (e : Event) (told : Reply) (out : List JobOut) (j : ℕ) → (e ≡ Commit j → ⊥) → has_job j out ≡ true → has_job j (out_behind e told out) ≡ true
still_listed (Claim w) (GivesJob job) out j apart h = has_more j out (record { job = job.number; worker = w } ∷ []) h
still_listed (Commit i) Accepts out j apart h = has_others i j out (other_number i j apart) h
still_listed (Commit i) (Refuses Stale) out j apart h = has_others i j out (other_number i j apart) h
still_listed e told out j apart h = h

-- ---- who gives a job out

-- a claim that was taken did
record GaveOut (c : ClusterState) (e : Event) (handed : CommitInput) (job : JobParts) : Type 0 where
  pub worker : ℕ
  pub is_claim : e ≡ Claim worker
  pub step : Step
  pub taken : answer c (Claim worker) handed ≡ answers.Takes step
  pub given : step.given ≡ Some job
  pub number : job.number ≡ length c.jobs + 1

apart_replies : (job : JobParts) (code : Refusal) → GivesJob job ≡ Refuses code → ⊥
apart_replies job code e = cc

apart_accepts : (job : JobParts) → GivesJob job ≡ Accepts → ⊥
apart_accepts job e = cc

same_job : (job other : JobParts) → GivesJob job ≡ GivesJob other → job ≡ other
same_job job other e = cc

gave_taken : (c : ClusterState) (e : Event) (handed : CommitInput) (job : JobParts) → refusal c e handed ≡ None →
    answer c e handed ≡ takes (happens c e handed) (given_out c e) → GivesThat (given_out c e) (GivesJob job) → GaveOut c e handed job
gave_taken c (Claim w) handed job r is tells =
    let g = claim_gives c w handed r in
    let same : job ≡ g.0 = same_job job g.0 (subst (λ o. GivesThat o (GivesJob job)) g.1 tells) in
    record {
      worker = w;
      is_claim = refl;
      step = record {
        whole = (happens c (Claim w) handed).whole;
        entries = (happens c (Claim w) handed).out.entries;
        envelopes = (happens c (Claim w) handed).out.envelopes;
        given = given_out c (Claim w);
      };
      taken = is;
      given = g.1 ∙ ap (λ (x : JobParts). Some x) (sym same);
      number = ap (λ (x : JobParts). x.number) same ∙ g.2;
    }
gave_taken c e handed job r is tells = absurd (apart_accepts job tells)

gave_limited : (c : ClusterState) (e : Event) (handed : CommitInput) (job : JobParts) → refusal c e handed ≡ None → (b : Bool) →
    answer c e handed ≡ (if b then takes (happens c e handed) (given_out c e) else answers.Refuses Limit) →
    Tells (if b then takes (happens c e handed) (given_out c e) else answers.Refuses Limit) (GivesJob job) → GaveOut c e handed job
gave_limited c e handed job r true is tells = gave_taken c e handed job r is tells
gave_limited c e handed job r false is tells = absurd (apart_replies job Limit tells)

gave_decided : (c : ClusterState) (e : Event) (handed : CommitInput) (job : JobParts) (o : Option Refusal) → refusal c e handed ≡ o →
    answer c e handed ≡ decided c e handed o → Tells (decided c e handed o) (GivesJob job) → GaveOut c e handed job
gave_decided c e handed job None r is tells = gave_limited c e handed job r (is_within_limits (happens c e handed).whole) is tells
gave_decided c e handed job (Some code) r is tells = absurd (apart_replies job code tells)

gave_out : (c : ClusterState) (e : Event) (handed : CommitInput) (job : JobParts) → Tells (answer c e handed) (GivesJob job) → GaveOut c e handed job
gave_out c e handed job tells = gave_decided c e handed job (refusal c e handed) refl refl tells

-- ---- behind an event

-- the run behind the event, with the jobs that are out: no memory was wanting, so it goes on
record GoesBehind (before after : TurnState) (e : Event) (seat : ℕ) (done : Option Done) (told : Reply) : Type 0 where
  pub goes : before.run.is_halted ≡ false
  pub applies : Applies before.run e seat done after.run told
  pub out : after.out ≡ out_behind e told before.out

-- or it is given up
abbrev Behind : TurnState → TurnState → Event → ℕ → Option Done → Reply → Type 0
Behind before after e seat done told = GoesBehind before after e seat done told ⊎ ((x : Refusal) × (after.given_up ≡ Some x))

or_given : (g : Option Refusal) (x : Refusal) → (y : Refusal) × (or_first g x ≡ Some y)
or_given None x = (x, refl)
or_given (Some y) x = (y, refl)

behind : (before after : TurnState) (e : Event) (seat : ℕ) (done : Option Done) (told : Reply) → Answers before.run e seat done after.run told →
    KeepsOut e told before.out before.given_up after.out after.given_up → Behind before after e seat done told
behind before after e seat work told answers (inr kept) =
    let g = or_given (given_up_by told before.given_up) NoMemory in
    inr (g.0, kept.1 ∙ g.1)
behind before after e seat work told answers (inl kept) = by_halt before.run.is_halted refl
  where
    ends : (code : Refusal) → told ≡ Refuses code → given_up_by (Refuses code) before.given_up ≡ or_first before.given_up code →
        GoesBehind before after e seat work told ⊎ ((x : Refusal) × (after.given_up ≡ Some x))
    ends code is gives =
        let g = or_given before.given_up code in
        inr (g.0, kept.1 ∙ ap (λ t. given_up_by t before.given_up) is ∙ gives ∙ g.1)

    follows : before.run.is_halted ≡ false → Follows before.run e seat work after.run told →
        GoesBehind before after e seat work told ⊎ ((x : Refusal) × (after.given_up ≡ Some x))
    follows goes (inl out) = ends NoMemory out.told_so refl
    follows goes (inr applies) = inl (record { goes = goes; applies = applies; out = kept.0 })

    by_halt : (b : Bool) → before.run.is_halted ≡ b → GoesBehind before after e seat work told ⊎ ((x : Refusal) × (after.given_up ≡ Some x))
    by_halt true f = ends Halted (answers.halted f).1 refl
    by_halt false f = follows f (answers.follows f)

-- a job of another number stays
held_still : (script : Script) → JobsStand → (before after : TurnState) (e : Event) (seat : ℕ) (done : Option Done) (told : Reply) → IsSoundRun script before.run →
    GoesBehind before after e seat done told → (job : JobParts) → (e ≡ Commit job.number → ⊥) → IsHeld before job → IsHeld after job
held_still script stand before after e seat work told sound b job apart h =
    let is = b.applies.2 in (
      ap (has_job job.number) b.out ∙ still_listed e told before.out job.number apart h.0,
      subst (λ w. IsOut w job.number job) (sym is.whole)
          (stand _ before.run.log before.run.whole (sound.sound b.goes) e b.applies.0 job.number job apart h.1),
    )

no_commit_of : (e : Event) (j : ℕ) → is_committing e ≡ false → e ≡ Commit j → ⊥
no_commit_of e j quiet is = true≢false (sym (ap is_committing is) ∙ quiet)

-- ---- behind a turn

module _ (script : Script) (is_open : Bool) (plan : List PlanLine) (stand : JobsStand) (gives : ClaimsGiveJobsOut) (given : List (Option JobParts)) where
  -- the run is given up
  stays_given_up : (u : TurnState) (x : Refusal) (now : List (Option JobParts)) → u.given_up ≡ Some x → StayOut is_open plan u u.given_up now
  stays_given_up u x now is = subst (λ g. StayOut is_open plan u g now) (sym is) tt

  -- each event that comes in a turn is no commit
  stay_quiet : (t u : TurnState) (e : Event) (seat : ℕ) (told : Reply) → IsSoundRun script t.run → GoesBehind t u e seat None told → is_committing e ≡ false →
      AllHeld t given → AllHeld u given
  stay_quiet t u e seat told sound b quiet h = record {
    out = λ n job at. held_still script stand t u e seat None told sound b job (no_commit_of e job.number quiet) (h.out n job at);
    apart = h.apart;
  }

  -- the job that it gives out has the last ticket
  stay_given : (t u : TurnState) (e : Event) (seat : ℕ) (job : JobParts) → IsSoundRun script t.run → ClaimsGaveJobs t.run → GoesBehind t u e seat None (GivesJob job) →
      is_committing e ≡ false → AreHeld t.out t.run.log → AllHeld t given → AllHeld u (given ++ Some job ∷ [])
  stay_given t u e seat job sound counted b quiet held h = record {
    out = λ n other at. by_place n other (at_end given n job other at);
    apart = λ n m one other at_n at_m same. by_places n m one other same (at_end given n job one at_n) (at_end given m job other at_m);
  }
    where
      g : GaveOut t.run.whole e b.applies.0 job
      g = gave_out t.run.whole e b.applies.0 job b.applies.2.told_so

      number : job.number ≡ length (claims t.run.log) + 1
      number = g.number ∙ ap (λ n. n + 1) (sym (counted b.goes))

      -- its number is a new one
      older : (n : ℕ) (other : JobParts) → slice_get given n ≡ Some (Some other) → other.number ≡ job.number → ⊥
      older n other at same = let few = (held.unhanded other.number (h.out n other at).0).1 in omega (arith, few, same, number)

      whole_is : u.run.whole ≡ g.step.whole
      whole_is = b.applies.2.whole ∙ ap (λ x. whole_after t.run.whole (answer t.run.whole x b.applies.0)) g.is_claim ∙ ap (whole_after t.run.whole) g.taken

      new_held : IsHeld u job
      new_held = (
        ap (has_job job.number) (b.out ∙ ap (λ x. out_behind x (GivesJob job) t.out) g.is_claim) ∙ has_last job.number g.worker t.out,
        subst (λ n. IsOut u.run.whole n job) (sym g.number)
            (subst (λ w. IsOut w (length t.run.whole.jobs + 1) job) (sym whole_is) (gives t.run.whole g.worker b.applies.0 g.step job g.taken g.given)),
      )

      by_place : (n : ℕ) (other : JobParts) → (slice_get given n ≡ Some (Some other)) ⊎ ((n ≡ length given) × (job ≡ other)) → IsHeld u other
      by_place n other (inl at) =
          held_still script stand t u e seat None (GivesJob job) sound b other (no_commit_of e other.number quiet) (h.out n other at)
      by_place n other (inr k) = subst (IsHeld u) k.1 new_held

      by_places : (n m : ℕ) (one other : JobParts) → one.number ≡ other.number → (slice_get given n ≡ Some (Some one)) ⊎ ((n ≡ length given) × (job ≡ one)) →
          (slice_get given m ≡ Some (Some other)) ⊎ ((m ≡ length given) × (job ≡ other)) → n ≡ m
      by_places n m one other same (inl a) (inl b) = h.apart n m one other a b same
      by_places n m one other same (inl a) (inr b) = absurd (older n one a (same ∙ ap (λ (x : JobParts). x.number) (sym b.1)))
      by_places n m one other same (inr a) (inl b) = absurd (older m other b (sym same ∙ ap (λ (x : JobParts). x.number) (sym a.1)))
      by_places n m one other same (inr a) (inr b) = a.0 ∙ sym b.0

  -- by what is told
  stay_told : (t u : TurnState) (e : Event) (seat : ℕ) (told : Reply) → IsSoundRun script t.run → ClaimsGaveJobs t.run → GoesBehind t u e seat None told →
      is_committing e ≡ false → AreHeld t.out t.run.log → AllHeld t given → AllHeld u (given_behind (told_by told) given)
  stay_told t u e seat (GivesJob job) sound counted b quiet held h = stay_given t u e seat job sound counted b quiet held h
  stay_told t u e seat Accepts sound counted b quiet held h = stay_quiet t u e seat Accepts sound b quiet h
  stay_told t u e seat (Refuses code) sound counted b quiet held h = stay_quiet t u e seat (Refuses code) sound b quiet h

  -- unless it is given up
  for_any : (u : TurnState) (g : Option Refusal) (now : List (Option JobParts)) → (is_open ≡ false → AreOutside plan → AllHeld u now) → StayOut is_open plan u g now
  for_any u None now h = h
  for_any u (Some x) now h = tt

  module _ (t u : TurnState) (sound : IsSoundRun script t.run) (counted : ClaimsGaveJobs t.run) (planned : t.plan ≡ plan)
      (held : StayHeld is_open plan t.out t.run.log t.given_up) (stays : StayOut is_open plan t t.given_up given) (free : t.given_up ≡ None) where
    now_held : is_open ≡ false → AreOutside plan → AreHeld t.out t.run.log
    now_held = subst (StayHeld is_open plan t.out t.run.log) free held

    now_out : is_open ≡ false → AreOutside plan → AllHeld t given
    now_out = subst (λ g. StayOut is_open plan t g given) free stays

    takes_stay : (b : TurnState) (e : Event) (taken seat : ℕ) (told : Told) → b ≡ record t { taken = taken } →
        (AreOutside plan → is_committing e ≡ false) → Takes b e seat u told → StayOut is_open plan u u.given_up (given_behind told given)
    takes_stay b e taken seat told is quiet k =
        let run_is : b.run ≡ t.run = ap (λ (x : TurnState). x.run) is in
        let kept : KeepsOut e k.reply t.out t.given_up u.out u.given_up =
        subst (λ (x : TurnState). KeepsOut e k.reply x.out x.given_up u.out u.given_up) is k.follows.kept in
        by_behind k.reply k.told_so (behind t u e seat None k.reply (subst (λ r. Answers r e seat None u.run k.reply) run_is k.answers) kept)
      where
        by_behind : (reply : Reply) → told ≡ told_by reply → GoesBehind t u e seat None reply ⊎ ((x : Refusal) × (u.given_up ≡ Some x)) →
            StayOut is_open plan u u.given_up (given_behind told given)
        by_behind reply so (inl goes) =
            for_any u u.given_up (given_behind told given)
            (λ closed outside. subst (λ z. AllHeld u (given_behind z given)) (sym so)
            (stay_told t u e seat reply sound counted goes (quiet outside) (now_held closed outside) (now_out closed outside)))
        by_behind reply so (inr given_up) = stays_given_up u given_up.0 (given_behind told given) given_up.1

    same_stays : (told : Told) → given_behind told given ≡ given → u ≡ t → StayOut is_open plan u u.given_up (given_behind told given)
    same_stays told none same =
        subst (StayOut is_open plan u u.given_up) (sym none) (subst (λ (x : TurnState). StayOut is_open plan x x.given_up given) (sym same) stays)

    done_stays : (seat : ℕ) (told : Told) (c : Choice) → choice t ≡ c → IsDone t c seat u told → StayOut is_open plan u u.given_up (given_behind told given)
    done_stays seat told (Does e) is k = takes_stay t e t.taken seat told refl (λ outside. named_quiet plan t e t.taken planned outside (inl (is, refl))) k
    done_stays seat told (Plans e) is k =
        takes_stay (record t { taken = past_line t.plan t.taken }) e (past_line t.plan t.taken) seat told refl
        (λ outside. named_quiet plan t e (past_line t.plan t.taken) planned outside (inr (is, refl))) k
    done_stays seat told Waits is k = same_stays told (ap (λ z. given_behind z given) k.1) k.0
    done_stays seat told Ends is k = same_stays told (ap (λ z. given_behind z given) k.1) k.0

  pub turn_stays : (t u : TurnState) (seat : ℕ) (told : Told) → IsSoundRun script t.run → ClaimsGaveJobs t.run → t.plan ≡ plan →
      StayHeld is_open plan t.out t.run.log t.given_up → StayOut is_open plan t t.given_up given → Turned t seat u told →
      StayOut is_open plan u u.given_up (given_behind told given)
  turn_stays t u seat told sound counted planned held stays turned = by_given t.given_up refl turned
    where
      by_given : (g : Option Refusal) → t.given_up ≡ g → TurnedBy g t seat u told → StayOut is_open plan u u.given_up (given_behind told given)
      by_given (Some x) is k = stays_given_up u x (given_behind told given) (ap (λ (z : TurnState). z.given_up) k.0 ∙ is)
      by_given None is (inl k) = done_stays t u sound counted planned held stays is seat told (choice t) refl k
      by_given None is (inr k) = stays_given_up u NoMemory (given_behind told given) (ap (λ (z : TurnState). z.given_up) k.0)

-- ---- behind a commit

-- what a ticket is for is still out
pub ticket_out : (is_open : Bool) (plan : List PlanLine) (t : TurnState) (given : List (Option JobParts)) (d : Done) (place : ℕ) →
    StayOut is_open plan t t.given_up given → t.plan ≡ plan → slice_get given place ≡ Some (Some d.job) → is_open ≡ false → IsStillOut t (Some d)
ticket_out is_open plan t given d place stays planned at closed = λ outside free.
    (subst (λ g. StayOut is_open plan t g given) free stays closed (subst AreOutside planned outside)).out place d.job at

still_given_up : (e : Event) (told : Reply) (out out_now : List JobOut) (x : Refusal) (now : Option Refusal) → KeepsOut e told out (Some x) out_now now →
    (y : Refusal) × (now ≡ Some y)
still_given_up e told out out_now x now (inl kept) = (x, kept.1 ∙ stays_so told x)
still_given_up e told out out_now x now (inr kept) =
    let g = or_given (given_up_by told (Some x)) NoMemory in
    (g.0, kept.1 ∙ g.1)

-- the others stay
pub commit_stays : (script : Script) (is_open : Bool) (plan : List PlanLine) → JobsStand → (given : List (Option JobParts)) (t u : TurnState) (e : Event) (seat : ℕ)
    (d : Done) (place : ℕ) (told : Reply) → e ≡ Commit d.job.number → IsSoundRun script t.run → StayOut is_open plan t t.given_up given →
    slice_get given place ≡ Some (Some d.job) → Answers t.run e seat (Some d) u.run told → KeepsOut e told t.out t.given_up u.out u.given_up →
    StayOut is_open plan u u.given_up (taken_back place given)
commit_stays script is_open plan stand given t u e seat d place told is sound stays at answers kept = by_given t.given_up refl
  where
    now : List (Option JobParts)
    now = taken_back place given

    given_up_now : (x : Refusal) → u.given_up ≡ Some x → StayOut is_open plan u u.given_up now
    given_up_now x gone = subst (λ g. StayOut is_open plan u g now) (sym gone) tt

    goes_on : (g : Option Refusal) → (is_open ≡ false → AreOutside plan → AllHeld u now) → StayOut is_open plan u g now
    goes_on None h = h
    goes_on (Some x) h = tt

    others : AllHeld t given → GoesBehind t u e seat (Some d) told → AllHeld u now
    others h b = record {
      out = λ n job there.
          let l = left_there given place n job there in
          held_still script stand t u e seat (Some d) told sound b job
          (λ same. l.0 (h.apart place n d.job job at l.1 (number (sym is ∙ same)))) (h.out n job l.1);
      apart = λ n m one other at_n at_m same.
          h.apart n m one other (left_there given place n one at_n).1 (left_there given place m other at_m).1 same;
    }
      where
        number : {i j : ℕ} → Commit i ≡ Commit j → i ≡ j
        number e = cc

    by_behind : t.given_up ≡ None → GoesBehind t u e seat (Some d) told ⊎ ((x : Refusal) × (u.given_up ≡ Some x)) → StayOut is_open plan u u.given_up now
    by_behind free (inl b) = goes_on u.given_up (λ closed outside. others (subst (λ g. StayOut is_open plan t g given) free stays closed outside) b)
    by_behind free (inr gone) = given_up_now gone.0 gone.1

    by_given : (g : Option Refusal) → t.given_up ≡ g → StayOut is_open plan u u.given_up now
    by_given None free = by_behind free (behind t u e seat (Some d) told answers kept)
    by_given (Some x) gone =
        let k = still_given_up e told t.out u.out x u.given_up (subst (λ g. KeepsOut e told t.out g u.out u.given_up) gone kept) in
        given_up_now k.0 k.1

-- ---- what is handed in may be

pub may_hand_in : (is_open : Bool) (plan : List PlanLine) (t : TurnState) (given : List (Option JobParts)) (e : Event) (d : Done) (place : ℕ) →
    e ≡ Commit d.job.number → StayOut is_open plan t t.given_up given → t.plan ≡ plan → slice_get given place ≡ Some (Some d.job) → MayApply is_open t e (Some d)
may_hand_in is_open plan t given e d place is stays planned at = by_open is_open refl
  where
    by_open : (b : Bool) → is_open ≡ b → MayApply is_open t e (Some d)
    by_open true opened = inr opened
    by_open false closed = inl (subst (λ x. HandsIn x (Some d)) (sym is) refl, ticket_out is_open plan t given d place stays planned at closed)

-- what a ticket says of the job on which it was done
pub handed_back : (d : Done) (ticket : Option (Ticket JobParts)) (before after : List (Option JobParts)) → IsFor d.job ticket → TakenBack ticket before after →
    (place : ℕ) × (slice_get before place ≡ Some (Some d.job)) × (after ≡ taken_back place before)
handed_back d ticket before after (place, is) taken =
    let k = subst (λ o. TakenBack o before after) is taken in
    (place, k.0, k.1)

-- ---- of an open run, and of one that begins, nothing is said

pub open_stays : (is_open : Bool) (plan : List PlanLine) (u : TurnState) (now : List (Option JobParts)) → is_open ≡ true → StayOut is_open plan u u.given_up now
open_stays is_open plan u now opened = by_given u.given_up
  where
    by_given : (g : Option Refusal) → StayOut is_open plan u g now
    by_given None = λ closed. absurd (true≢false (sym opened ∙ closed))
    by_given (Some x) = tt

no_ticket : (n : ℕ) (job : JobParts) → slice_get [] n ≡ Some (Some job) → ⊥
no_ticket n job at = none_some (Some job) at

pub none_given : (is_open : Bool) (plan : List PlanLine) (u : TurnState) (now : List (Option JobParts)) → now ≡ [] → StayOut is_open plan u u.given_up now
none_given is_open plan u now none = subst (StayOut is_open plan u u.given_up) (sym none) (by_given u.given_up)
  where
    by_given : (g : Option Refusal) → StayOut is_open plan u g []
    by_given None = λ closed outside. record {
      out = λ n job at. absurd (no_ticket n job at);
      apart = λ n m job other at _ same. absurd (no_ticket n job at);
    }
    by_given (Some x) = tt
