-- What an event makes of a run, its replay makes of the jobs that it has.
use Rattle.std.proofs.Common.{◌≡◌, ◌⊎◌, ◌<◌, ◌≤◌, ℕ, zero, suc, ◌+◌, true, false, List, [], ◌∷◌, ◌++◌, length, Option, Some, None, refl, sym}
use Rattle.std.proofs.Common.{ap, ◌∙◌, subst, arith, inl, inr, length-append}
use Rattle.std.specs.Prelude.{if◌then◌else◌, slice_get}
use Rattle.std.specs.Option.{option_flatten}
use Rattle.meaning.proofs.BirthLaws.{at_test}
use Rattle.segment.specs.Jobs.{JobParts}
use Rattle.event_log.specs.Entries.{Claim, Commit, Entry, Event, In, Refused}
use Rattle.event_log.specs.Entries.{Limit}
use Rattle.event_log.specs.Events.{claim_in}
use Rattle.event_log.specs.Rules.{Setting}
use Rattle.log_entries.specs.declared.refusal.Refusal.{Refusal}
use Rattle.log_entries.specs.declared.refusal.Refusal.TheVariants as refusals
use Rattle.step_laws.proofs.Lists.{changed-length, item_within}
use Rattle.protocol.specs.Answers.{Answer, Refuses, Step, Takes, answer, decided, given_out, logged, takes, whole_after}
use Rattle.protocol.specs.Events.{happens}
use Rattle.protocol.specs.Jobs.{JobRecord, CommitInput, Job}
use Rattle.protocol.specs.Numbered.{item_at}
use Rattle.protocol.specs.Refusals.{is_within_limits, refusal}
use Rattle.protocol.specs.Cluster.{Transition, ClusterState}
use Rattle.migration.specs.of_protocol_board.Cores as replies
use Rattle.migration.specs.of_protocol_board.Cores.{Accepts, GivesJob, GivesThat, IsOut, Reply, Tells}
use Rattle.protocol_laws.specs.Sound.{IsSound}
use Rattle.migration.specs.of_protocol_board.Replays.{found_no_memory, is_no_memory, job_at, left_by, with_given}
use Rattle.lease_discipline.proofs.Heres.{changed_elsewhere}
use Rattle.migration.specs.of_seats.Counted.{is_logged}
use Rattle.migration.proofs.of_seats.Codes.{is_low, refusal_low}
use Rattle.migration.proofs.of_seats.Jobs.{claim_gives, happens-jobs}
use Rattle.migration.specs.of_run_paths.Handing.{has_commit}
use Rattle.migration.proofs.of_run_paths.Handing.{no_commit}
use Rattle.migration.proofs.of_seats.of_job_laws.Places.{item_before, item_last}
use Rattle.migration.proofs.of_seats.of_job_laws.Standing.{claims_give_jobs_out, jobs_stand}
use Rattle.replay_laws.proofs.Handing.{KeepsJob}

-- ---- refused or taken

abbrev IsRefused : ClusterState → Event → CommitInput → Type 0
IsRefused c e h = (code : Refusal) × (answer c e h ≡ Refuses code) × (is_logged code ≡ true)

abbrev IsTaken : ClusterState → Event → CommitInput → Type 0
IsTaken c e h = (refusal c e h ≡ None) × (answer c e h ≡ takes (happens c e h) (given_out c e))

answered : (c : ClusterState) (e : Event) (h : CommitInput) → IsRefused c e h ⊎ IsTaken c e h
answered c e h = go (refusal c e h) refl
  where
    m : Transition
    m = happens c e h

    go : (o : Option Refusal) → refusal c e h ≡ o → IsRefused c e h ⊎ IsTaken c e h
    go (Some code) r = inl (code, ap (decided c e h) r, subst (λ o. is_low o ≡ true) r (refusal_low c e h))
    go None r = at_test (λ b. is_within_limits m.whole ≡ b → IsRefused c e h ⊎ IsTaken c e h) (is_within_limits m.whole)
        (λ _ q. inr (r, ap (decided c e h) r ∙ ap (λ b. if b then takes m (given_out c e) else Refuses Limit) q))
        (λ _ q. inl (Limit, ap (decided c e h) r ∙ ap (λ b. if b then takes m (given_out c e) else Refuses Limit) q, refl)) refl

-- ---- memory

low_memory : (r : Refusal) → is_logged r ≡ true → is_no_memory r ≡ false
low_memory refusals.NoMemory e = absurd (cc)
low_memory r e = refl

given_memory : (o : Option Job) (told : Reply) → GivesThat o told → found_no_memory told ≡ false
given_memory None told h = ap found_no_memory h
given_memory (Some job) told h = ap found_no_memory h

-- what is told of an answer found memory
pub told_memory : (c : ClusterState) (e : Event) (h : CommitInput) (told : Reply) → Tells (answer c e h) told → found_no_memory told ≡ false
told_memory c e h told tells = elim (answered c e h) [
  | inl (code, is, low) ↦
      let t : Tells (Refuses code) told = subst (λ a. Tells a told) is tells in
      ap found_no_memory t ∙ low_memory code low
  | inr (r, is) ↦ given_memory (given_out c e) told (subst (λ a. Tells a told) is tells)
]

-- ---- the log

-- an answer logs the event first
pub logged_first : (e : Event) (seat : ℕ) (a : Answer) → (rest : List Entry) × (logged e seat a ≡ In e seat ∷ rest)
logged_first e seat (Takes s) = (s.entries, refl)
logged_first e seat (Refuses code) = (Refused code ∷ [], refl)

-- ---- the jobs of the replay

flat_some : (o : Option (Option JobParts)) (job : JobParts) → option_flatten o ≡ Some job → o ≡ Some (Some job)
flat_some None job e = absurd (cc)
flat_some (Some o) job e = ap (λ k. Some k) e

left_there : (e : Event) (jobs : List (Option JobParts)) (j : ℕ) (job : JobParts) → (e ≡ Commit j → ⊥) → job_at jobs j ≡ Some job →
    job_at (left_by e jobs) j ≡ Some job
left_there (Commit i) jobs j job apart at =
    ap option_flatten (changed_elsewhere jobs i j (λ _. None) (Some job) (λ same. apart (ap Commit (sym same))) (flat_some (item_at jobs j) job at))
left_there e jobs j job apart at = at

given_there : (told : Reply) (jobs : List (Option JobParts)) (j : ℕ) (job : JobParts) → job_at jobs j ≡ Some job → job_at (with_given told jobs) j ≡ Some job
given_there (GivesJob k) jobs j job at = ap option_flatten (item_before jobs (Some k ∷ []) j (Some job) (flat_some (item_at jobs j) job at))
given_there Accepts jobs j job at = at
given_there (replies.Refuses r) jobs j job at = at

left_long : (e : Event) (jobs : List (Option JobParts)) → length (left_by e jobs) ≡ length jobs
left_long (Commit i) jobs = changed-length jobs i (λ _. None)
left_long e jobs = refl

-- a list has no more items than that
beyond : {X : Type 0} (xs : List X) (k : ℕ) → slice_get xs k ≡ None → length xs ≤ k
beyond [] k e = omega arith
beyond (x ∷ xs) zero e = absurd (cc)
beyond (x ∷ xs) (suc k) e = let h = beyond xs k e in omega (arith, h)

none_behind : {X : Type 0} (xs : List X) (n : ℕ) → 1 < n + 1 → item_at xs n ≡ None → length xs < n
none_behind xs zero h e = absurd (omega (arith, h))
none_behind xs (suc k) h e = let i = beyond xs k e in omega (arith, i)

none_is_some : {X : Type 0} (x : X) → None ≡ Some x → ⊥
none_is_some x e = cc

module _ (s : Setting) (log : List Entry) (c : ClusterState) (sound : IsSound s log c) (jobs : List (Option JobParts))
    (long : length jobs ≡ length c.jobs) (h : CommitInput) (told : Reply) where
  -- the job that is told of a claim that was taken
  told_job : (w : ℕ) → refusal c (Claim w) h ≡ None → GivesThat (given_out c (Claim w)) told →
      (job : JobParts) × (told ≡ GivesJob job) × (given_out c (Claim w) ≡ Some job)
  told_job w r gives =
      let g = claim_gives c w h r in
      (g.0, subst (λ o. GivesThat o told) g.1 gives, g.1)

  taken_long : (e : Event) → refusal c e h ≡ None → GivesThat (given_out c e) told →
      length (with_given told (left_by e jobs)) ≡ length jobs + length (claim_in e)
  taken_long (Claim w) r gives = let t = told_job w r gives in ap (λ u. length (with_given u jobs)) t.1 ∙ length-append jobs (Some t.0 ∷ [])
  taken_long (Commit j) r gives =
      let k = left_long (Commit j) jobs in ap (λ u. length (with_given u (left_by (Commit j) jobs))) gives ∙ (omega (arith, k))
  taken_long e r gives = ap (λ u. length (with_given u jobs)) gives ∙ (omega arith)

  -- as many jobs as the whole
  pub long_behind : (e : Event) → Tells (answer c e h) told → length (with_given told (left_by e jobs)) ≡ length (whole_after c (answer c e h)).jobs
  long_behind e tells = elim (answered c e h) [
    | inl (code, is, low) ↦
        let t : Tells (Refuses code) told = subst (λ a. Tells a told) is tells in
        ap (λ u. length (with_given u (left_by e jobs))) t ∙ left_long e jobs ∙ long ∙ sym (ap (λ a. length (whole_after c a).jobs) is)
    | inr (r, is) ↦
        let n = taken_long e r (subst (λ a. Tells a told) is tells) in
        n ∙ ap (λ k. k + length (claim_in e)) long ∙ sym (happens-jobs c e h) ∙ sym (ap (λ a. length (whole_after c a).jobs) is)
  ]

  -- a job that was given out before stands
  old_job : (e : Event) (j : ℕ) → (e ≡ Commit j → ⊥) → KeepsJob jobs c j → KeepsJob (with_given told (left_by e jobs)) (whole_after c (answer c e h)) j
  old_job e j apart k = record {
    job = k.job;
    there = given_there told (left_by e jobs) j k.job (left_there e jobs j k.job apart k.there);
    out = jobs_stand s log c sound e h j k.job apart k.out;
  }

  -- a job that the event gave out
  new_job : (e : Event) (j : ℕ) → refusal c e h ≡ None → answer c e h ≡ takes (happens c e h) (given_out c e) → GivesThat (given_out c e) told →
      length c.jobs < j → j < 1 + (length c.jobs + length (claim_in e)) → KeepsJob (with_given told (left_by e jobs)) (happens c e h).whole j
  new_job (Claim w) j r is gives low high =
      let t = told_job w r gives in
      let m : Transition = happens c (Claim w) h in
      let same : j ≡ length c.jobs + 1 = omega (arith, low, high) in
      let last : j ≡ length jobs + 1 = omega (arith, same, long) in
      let step : Step = record { whole = m.whole; entries = m.out.entries; envelopes = m.out.envelopes; given = given_out c (Claim w) } in
      record {
        job = t.0;
        there = subst (λ u. job_at (with_given u jobs) j ≡ Some t.0) (sym t.1) (ap option_flatten (item_last jobs (Some t.0) j last));
        out = subst (λ n. IsOut m.whole n t.0) (sym same) (claims_give_jobs_out c w h step t.0 is t.2);
      }
  new_job e j r is gives low high = absurd (omega (arith, low, high))

  -- each job of which the log has no commit
  pub keeps_behind : ((j : ℕ) (g : JobRecord) → item_at c.jobs j ≡ Some g → has_commit j log ≡ false → KeepsJob jobs c j) → (e : Event) (seat : ℕ) →
      Tells (answer c e h) told → (j : ℕ) (g : JobRecord) → item_at (whole_after c (answer c e h)).jobs j ≡ Some g →
      has_commit j (log ++ logged e seat (answer c e h)) ≡ false →
      KeepsJob (with_given told (left_by e jobs)) (whole_after c (answer c e h)) j
  keeps_behind keeps e seat tells j g at uncommitted = go (item_at c.jobs j) refl
    where
      entries : (rest : List Entry) × (logged e seat (answer c e h) ≡ In e seat ∷ rest)
      entries = logged_first e seat (answer c e h)

      before : (has_commit j log ≡ false) × (e ≡ Commit j → ⊥)
      before = no_commit j log entries.0 e seat (ap (λ es. has_commit j (log ++ es)) (sym entries.1) ∙ uncommitted)

      go : (o : Option JobRecord) → item_at c.jobs j ≡ o → KeepsJob (with_given told (left_by e jobs)) (whole_after c (answer c e h)) j
      go (Some first) was = old_job e j before.1 (keeps j first was before.0)
      go None none = elim (answered c e h) [
        | inl (code, is, low) ↦ absurd (none_is_some g (sym none ∙ sym (ap (λ a. item_at (whole_after c a).jobs j) is) ∙ at))
        | inr (r, is) ↦
            let there : item_at (happens c e h).whole.jobs j ≡ Some g = sym (ap (λ a. item_at (whole_after c a).jobs j) is) ∙ at in
            let within = item_within (happens c e h).whole.jobs j g there in
            let more = happens-jobs c e h in
            let high : j < 1 + (length c.jobs + length (claim_in e)) = (let i = within.0 in omega (arith, i, more)) in
            subst (λ a. KeepsJob (with_given told (left_by e jobs)) (whole_after c a) j) (sym is)
            (new_job e j r is (subst (λ a. Tells a told) is tells) (none_behind c.jobs j within.1 none) high)
      ]
