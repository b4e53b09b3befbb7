-- What was handed in with a commit of a run, its replay hands in again.
use Rattle.std.proofs.Common.{◌≡◌, ℕ, Bool, true, false, List, ◌++◌, Option, Some, None, refl, sym, ap, ◌∙◌, subst, inl, inr}
use Rattle.std.specs.Prelude.{◌&&◌, not}
use Rattle.meaning.specs.Meaning.{replay}
use Rattle.meaning.specs.Runs as runs
use Rattle.meaning.specs.Runs.{Piece}
use Rattle.meaning.specs.Syntax.{Script}
use Rattle.meaning.specs.Values as meant
use Rattle.segment.specs.Jobs.{Done, IsTrueOf, JobParts}
use Rattle.event_log.specs.Entries.{Commit, Event}
use Rattle.event_log.specs.Entries.{NoJob, Stale}
use Rattle.event_log.specs.Rules.{Setting}
use Rattle.migration.specs.of_protocol_board.Cores.{outcomes_in}
use Rattle.protocol.specs.Answers.{job_of}
use Rattle.protocol.specs.Events.{is_live_worker}
use Rattle.protocol.specs.Jobs.{JobRecord, CommitInput, Job, Nothing, OfAnother, OfJob, Outcomes}
use Rattle.protocol.specs.Jobs as jobs
use Rattle.protocol.specs.Refusals.{commit_refusal, is_out_by, or_refusal, unless}
use Rattle.protocol.specs.Cluster.{ClusterState, worker_at}
use Rattle.migration.specs.of_protocol_board.Cores.{IsHanded, IsHandedFor, IsOut}
use Rattle.protocol_laws.specs.Coming.{IsRight}
use Rattle.migration.specs.of_protocol_board.Replays.{IsDoneOn, job_at, job_for}
use Rattle.migration.specs.of_run_paths.Paths.{IsTrueDone}
use Rattle.migration.proofs.of_seats.of_job_laws.Standing.{one_is_out}

-- ---- it goes on as the attempt's replay does

abbrev IsTrueOn : Script → Job → Outcomes → Type 0
IsTrueOn script job d =
    replay script job.spec job.base job.answers ≡ record { births = job.births ++ d.births; prints = job.prints ++ d.prints; stop = jobs.stop_of d.stop }

true_on : (script : Script) (d : Done) → IsTrueOf script d → IsTrueOn script d.job (outcomes_in d)
true_on script d h = h

right_job : (s : Setting) (c : ClusterState) (j : ℕ) (d : Done) → IsTrueOf s.script d → IsOut c j d.job →
    IsRight s c (Commit j) (OfJob (outcomes_in d))
right_job s c j d is_true out g x run given worker runs is_out =
    let there : IsOut c j (job_of j run) =
    (run, record { given = g; worker = x; was_given = given; of_worker = worker; runs = runs; is_out = is_out }, refl) in
    subst (λ job. IsTrueOn s.script job (outcomes_in d)) (one_is_out c j d.job (job_of j run) out there)
    (true_on s.script d is_true)

right_for : (s : Setting) (c : ClusterState) (j : ℕ) (d : Option Done) (h : CommitInput) → IsHandedFor c j d h → IsTrueDone s.script d → IsRight s c (Commit j) h
right_for s c j None h e is_true = subst (IsRight s c (Commit j)) (sym e) tt
right_for s c j (Some d) h (inr e) is_true = subst (IsRight s c (Commit j)) (sym e.0) tt
right_for s c j (Some d) h (inl e) is_true = subst (IsRight s c (Commit j)) (sym e.0) (right_job s c j d is_true e.1)

pub right : (s : Setting) (c : ClusterState) (e : Event) (d : Option Done) (h : CommitInput) → IsHanded c e d h → IsTrueDone s.script d → IsRight s c e h
right s c (Commit j) d h e is_true = right_for s c j d h e is_true
right s c x d h e is_true = tt

-- ---- it is handed in again

-- what was given out of a job stands in the replay, and it is out as that
pub record KeepsJob (jobs : List (Option JobParts)) (c : ClusterState) (j : ℕ) : Type 0 where
  pub job : JobParts
  pub there : job_at jobs j ≡ Some job
  pub out : IsOut c j job

-- what the replay does on the jobs that it has comes to the same
pub record HandsAgain (script : Script) (c : ClusterState) (e : Event) (jobs : List (Option JobParts)) (h : CommitInput) : Type 0 where
  pub done : Option Done
  pub is_done : IsDoneOn script (job_for e jobs) done
  pub is_handed : IsHanded c e done h

piece : List meant.Birth → List meant.Value → runs.Stop → Piece
piece births prints stop = record { births = births; prints = prints; stop = stop }

-- a job's meaning is all that counts of it
true_again : (script : Script) (d : Done) (job : JobParts) → d.job ≡ job → IsTrueOf script d → IsTrueOf script (record d { job = job })
unfolding piece
true_again script d job same is_true =
    ap (λ (j : Job). replay script j.spec j.base j.answers) (sym same) ∙ is_true
    ∙ ap (λ (j : Job). piece (j.births ++ d.births) (j.prints ++ d.prints) (jobs.stop_of d.stop)) same

nothing_apart : (w : Outcomes) → Nothing ≡ OfJob w → ⊥
nothing_apart w e = cc

another_apart : (w : Outcomes) → OfAnother ≡ OfJob w → ⊥
another_apart w e = cc

pub commit_again : (script : Script) (c : ClusterState) (j : ℕ) (jobs : List (Option JobParts)) (d : Option Done) (h : CommitInput) (w : Outcomes) → h ≡ OfJob w →
    IsTrueDone script d → IsHandedFor c j d h → KeepsJob jobs c j → HandsAgain script c (Commit j) jobs h
commit_again script c j jobs None h w of is_true e k = absurd (nothing_apart w (sym e ∙ of))
commit_again script c j jobs (Some d) h w of is_true (inr e) k = absurd (another_apart w (sym e.0 ∙ of))
commit_again script c j jobs (Some d) h w of is_true (inl e) k =
    let again : Done = record d { job = k.job } in
    record {
      done = Some again;
      is_done = subst (λ o. IsDoneOn script o (Some again)) (sym k.there)
          (refl, true_again script d k.job (one_is_out c j d.job k.job e.1 k.out) is_true);
      is_handed = inl (e.0, k.out);
    }

-- ---- a commit that isn't refused as one of a job that isn't out

pub record IsOfJob (h : CommitInput) (o : Option JobRecord) : Type 0 where
  pub work : Outcomes
  pub handed : h ≡ OfJob work
  pub given : JobRecord
  pub there : o ≡ Some given

none_done : (a b : Bool) → (a && false && b) ≡ false
none_done true b = refl
none_done false b = refl

not_done : (c : ClusterState) (j : ℕ) (g : JobRecord) →
    or_refusal (unless (not g.is_committed && false && is_out_by (worker_at c g.worker) j) NoJob) (unless (is_live_worker (worker_at c g.worker)) Stale) ≡ Some NoJob
not_done c j g =
    ap (λ t. or_refusal (unless t NoJob) (unless (is_live_worker (worker_at c g.worker)) Stale)) (none_done (not g.is_committed) (is_out_by (worker_at c g.worker) j))

pub of_job : (c : ClusterState) (j : ℕ) (h : CommitInput) (o : Option JobRecord) → (commit_refusal c j h o ≡ Some NoJob → ⊥) → IsOfJob h o
of_job c j h None known = absurd (known refl)
of_job c j Nothing (Some g) known = absurd (known (not_done c j g))
of_job c j OfAnother (Some g) known = absurd (known (not_done c j g))
of_job c j (OfJob w) (Some g) known = record { work = w; handed = refl; given = g; there = refl }
