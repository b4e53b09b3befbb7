-- Claims give jobs that may be run.
use Rattle.std.proofs.Common.{◌≡◌, ℕ, ◌+◌, true, List, [], ◌∷◌, ◌++◌, length, Option, Some, None, inl, inr, refl, sym, ap, ◌∙◌, subst, append-nil}
use Rattle.std.specs.Prelude.{◌&&◌, if◌then◌else◌, slice_get}
use Rattle.std.proofs.lemmas.Option.{same_Some}
use Rattle.std.proofs.lemmas.Bool.{and_parts}
use Rattle.std.proofs.lemmas.List.Concat.{flat_map-append}
use Rattle.meaning.specs.Values.{Birth, Id, Outcome, main_birth}
use Rattle.meaning.specs.Syntax.{Number}
use Rattle.meaning.specs.Births.{birth_at, same_id}
use Rattle.meaning.specs.Kinds.{AnswersFit, IsBirthOf, ScriptChecks}
use Rattle.meaning.specs.Lists.{IsFirst}
use Rattle.meaning.specs.Meaning.{replay, run_birth}
use Rattle.meaning.proofs.BirthLaws.{at_test, same_id-refl, same_id-true}
use Rattle.event_log.specs.Entries.{Attempt, Claim, Entry, Begun, main_attempt}
use Rattle.event_log.specs.Entries.{Refusal, NoWorker, NotReady, Limit}
use Rattle.event_log.specs.Words.{answers_of, births, got_in, run_in, runs_of}
use Rattle.event_log.specs.Rules.{Setting, Allowed}
use Rattle.event_log.specs.Legal.{opening}
use Rattle.event_log.proofs.Extending.{births-more}
use Rattle.event_log.proofs.SaneLaws.{always, none_at, one_at, word_last}
use Rattle.protocol_legal.proofs.of_kind_laws.Laws.{legal_logs_keep}
use Rattle.holding_steps.specs.of_protocol.Jobs.{CommitInput}
use Rattle.holding_steps.specs.of_protocol.Tables.{Execution, Worker}
use Rattle.holding_steps.specs.of_protocol.Cluster.{ClusterState, node_at, worker_at}
use Rattle.holding_steps.specs.of_protocol.Events.{happens, is_live_worker}
use Rattle.holding_steps.specs.of_protocol.Refusals.{has_slot, is_ready_on, is_ready_run, is_within_limits, no_worker, refusal, unless}
use Rattle.holding_steps.specs.of_protocol.Answers.{Refuses, decided, given_out, job_at, job_by, job_of, takes}
use Rattle.protocol_legal.specs.Knows.{IsTask, KnowsRun}
use Rattle.protocol_legal.specs.Whole.{setting_of}
use Rattle.protocol_laws.specs.Sound.{IsSound}
use Rattle.protocol_laws.specs.Pace.{IsInStep}
use Rattle.protocol_laws.specs.Given.{
  ClaimsGiveGoodJobs,
  ClaimsGiveJobsOfTheLog,
  GivesGood,
  GivesOfLog,
  IsGood,
  IsGoodIfGiven,
  IsOfLogIfGiven,
  JobsStayOfTheLog,
  RunsAreGood,
  RunsHaveTheLogsAnswers,
}
use Rattle.protocol_laws.proofs.Pace.{attempts_keep_pace}
use Rattle.protocol_laws.proofs.Tests.{live_worker, or_none, ready_run, unless_none}

-- ---- what was begun is a task

abbrev IsOfTask : List Entry → Id → Type 0
IsOfTask log o = (b : Birth) × (birth_at (births log) o ≡ Some b) × IsTask b

abbrev BegunAreTasks : List Entry → Type 0
BegunAreTasks log = (o : Id) (k w : ℕ) → slice_get (runs_of o log) k ≡ Some w → IsOfTask log o

task_now : (s : Setting) (before : List Entry) (x : Entry) → Allowed s before x → (o : Id) (j w : ℕ) → slice_get (run_in o x) j ≡ Some w → IsOfTask before o
task_now s before (Begun a v) h o j w e = subst (IsOfTask before) (same_id-true a.object o (one_at (same_id a.object o) v w j e).0) (_, h.born, tt)
task_now s before x h o j w e = absurd (none_at j w e)

task_more : (before : List Entry) (x : Entry) (o : Id) → IsOfTask before o → IsOfTask (before ++ x ∷ []) o
task_more before x o h = (h.0, births-more before (x ∷ []) o h.0 h.1, h.2)

task_step : (s : Setting) (before : List Entry) (x : Entry) → BegunAreTasks before → Allowed s before x → BegunAreTasks (before ++ x ∷ [])
task_step s before x p h o k w e = task_more before x o (elim (word_last (run_in o) before x k w e) [ inl old ↦ p o k w old | inr new ↦ task_now s before x h o new.0 w new.1 ])

task_first : BegunAreTasks opening
task_first o k w e =
    let f = one_at (same_id main_attempt.object o) 1 w k (subst (λ xs. slice_get xs k ≡ Some w) (append-nil (run_in o (Begun main_attempt 1))) e) in
    subst (IsOfTask opening) (same_id-true main_attempt.object o f.0) (main_birth, ap (λ t. if t then Some main_birth else None) (same_id-refl main_attempt.object), tt)

-- ---- the job

-- a live worker's attempt, whose job a claim gives out
record GivenRun (c : ClusterState) (w : ℕ) : Type 0 where
  worker : Worker
  run : Execution
  at : worker_at c w ≡ Some worker
  lives : worker.is_live ≡ true
  runs : worker.run ≡ Some run
  given : given_out c (Claim w) ≡ Some (job_of (length c.jobs + 1) run)

given_run : (c : ClusterState) (w : ℕ) (handed : CommitInput) → refusal c (Claim w) handed ≡ None → GivenRun c w
given_run c w handed r =
    let parts = or_none (no_worker c w) (unless (is_ready_on c w (worker_at c w)) NotReady) r in
    let l = live_worker c w (unless_none (is_live_worker (worker_at c w)) NoWorker parts.0) in
    let ready : is_ready_on c w (Some l.worker) ≡ true = ap (is_ready_on c w) (sym l.at) ∙ unless_none (is_ready_on c w (worker_at c w)) NotReady parts.1 in
    let two = and_parts (l.worker.is_live && is_ready_run l.worker.run) (has_slot w (node_at c l.worker.node)) ready in
    let run = ready_run l.worker.run (and_parts l.worker.is_live (is_ready_run l.worker.run) two.0).1 in
    let number = length c.jobs + 1 in
    record {
      worker = l.worker;
      run = run.0;
      at = l.at;
      lives = l.lives;
      runs = run.1;
      given = ap (job_at number) l.at ∙ ap (job_by number) run.1;
    }

module _ (s : Setting) (checks : ScriptChecks s.script s.script) (main : IsBirthOf s.script main_birth (Number ∷ [])) (log : List Entry) (c : ClusterState) (sound : IsSound s log c) where
  run_is_good : (number w : ℕ) (x : Worker) (run : Execution) → worker_at c w ≡ Some x → x.is_live ≡ true → x.run ≡ Some run → IsGood s.script (job_of number run)
  run_is_good number w x run at live is =
      let S = setting_of s c in
      let k : KnowsRun S log w x run = (sound.between.knows.workers w x at live).run run is in
      let task = always BegunAreTasks task_step S log task_first sound.between.legal run.attempt.object run.attempt.number w k.runs in
      let pace : IsInStep s.script log run.attempt run.spec run.base run.births = attempts_keep_pace S log checks main sound.between.legal run.attempt run.spec run.base run.births k.spec k.own in
      record {
        task = subst IsTask (same_Some task.0 run.spec (sym task.1 ∙ k.spec)) task.2;
        kind = (legal_logs_keep S log checks main sound.between.legal).kinds run.attempt.object run.spec k.spec;
        answers = subst (AnswersFit (run_birth s.script run.spec) run.base) k.answers pace.fit;
        births = subst (λ cs. IsFirst run.births (replay s.script run.spec run.base cs).births) k.answers pace.births;
        prints = subst (λ cs. IsFirst run.prints (replay s.script run.spec run.base cs).prints) k.answers
            (subst (λ vs. IsFirst vs (replay s.script run.spec run.base (answers_of run.attempt log)).prints) k.prints pace.prints);
      }

  given_is_good : (w : ℕ) (handed : CommitInput) → refusal c (Claim w) handed ≡ None → IsGoodIfGiven s.script (given_out c (Claim w))
  given_is_good w handed r =
      let g = given_run c w handed r in
      subst (IsGoodIfGiven s.script) (sym g.given) (run_is_good (length c.jobs + 1) w g.worker g.run g.at g.lives g.runs)

  gives_good : (w : ℕ) (handed : CommitInput) → (o : Option Refusal) → refusal c (Claim w) handed ≡ o → GivesGood s.script (decided c (Claim w) handed o)
  gives_good w handed (Some code) r = tt
  gives_good w handed None r = at_test (λ i. GivesGood s.script (if i then takes (happens c (Claim w) handed) (given_out c (Claim w)) else Refuses Limit)) (is_within_limits (happens c (Claim w) handed).whole)
      (λ i. given_is_good w handed r) (λ i. tt)

pub claims_give_good_jobs : ClaimsGiveGoodJobs
claims_give_good_jobs s checks main log c sound w handed = gives_good s checks main log c sound w handed (refusal c (Claim w) handed) refl

pub runs_are_good : RunsAreGood
runs_are_good s checks main log c sound number w x run at live is = run_is_good s checks main log c sound number w x run at live is

-- ---- the job's answers

begins_itself : {X : Type 0} (xs : List X) → IsFirst xs xs
begins_itself [] = tt
begins_itself (x ∷ xs) = (refl, begins_itself xs)

begins_more : {X : Type 0} (xs ys more : List X) → IsFirst xs ys → IsFirst xs (ys ++ more)
begins_more [] ys more h = tt
begins_more (x ∷ xs) [] more h = absurd h
begins_more (x ∷ xs) (y ∷ ys) more h = (h.0, begins_more xs ys more h.1)

module _ (s : Setting) (log : List Entry) (c : ClusterState) (sound : IsSound s log c) where
  has_answers : (w : ℕ) (x : Worker) (run : Execution) → worker_at c w ≡ Some x → x.is_live ≡ true → x.run ≡ Some run → answers_of run.attempt log ≡ run.answers
  has_answers w x run at live is = let k : KnowsRun (setting_of s c) log w x run = (sound.between.knows.workers w x at live).run run is in k.answers

  given_of_log : (w : ℕ) (handed : CommitInput) → refusal c (Claim w) handed ≡ None → IsOfLogIfGiven log (given_out c (Claim w))
  given_of_log w handed r =
      let g = given_run c w handed r in
      subst (IsOfLogIfGiven log) (sym g.given) (subst (IsFirst g.run.answers) (sym (has_answers w g.worker g.run g.at g.lives g.runs)) (begins_itself g.run.answers))

  gives_of_log : (w : ℕ) (handed : CommitInput) → (o : Option Refusal) → refusal c (Claim w) handed ≡ o → GivesOfLog log (decided c (Claim w) handed o)
  gives_of_log w handed (Some code) r = tt
  gives_of_log w handed None r = at_test (λ i. GivesOfLog log (if i then takes (happens c (Claim w) handed) (given_out c (Claim w)) else Refuses Limit)) (is_within_limits (happens c (Claim w) handed).whole)
      (λ i. given_of_log w handed r) (λ i. tt)

pub claims_give_jobs_of_the_log : ClaimsGiveJobsOfTheLog
claims_give_jobs_of_the_log s log c sound w handed = gives_of_log s log c sound w handed (refusal c (Claim w) handed) refl

pub runs_have_the_logs_answers : RunsHaveTheLogsAnswers
runs_have_the_logs_answers s log c sound w x run at live is = has_answers s log c sound w x run at live is

-- what begins the answers to an attempt that a log has, begins those of a longer log
pub begins_longer : (cs : List Outcome) (a : Attempt) (log more : List Entry) → IsFirst cs (answers_of a log) → IsFirst cs (answers_of a (log ++ more))
begins_longer cs a log more h = subst (IsFirst cs) (sym (flat_map-append (got_in a) log more)) (begins_more cs (answers_of a log) (answers_of a more) h)

pub jobs_stay_of_the_log : JobsStayOfTheLog
jobs_stay_of_the_log log more job h = begins_longer job.answers job.attempt log more h
