-- Jobs that are given out, and what is handed in as done on them.
use Rattle.std.proofs.Common.{◌≡◌, ℕ, Bool, true, false, List, [], ◌∷◌, ◌++◌, length, arith, Option, Some, None, IfSome, refl, sym, ap, ◌∙◌, subst, inl, inr, if◌then◌else◌}
use Rattle.meaning.specs.Lists.{IsFirst}
use Rattle.meaning.specs.Values as meant
use Rattle.meaning.specs.Values.{Put, Task, main_birth}
use Rattle.meaning.specs.Syntax.{Kind, Number, Parameter, Script}
use Rattle.meaning.specs.Kinds.{IsBirthOf, MarkedOf}
use Rattle.meaning.specs.Meaning.{replay}
use Rattle.kind_laws.specs.Law.{HasKinds}
use Rattle.script_check.specs.Scripts.{IsWellTyped}
use Rattle.segment.specs.Jobs.{JobParts, Done, IsTaskOf, IsBegun, IsTrueOf}
use Rattle.event_log.specs.Entries.{Entry, Event, Claim, Commit, Deliver, Tick, Notice, NoticeNode, Evict, Lose, Kill, KillNode, Join}
use Rattle.event_log.specs.Entries.{Limit, Refusal}
use Rattle.event_log.specs.Words.{answers_of}
use Rattle.segment.specs.Pieces.{outcomes_in}
use Rattle.protocol.specs.Answers.{Refuses, answer, decided, given_out, job_of, limited, takes}
use Rattle.protocol.specs.Events.{happens}
use Rattle.protocol.specs.Jobs.{JobRecord, CommitInput, Job, Nothing, OfAnother, OfJob, Outcomes}
use Rattle.protocol.specs.Jobs as jobs
use Rattle.protocol.specs.Numbered.{item_at}
use Rattle.protocol.specs.Refusals.{is_within_limits, refusal}
use Rattle.protocol.specs.Tables.{Execution, Worker}
use Rattle.protocol.specs.Cluster.{Transition, ClusterState, worker_at}
use Rattle.count_laws.specs.of_protocol_legal.Knows.{IsTask}
use Rattle.protocol_laws.specs.Coming.{IsRight}
use Rattle.protocol_laws.specs.Given.{ClaimsGiveGoodJobs, ClaimsGiveJobsOfTheLog, GivesGood, GivesOfLog, IsGood, IsOfLog, RunsAreGood, RunsHaveTheLogsAnswers}
use Rattle.protocol_laws.specs.Sound.{IsSound}
use Rattle.protocol_core.specs.Own.{HasAnswersIn, HaveAnswersIn, IsOwn}
use Rattle.protocol_core.specs.Pace.{AreInPace}
use Rattle.protocol_core.specs.States.{IsSoundRun, RunState, beside}
use Rattle.protocol_core.specs.Steps.{IsHanded, IsOut, IsOutAs}

-- ---- jobs that are given out

none_more : (k u : Kind) (ks : List Kind) → k ∷ ks ≡ u ∷ [] → length ks ≡ 0
none_more k u ks e =
    let none : ks ≡ [] = cc in
    ap (λ us. length us) none

pub main_kind : (script : Script) → IsWellTyped script → IsBirthOf script main_birth (Number ∷ [])
main_kind script typed =
    let f = typed.main.0 in
    let P : List Parameter → Type 0 = λ ps. MarkedOf [] ps in
    (f, typed.main.1, subst P (sym typed.main.2) tt, sym typed.main.3, none_more f.result Number f.others typed.main.3)

task_of : (script : Script) (b : meant.Birth) → IsTask b → HasKinds script b → IsTaskOf script b
task_of script (Put v) t k = absurd t
task_of script (Task g args depth retries others) t k = let h = k.1 in (h.0, h.1, h.2, h.4)

-- a good job is one that may be run
pub begun : (script : Script) (d : JobParts) → IsGood script d → IsBegun script d
begun script d h = record {
  task = task_of script d.spec h.task h.kind;
  answers = h.answers;
  births = h.births;
  prints = h.prints;
}

-- what attempts of live workers bore and printed is in pace
pub in_pace : (script : Script) (c : RunState) → IsSoundRun script c → c.is_halted ≡ false → RunsAreGood → AreInPace script c.whole
in_pace script c kept goes_on law w x run at live is =
    let good = law (beside script c.first_nodes []) kept.typed.checks (main_kind script kept.typed) c.log c.whole (kept.sound goes_on) 1 w x run at live is in
    record { births = good.births; prints = good.prints }

-- an event that is no claim gives out no job
gives_none : (script : Script) (m : Transition) (b : Bool) → GivesGood script (if b then takes m None else Refuses Limit)
gives_none script m true = tt
gives_none script m false = tt

no_job : (script : Script) (c : ClusterState) (e : Event) (handed : CommitInput) → given_out c e ≡ None → (o : Option Refusal) → GivesGood script (decided c e handed o)
no_job script c e handed none (Some code) = tt
no_job script c e handed none None =
    let m : Transition = happens c e handed in
    subst (λ g. GivesGood script (limited m g)) (sym none) (gives_none script m (is_within_limits m.whole))

-- each job that is given out may be run
pub gives_good : (script : Script) → IsWellTyped script → ClaimsGiveGoodJobs → (nodes : ℕ) (log : List Entry) (c : ClusterState) → IsSound (beside script nodes []) log c →
    (e : Event) (handed : CommitInput) → GivesGood script (answer c e handed)
gives_good script typed law nodes log c sound (Claim w) handed = law (beside script nodes []) typed.checks (main_kind script typed) log c sound w handed
gives_good script typed law nodes log c sound (Commit j) handed = no_job script c (Commit j) handed refl (refusal c (Commit j) handed)
gives_good script typed law nodes log c sound (Deliver k) handed = no_job script c (Deliver k) handed refl (refusal c (Deliver k) handed)
gives_good script typed law nodes log c sound (Tick w) handed = no_job script c (Tick w) handed refl (refusal c (Tick w) handed)
gives_good script typed law nodes log c sound (Notice w v) handed = no_job script c (Notice w v) handed refl (refusal c (Notice w v) handed)
gives_good script typed law nodes log c sound (NoticeNode w n) handed = no_job script c (NoticeNode w n) handed refl (refusal c (NoticeNode w n) handed)
gives_good script typed law nodes log c sound (Evict n o) handed = no_job script c (Evict n o) handed refl (refusal c (Evict n o) handed)
gives_good script typed law nodes log c sound (Lose n o) handed = no_job script c (Lose n o) handed refl (refusal c (Lose n o) handed)
gives_good script typed law nodes log c sound (Kill w) handed = no_job script c (Kill w) handed refl (refusal c (Kill w) handed)
gives_good script typed law nodes log c sound (KillNode n) handed = no_job script c (KillNode n) handed refl (refusal c (KillNode n) handed)
gives_good script typed law nodes log c sound Join handed = no_job script c Join handed refl (refusal c Join handed)

-- ---- the answers of jobs that are given out

gives_no_own : (log : List Entry) (m : Transition) (b : Bool) → GivesOfLog log (if b then takes m None else Refuses Limit)
gives_no_own log m true = tt
gives_no_own log m false = tt

no_own : (log : List Entry) (c : ClusterState) (e : Event) (handed : CommitInput) → given_out c e ≡ None → (o : Option Refusal) → GivesOfLog log (decided c e handed o)
no_own log c e handed none (Some code) = tt
no_own log c e handed none None =
    let m : Transition = happens c e handed in
    subst (λ g. GivesOfLog log (limited m g)) (sym none) (gives_no_own log m (is_within_limits m.whole))

-- the log has those of each job that is given out
pub gives_own : (script : Script) → ClaimsGiveJobsOfTheLog → (nodes : ℕ) (log : List Entry) (c : ClusterState) → IsSound (beside script nodes []) log c →
    (e : Event) (handed : CommitInput) → GivesOfLog log (answer c e handed)
gives_own script law nodes log c sound (Claim w) handed = law (beside script nodes []) log c sound w handed
gives_own script law nodes log c sound (Commit j) handed = no_own log c (Commit j) handed refl (refusal c (Commit j) handed)
gives_own script law nodes log c sound (Deliver k) handed = no_own log c (Deliver k) handed refl (refusal c (Deliver k) handed)
gives_own script law nodes log c sound (Tick w) handed = no_own log c (Tick w) handed refl (refusal c (Tick w) handed)
gives_own script law nodes log c sound (Notice w v) handed = no_own log c (Notice w v) handed refl (refusal c (Notice w v) handed)
gives_own script law nodes log c sound (NoticeNode w n) handed = no_own log c (NoticeNode w n) handed refl (refusal c (NoticeNode w n) handed)
gives_own script law nodes log c sound (Evict n o) handed = no_own log c (Evict n o) handed refl (refusal c (Evict n o) handed)
gives_own script law nodes log c sound (Lose n o) handed = no_own log c (Lose n o) handed refl (refusal c (Lose n o) handed)
gives_own script law nodes log c sound (Kill w) handed = no_own log c (Kill w) handed refl (refusal c (Kill w) handed)
gives_own script law nodes log c sound (KillNode n) handed = no_own log c (KillNode n) handed refl (refusal c (KillNode n) handed)
gives_own script law nodes log c sound Join handed = no_own log c Join handed refl (refusal c Join handed)

-- a beginning that is as long is the whole
whole_first : {X : Type 0} (xs ys : List X) → IsFirst xs ys → length xs ≡ length ys → xs ≡ ys
whole_first [] [] h e = refl
whole_first [] (y ∷ ys) h e = absurd (omega (arith, e))
whole_first (x ∷ xs) [] h e = absurd h
whole_first (x ∷ xs) (y ∷ ys) h e = ap (λ v. v ∷ xs) (sym h.0) ∙ ap (λ vs. y ∷ vs) (whole_first xs ys h.1 (omega (arith, e)))

-- as many answers of a job of the log are those of each live worker's attempt that it is of
has_answers : (script : Script) (c : RunState) → IsSoundRun script c → c.is_halted ≡ false → RunsHaveTheLogsAnswers → (j : JobParts) → IsOfLog c.log j → HasAnswersIn c.whole j
has_answers script c kept goes_on law j own w x run at live is same as_many =
    let there : answers_of run.attempt c.log ≡ run.answers = law (beside script c.first_nodes []) c.log c.whole (kept.sound goes_on) w x run at live is in
    whole_first j.answers run.answers (subst (IsFirst j.answers) (ap (λ a. answers_of a c.log) same ∙ there) own) as_many

pub have_answers : (script : Script) (c : RunState) → IsSoundRun script c → c.is_halted ≡ false → RunsHaveTheLogsAnswers → (d : Option Done) → IsOwn c.log d → HaveAnswersIn c.whole d
have_answers script c kept goes_on law None own = tt
have_answers script c kept goes_on law (Some d) own = has_answers script c kept goes_on law d.job own

-- ---- what is handed in

-- what was done on a job goes on as the replay of its attempt does
abbrev IsTrueOn : Script → Job → Outcomes → Type 0
IsTrueOn script job d =
    replay script job.spec job.base job.answers ≡ record { births = job.births ++ d.births; prints = job.prints ++ d.prints; stop = jobs.stop_of d.stop }

true_on : (script : Script) (d : Done) → IsTrueOf script d → IsTrueOn script d.job (outcomes_in d)
true_on script d h = h

-- one attempt is out as that job
one_out : (c : ClusterState) (j : ℕ) (run : Execution) → IsOutAs c j run → (g : JobRecord) (x : Worker) (other : Execution) → item_at c.jobs j ≡ Some g → worker_at c g.worker ≡ Some x → x.run ≡ Some other → run ≡ other
one_out c j run out g x other given worker runs =
    let same_given : out.given ≡ g = some_of out.given g (sym out.was_given ∙ given) in
    let same_worker : out.worker ≡ x = some_of out.worker x (sym out.of_worker ∙ (ap (λ (h : JobRecord). worker_at c h.worker) same_given ∙ worker)) in
    some_of run other (sym out.runs ∙ (ap (λ (w : Worker). w.run) same_worker ∙ runs))
  where
    some_of : {X : Type 0} (a b : X) → Some a ≡ Some b → a ≡ b
    some_of a b e = cc

right_job : (script : Script) (nodes : ℕ) (c : ClusterState) (j : ℕ) (d : Done) → IsTrueOf script d → IsOut c j d.job → IsRight (beside script nodes []) c (Commit j) (OfJob (outcomes_in d))
right_job script nodes c j d is_true out g x run given worker runs is_out =
    let same : d.job ≡ job_of j run = out.2 ∙ ap (λ r. job_of j r) (one_out c j out.0 out.1 g x run given worker runs) in
    subst (λ job. IsTrueOn script job (outcomes_in d)) same (true_on script d is_true)

right_for : (script : Script) (nodes : ℕ) (c : ClusterState) (j : ℕ) (d : Option Done) (h : CommitInput) → IsHanded c (Commit j) d h → IfSome d (λ x. IsTrueOf script x) → IsRight (beside script nodes []) c (Commit j) h
right_for script nodes c j None h e is_true = subst (λ x. IsRight (beside script nodes []) c (Commit j) x) (sym e) tt
right_for script nodes c j (Some d) h (inr e) is_true = subst (λ x. IsRight (beside script nodes []) c (Commit j) x) (sym e.0) tt
right_for script nodes c j (Some d) h (inl e) is_true = subst (λ x. IsRight (beside script nodes []) c (Commit j) x) (sym e.0) (right_job script nodes c j d is_true e.1)

-- what is handed in as done on a job of the run is true of it
pub right : (script : Script) (nodes : ℕ) (c : ClusterState) (e : Event) (d : Option Done) (h : CommitInput) → IsHanded c e d h → IfSome d (λ x. IsTrueOf script x) → IsRight (beside script nodes []) c e h
right script nodes c (Claim w) d h e is_true = tt
right script nodes c (Commit j) d h e is_true = right_for script nodes c j d h e is_true
right script nodes c (Deliver k) d h e is_true = tt
right script nodes c (Tick w) d h e is_true = tt
right script nodes c (Notice w v) d h e is_true = tt
right script nodes c (NoticeNode w n) d h e is_true = tt
right script nodes c (Evict n o) d h e is_true = tt
right script nodes c (Lose n o) d h e is_true = tt
right script nodes c (Kill w) d h e is_true = tt
right script nodes c (KillNode n) d h e is_true = tt
right script nodes c Join d h e is_true = tt
