-- What is kept of a run, event by event.
use Rattle.std.proofs.Common.{◌≡◌, ℕ, ◌<◌, ◌≤◌, true, false, List, [], ◌∷◌, ◌++◌, Option, Some, None, IfSome, refl, sym, ap, ◌∙◌, subst}
use Rattle.meaning.specs.Syntax.{Script}
use Rattle.script_check.specs.Scripts.{IsWellTyped}
use Rattle.event_log.specs.Entries.{Entry, Event, In}
use Rattle.log_entries.specs.declared.refusal.Refusal.{Refusal}
use Rattle.segment.specs.Jobs.{JobParts, Done, IsBegun, IsTrueOf}
use Rattle.event_answers.specs.Replies.{come_of, outcome_of}
use Rattle.event_answers.specs.declared.verdict.Verdict.{Verdict}
use Rattle.event_answers.specs.declared.verdict.Verdict.TheVariants.{Taken, Refused}
use Rattle.protocol.specs.Answers.{Answer, Takes, Refuses, answer, logged, whole_after}
use Rattle.protocol.specs.Jobs.{CommitInput, Job}
use Rattle.protocol.specs.Cluster.{ClusterState}
use Rattle.protocol_laws.specs.Given.{ClaimsGiveGoodJobs, ClaimsGiveJobsOfTheLog, GivesGood, GivesOfLog, IsGood, IsGoodIfGiven, IsOfLog, IsOfLogIfGiven, JobsStayOfTheLog}
use Rattle.protocol_laws.specs.Law.{EventsKeepSound, OpeningIsSound, SoundIsLegal}
use Rattle.protocol_laws.specs.Sound.{IsSound}
use Rattle.protocol_owed.specs.Runs.{Handing, Running, after_event, opening_run}
use Rattle.count_laws.specs.Law.{IsReached}
use Rattle.count_laws.proofs.Reached.{reached_goes_on}
use Rattle.protocol_core.specs.States.{RunState, IsLegal, IsReachedRun, IsSoundRun, beside, first_state, run_of}
use Rattle.protocol_core.specs.Steps.{Accepts, GivesJob, GivesThat, IsHanded, IsApplied, Applies, RunsOut, Tells}
use Rattle.protocol_core.specs.Steps as told
use Rattle.protocol_core.proofs.Jobs.{begun, gives_good, gives_own, right}

-- ---- what is kept

pub kept_of : (script : Script) (c : RunState) → SoundIsLegal → IsWellTyped script → 0 < c.first_nodes → c.first_nodes ≤ 64 → IsReachedRun script c → IsSound (beside script c.first_nodes []) c.log c.whole →
    IsSoundRun script c
kept_of script c law typed nodes few reached sound = record {
  typed = typed;
  nodes = nodes;
  few = few;
  legal = record {
    own = λ e. law (beside script c.first_nodes []) c.log c.whole sound;
    some = (c.whole.network, law (beside script c.first_nodes []) c.log c.whole sound);
  };
  reached = reached;
  sound = λ e. sound;
}

-- a run that begins
reached_first : (script : Script) (nodes slots : ℕ) → 1 ≤ slots → IsReachedRun script (first_state nodes slots)
reached_first script nodes slots slot = record {
  slots = slots;
  some = slot;
  run = opening_run nodes slots;
  reached = reached_goes_on.opening (beside script nodes []) slots;
  log = refl;
  whole = λ e. refl;
}

pub kept_first : (script : Script) (c : RunState) (nodes slots : ℕ) → OpeningIsSound → SoundIsLegal → IsWellTyped script → 0 < nodes → nodes ≤ 64 → 1 ≤ slots → c ≡ first_state nodes slots → IsSoundRun script c
kept_first script c nodes slots opening legal typed some few slot e =
    subst (λ x. IsSoundRun script x) (sym e)
    (kept_of script (first_state nodes slots) legal typed some few (reached_first script nodes slots slot) (opening (beside script nodes []) slots some))

-- the run that was reached is this one, unless an event found no memory
same_run : {c d : ClusterState} {k l : List Entry} → c ≡ d → k ≡ l → ◌≡◌ {A = Running} (record { whole = c; log = k }) (record { whole = d; log = l })
same_run e f = cc

pub reached_now : (script : Script) (c : RunState) → (r : IsReachedRun script c) → c.is_halted ≡ false → IsReached (beside script c.first_nodes []) r.slots (run_of c)
reached_now script c r goes_on = subst (λ x. IsReached (beside script c.first_nodes []) r.slots x) (same_run (r.whole goes_on) r.log) r.reached

-- a run that halted
pub kept_halted : (script : Script) (before after : RunState) → IsSoundRun script before → after.log ≡ before.log → after.first_nodes ≡ before.first_nodes → after.is_halted ≡ true → IsSoundRun script after
kept_halted script before after kept same nodes halted = record {
  typed = kept.typed;
  nodes = subst (λ n. 0 < n) (sym nodes) kept.nodes;
  few = subst (λ n. n ≤ 64) (sym nodes) kept.few;
  legal = record {
    own = λ f. absurd (true_false (sym halted ∙ f));
    some = subst (λ n. IsLegal script n after.log) (sym nodes) (subst (λ log. IsLegal script before.first_nodes log) (sym same) kept.legal.some);
  };
  reached = record {
    slots = kept.reached.slots;
    some = kept.reached.some;
    run = kept.reached.run;
    reached = subst (λ n. IsReached (beside script n []) kept.reached.slots kept.reached.run) (sym nodes) kept.reached.reached;
    log = kept.reached.log ∙ sym same;
    whole = λ f. absurd (true_false (sym halted ∙ f));
  };
  sound = λ f. absurd (true_false (sym halted ∙ f));
}
  where
    true_false : true ≡ false → ⊥
    true_false e = cc

-- ---- an event that is applied

module _ (script : Script) (before after : RunState) (e : Event) (seat : ℕ) (work : Option Done) (handed : CommitInput)
    (kept : IsSoundRun script before) (goes_on : before.is_halted ≡ false) (is_handed : IsHanded before.whole e work handed)
    (is_true : IfSome work (λ d. IsTrueOf script d)) where
  sound_before : IsSound (beside script before.first_nodes []) before.log before.whole
  sound_before = kept.sound goes_on

  -- the run behind it is reached
  reached_behind : after.log ≡ before.log ++ logged e seat (answer before.whole e handed) → after.whole ≡ whole_after before.whole (answer before.whole e handed) →
      after.first_nodes ≡ before.first_nodes → IsReachedRun script after
  reached_behind log whole nodes =
      let r : IsReachedRun script before = kept.reached in
      let g : Handing = record { event = e; seat = seat; handed = handed } in
      let s = beside script before.first_nodes [] in
      let next : IsReached s r.slots (after_event (run_of before) g) =
      reached_goes_on.next s r.slots (run_of before) g (reached_now script before r goes_on) (right script before.first_nodes before.whole e work handed is_handed is_true) in
      record {
        slots = r.slots;
        some = r.some;
        run = after_event (run_of before) g;
        reached = subst (λ n. IsReached (beside script n []) r.slots (after_event (run_of before) g)) (sym nodes) next;
        log = sym log;
        whole = λ f. sym whole;
      }

  -- the run is sound behind it
  pub kept_applied : EventsKeepSound → SoundIsLegal → after.log ≡ before.log ++ logged e seat (answer before.whole e handed) →
      after.whole ≡ whole_after before.whole (answer before.whole e handed) → after.first_nodes ≡ before.first_nodes → IsSoundRun script after
  kept_applied law legal log whole nodes =
      let s = beside script before.first_nodes [] in
      let a : Answer = answer before.whole e handed in
      let next = law s kept.typed.main_apart before.log before.whole e seat handed sound_before (right script before.first_nodes before.whole e work handed is_handed is_true) in
      let there : IsSound s after.log after.whole = subst (λ l. IsSound s l after.whole) (sym log) (subst (λ c. IsSound s (before.log ++ logged e seat a) c) (sym whole) next) in
      kept_of script after legal kept.typed (subst (λ n. 0 < n) (sym nodes) kept.nodes) (subst (λ n. n ≤ 64) (sym nodes) kept.few) (reached_behind log whole nodes) (subst (λ n. IsSound (beside script n []) after.log after.whole) (sym nodes) there)

  -- a job that it gives out may be run
  pub job_begun : ClaimsGiveGoodJobs → (job : JobParts) → outcome_of (answer before.whole e handed) ≡ Taken (Some job) → IsBegun script job
  job_begun law job gives = begun script job (is_good script (answer before.whole e handed) job (gives_good script kept.typed law before.first_nodes before.log before.whole sound_before e handed) gives)
    where
      given_in : Verdict → Option Job
      given_in (Taken g) = g
      given_in (Refused code) = None

      none_some : {X : Type 0} (x : X) → None ≡ Some x → ⊥
      none_some x e = cc

      is_good : (script : Script) (a : Answer) (j : Job) → GivesGood script a → outcome_of a ≡ Taken (Some j) → IsGood script j
      is_good script (Takes s) j good e = subst (λ o. IsGoodIfGiven script o) (ap given_in e) good
      is_good script (Refuses code) j good e = absurd (none_some j (ap given_in e))

  -- the log before it has that job's answers
  pub job_own : ClaimsGiveJobsOfTheLog → (job : JobParts) → outcome_of (answer before.whole e handed) ≡ Taken (Some job) → IsOfLog before.log job
  job_own law job gives = is_own (answer before.whole e handed) job (gives_own script law before.first_nodes before.log before.whole sound_before e handed) gives
    where
      given_in : Verdict → Option Job
      given_in (Taken g) = g
      given_in (Refused code) = None

      none_some : {X : Type 0} (x : X) → None ≡ Some x → ⊥
      none_some x e = cc

      is_own : (a : Answer) (j : Job) → GivesOfLog before.log a → outcome_of a ≡ Taken (Some j) → IsOfLog before.log j
      is_own (Takes s) j own e = subst (λ o. IsOfLogIfGiven before.log o) (ap given_in e) own
      is_own (Refuses code) j own e = absurd (none_some j (ap given_in e))

-- ---- what is told

abbrev given_by : Verdict → Option Job
given_by (Taken g) = g
given_by (Refused code) = None

abbrev refused_by : Verdict → Option Refusal
refused_by (Taken g) = None
refused_by (Refused refusal) = Some refusal

none_is_some : {X : Type 0} (x : X) → None ≡ Some x → ⊥
none_is_some x e = cc

some_is : {X : Type 0} (x y : X) → Some x ≡ Some y → x ≡ y
some_is x y e = cc

pub tells_refused : (a : Answer) (refusal : Refusal) → outcome_of a ≡ Refused refusal → Tells a (told.Refuses refusal)
tells_refused (Takes s) refusal e = absurd (none_is_some refusal (ap refused_by e))
tells_refused (Refuses other) refusal e = sym (ap told.Refuses (some_is other refusal (ap refused_by e)))

pub tells_accepted : (a : Answer) → outcome_of a ≡ Taken None → Tells a Accepts
tells_accepted (Takes s) e = subst (λ o. GivesThat o Accepts) (sym (ap given_by e)) refl
tells_accepted (Refuses code) e = absurd (none_is_some code (sym (ap refused_by e)))

pub tells_job : (a : Answer) (job : JobParts) → outcome_of a ≡ Taken (Some job) → Tells a (GivesJob job)
tells_job (Takes s) job e = subst (λ o. GivesThat o (GivesJob job)) (sym (ap given_by e)) refl
tells_job (Refuses code) job e = absurd (none_is_some code (sym (ap refused_by e)))

-- ---- an event that was answered, and stands in the log

pub record Came (script : Script) (before after : RunState) (e : Event) (seat : ℕ) (work : Option Done) (outcome : Verdict) : Type 0 where
  pub handed : CommitInput
  pub is_handed : IsHanded before.whole e work handed
  pub is_true : IfSome work (λ d. IsTrueOf script d)
  pub log : after.log ≡ before.log ++ logged e seat (answer before.whole e handed)
  pub whole : after.whole ≡ whole_after before.whole (answer before.whole e handed)
  pub nodes : after.first_nodes ≡ before.first_nodes
  pub goes_on : after.is_halted ≡ false
  pub outcome_is : outcome ≡ outcome_of (answer before.whole e handed)

-- the event's own entry, and then what comes of it
logged_so : (e : Event) (seat : ℕ) (a : Answer) → In e seat ∷ come_of a ≡ logged e seat a
logged_so e seat (Takes s) = refl
logged_so e seat (Refuses why) = refl

-- what the whole answered to the event as it takes it
pub came : (script : Script) (before after : RunState) (e taken : Event) (seat : ℕ) (work : Option Done) (handed : CommitInput) (entries : List Entry) (outcome : Verdict) →
    taken ≡ e → IsHanded before.whole e work handed → IfSome work (λ d. IsTrueOf script d) →
    entries ≡ come_of (answer before.whole taken handed) → outcome ≡ outcome_of (answer before.whole taken handed) →
    after.log ≡ before.log ++ In taken seat ∷ entries → after.whole ≡ whole_after before.whole (answer before.whole taken handed) →
    after.first_nodes ≡ before.first_nodes → after.is_halted ≡ false → Came script before after e seat work outcome
came script before after e taken seat work handed entries outcome same is_handed is_true comes outcome_is log whole nodes goes_on =
    let a : Answer = answer before.whole taken handed in
    let logged_there : In taken seat ∷ entries ≡ logged taken seat a = ap (λ es. In taken seat ∷ es) comes ∙ logged_so taken seat a in
    record {
      handed = handed;
      is_handed = is_handed;
      is_true = is_true;
      log = subst (λ x. after.log ≡ before.log ++ logged x seat (answer before.whole x handed)) same (log ∙ ap (λ es. before.log ++ es) logged_there);
      whole = subst (λ x. after.whole ≡ whole_after before.whole (answer before.whole x handed)) same whole;
      nodes = nodes;
      goes_on = goes_on;
      outcome_is = subst (λ x. outcome ≡ outcome_of (answer before.whole x handed)) same outcome_is;
    }

pub applies : (script : Script) (before after : RunState) (e : Event) (seat : ℕ) (work : Option Done) (outcome : Verdict) (told : told.Reply) → (h : Came script before after e seat work outcome) →
    Tells (answer before.whole e h.handed) told → Applies before e seat work after told
applies script before after e seat work outcome told h tells =
    (h.handed, h.is_handed, record { log = h.log; whole = h.whole; nodes = h.nodes; goes_on = h.goes_on; told_so = tells })

pub kept_behind : (script : Script) (before after : RunState) (e : Event) (seat : ℕ) (work : Option Done) (outcome : Verdict) → IsSoundRun script before → before.is_halted ≡ false →
    EventsKeepSound → SoundIsLegal → Came script before after e seat work outcome → IsSoundRun script after
kept_behind script before after e seat work outcome kept goes_on law legal h =
    kept_applied script before after e seat work h.handed kept goes_on h.is_handed h.is_true law legal h.log h.whole h.nodes

pub begun_behind : (script : Script) (before after : RunState) (e : Event) (seat : ℕ) (work : Option Done) (outcome : Verdict) → IsSoundRun script before → before.is_halted ≡ false →
    ClaimsGiveGoodJobs → Came script before after e seat work outcome → (job : JobParts) → outcome ≡ Taken (Some job) → IsBegun script job
begun_behind script before after e seat work outcome kept goes_on law h job gives =
    job_begun script before after e seat work h.handed kept goes_on h.is_handed h.is_true law job (sym h.outcome_is ∙ gives)

pub own_behind : (script : Script) (before after : RunState) (e : Event) (seat : ℕ) (work : Option Done) (outcome : Verdict) → IsSoundRun script before → before.is_halted ≡ false →
    ClaimsGiveJobsOfTheLog → JobsStayOfTheLog → Came script before after e seat work outcome → (job : JobParts) → outcome ≡ Taken (Some job) → IsOfLog after.log job
own_behind script before after e seat work outcome kept goes_on law stay h job gives =
    let a : Answer = answer before.whole e h.handed in
    let own = job_own script before after e seat work h.handed kept goes_on h.is_handed h.is_true law job (sym h.outcome_is ∙ gives) in
    subst (λ log. IsOfLog log job) (sym h.log) (stay before.log (logged e seat a) job own)
