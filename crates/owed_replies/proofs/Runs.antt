-- Every run keeps what replies need.
use Rattle.std.proofs.Common.{◌≡◌, ◌<◌, ℕ, zero, suc, List, [], ◌∷◌, ◌++◌, Some, None, Option, refl, ap, sym, subst, ◌∙◌, inl, inr}
use Rattle.std.specs.Prelude.{Bool, true, false, if◌then◌else◌}
use Rattle.std.specs.List.{flat_map}
use Rattle.meaning.specs.Mains.{KeepsMainApart}
use Rattle.meaning.specs.Values.{Outcome}
use Rattle.event_log.specs.Breaks.{Among}
use Rattle.event_log.specs.Entries.{Attempt, Deliver, Ended, Entry, Event, In, Refused}
use Rattle.event_log.specs.Entries.{Refusal, Limit}
use Rattle.event_log.specs.Events.{accepted_events}
use Rattle.event_log.specs.Legal.{opening}
use Rattle.event_log.specs.Rules.{Setting}
use Rattle.event_log.specs.Words.{ends_of}
use Rattle.event_log.proofs.EventLaws.{accepted-refused}
use Rattle.protocol.specs.Answers.{Answer, Refuses, answer, decided, given_out, logged, takes, whole_after}
use Rattle.protocol.specs.Events.{happens}
use Rattle.protocol.specs.Jobs.{CommitInput}
use Rattle.protocol.specs.Messages.{TheWorker, envelope}
use Rattle.protocol.specs.Refusals.{is_within_limits, refusal}
use Rattle.protocol.specs.Tables.{HasEnded, HasFaulted, Out, Phase, Ready, Execution, Waits, Worker, has_stopped}
use Rattle.protocol.specs.Cluster.{ClusterState, first_whole, main_run, worker_at}
use Rattle.lease_discipline.specs.of_protocol_laws.Coming.{IsRight}
use Rattle.protocol_owed.specs.Runs.{Handing, Running, after_event, after_events, opening_run}
use Rattle.protocol_owed.specs.Seen.{IsCalm, delivered_in}
use Rattle.protocol_owed.proofs.Envelopes.{among-append_cases, among-nothing}
use Rattle.lease_discipline.specs.Slots.{AreRight}
use Rattle.lease_discipline.specs.Told.{IsInStep}
use Rattle.lease_discipline.proofs.Opening.{only_driver}
use Rattle.lease_discipline.proofs.Told.{events_stay_in_step, opening_is_in_step}
use Rattle.lease_discipline.specs.of_protocol_legal.Knows.{KnowsPhase, KnowsRun}
use Rattle.lease_discipline.specs.of_protocol_legal.Whole.{Between, setting_of}
use Rattle.lease_discipline.proofs.of_protocol_legal.FrameOpens.{accepted_none}
use Rattle.owed_replies.specs.Kept.{IsGoingOn, IsOverInTime, KeepsReplies, RunIsRight}
use Rattle.owed_replies.specs.Law.{AwaitsAcks, EventsKeepReplies, LawOfEnds, OpeningKeepsReplies}
use Rattle.owed_replies.proofs.Advancing.{born_more, end_among, known_more, right_more}
use Rattle.owed_replies.proofs.Happens.{happens_keeps}
use Rattle.owed_replies.proofs.Quiet.{all_live}

-- ---- the opening

pub opening_keeps_replies : OpeningKeepsReplies
opening_keeps_replies nodes slots = record {
  envelopes = λ l i. absurd (among-nothing l i);
  runs = λ w x run at is. subst (RunIsRight opening [] w) (main_is w x run at is) (record {
    needs = λ y e. absurd (cc);
    holds = λ k i. absurd (among-nothing k i);
    told = λ c e. absurd (cc);
    main = λ _ e. absurd (cc);
  });
  in_time = λ w x run at is. subst IsOverInTime (main_is w x run at is) (λ e. absurd (cc));
  delivered = λ k i. absurd (among-nothing _ (subst (λ es. Among (Deliver k) es) accepted_none i));
  askers = λ v y m i. absurd (among-nothing _ (subst (λ es. Among (envelope (TheWorker v) (TheWorker y.owner) m) (flat_map (delivered_in []) es)) accepted_none i));
  ends = λ a b i. absurd (no_end a b i);
}
  where
    main_is : (w : ℕ) (x : Worker) (run : Execution) → worker_at (first_whole nodes slots) w ≡ Some x → x.run ≡ Some run → main_run ≡ run
    main_is w x run at is =
        let d = only_driver w x at in
        same (ap (λ (y : Worker). y.run) d.1 ∙ is)
      where
        same : ◌≡◌ {A = Option Execution} (Some main_run) (Some run) → main_run ≡ run
        same e = cc

    no_end : (a : Attempt) (b : List Outcome) → Among (Ended a b) opening → ⊥
    no_end a b (zero, e) = cc
    no_end a b (suc zero, e) = cc
    no_end a b (suc (suc k), e) = cc

-- ---- every event

refused_keeps : (log : List Entry) (c : ClusterState) (e : Event) (seat : ℕ) (code : Refusal) → KeepsReplies log c → KeepsReplies (log ++ In e seat ∷ Refused code ∷ []) c
refused_keeps log c e seat code k =
    let same : accepted_events (log ++ In e seat ∷ Refused code ∷ []) ≡ accepted_events log = accepted-refused log e seat code in
    record {
      envelopes = λ l i. right_more log (In e seat ∷ Refused code ∷ []) l.sender l.receiver l.message (k.envelopes l i);
      runs = λ w x run at is. let r = k.runs w x run at is in record {
        needs = λ y f foreign. known_more log (In e seat ∷ Refused code ∷ []) y (r.needs y f foreign);
        holds = λ j i. born_more log (In e seat ∷ Refused code ∷ []) j.object (r.holds j i);
        told = r.told;
        main = r.main;
      };
      in_time = k.in_time;
      delivered = λ i j. k.delivered i (subst (λ es. Among (Deliver i) es) same j);
      askers = λ v y m i. k.askers v y m (subst (λ es. Among (envelope (TheWorker v) (TheWorker y.owner) m) (flat_map (delivered_in c.network) es)) same i);
      ends = λ a b i. elim (among-append_cases log (In e seat ∷ Refused code ∷ []) (Ended a b) i) [ inl old ↦ k.ends a b old | inr new ↦ absurd (no_end a b new) ];
    }
  where
    no_end : (a : Attempt) (b : List Outcome) → Among (Ended a b) (In e seat ∷ Refused code ∷ []) → ⊥
    no_end a b (zero, f) = cc
    no_end a b (suc zero, f) = cc
    no_end a b (suc (suc j), f) = cc

module _ (s : Setting) (log : List Entry) (c : ClusterState) (e : Event) (seat : ℕ) (handed : CommitInput) (before : IsInStep s log c) (k : KeepsReplies log c) where
  abbrev After : Answer → Type 0
  After a = IsInStep s (log ++ logged e seat a) (whole_after c a)

  abbrev Kept : Answer → Type 0
  Kept a = KeepsReplies (log ++ logged e seat a) (whole_after c a)

  limited_keeps : (b : Bool) → refusal c e handed ≡ None → After (if b then takes (happens c e handed) (given_out c e) else Refuses Limit) →
      Kept (if b then takes (happens c e handed) (given_out c e) else Refuses Limit)
  limited_keeps true unrefused after = happens_keeps s log c before k seat e handed unrefused after
  limited_keeps false unrefused after = refused_keeps log c e seat Limit k

  decided_keeps : (code : Option Refusal) → refusal c e handed ≡ code → After (decided c e handed code) → Kept (decided c e handed code)
  decided_keeps None is after = limited_keeps (is_within_limits (happens c e handed).whole) is after
  decided_keeps (Some code) is after = refused_keeps log c e seat code k

  pub event_keeps : After (answer c e handed) → Kept (answer c e handed)
  event_keeps after = decided_keeps (refusal c e handed) refl after

pub events_keep_replies : EventsKeepReplies
events_keep_replies s apart log c e seat handed before right k =
    event_keeps s log c e seat handed before k (events_stay_in_step s apart log c e seat handed before right)

-- ---- runs

pub record RunReplies (s : Setting) (r : Running) : Type 0 where
  pub step : IsInStep s r.log r.whole
  pub replies : KeepsReplies r.log r.whole

pub event_run : (s : Setting) → KeepsMainApart s.script → (r : Running) (g : Handing) → IsRight s r.whole g.event g.handed → RunReplies s r → RunReplies s (after_event r g)
event_run s apart r g right k = record {
  step = events_stay_in_step s apart r.log r.whole g.event g.seat g.handed k.step right;
  replies = events_keep_replies s apart r.log r.whole g.event g.seat g.handed k.step right k.replies;
}

pub runs_keep : (s : Setting) → KeepsMainApart s.script → (r : Running) (gs : List Handing) → AreRight s r gs → RunReplies s r → RunReplies s (after_events r gs)
runs_keep s apart r [] right k = k
runs_keep s apart r (g ∷ gs) right k = runs_keep s apart (after_event r g) gs right.1 (event_run s apart r g right.0 k)

pub run_replies : (s : Setting) (slots : ℕ) → 0 < s.nodes → KeepsMainApart s.script → (gs : List Handing) → AreRight s (opening_run s.nodes slots) gs →
    RunReplies s (after_events (opening_run s.nodes slots) gs)
run_replies s slots some apart gs right =
    runs_keep s apart (opening_run s.nodes slots) gs right (record { step = opening_is_in_step s slots some; replies = opening_keeps_replies s.nodes slots })

-- ---- ends

-- a present attempt that ended has stopped
ended_stops : (s : Setting) (log : List Entry) (c : ClusterState) → Between s log c → (w : ℕ) (x : Worker) (run : Execution) → worker_at c w ≡ Some x → x.is_live ≡ true → x.run ≡ Some run →
    (b : List Outcome) → Among (Ended run.attempt b) log → has_stopped run.phase ≡ true
ended_stops s log c b w x run at live is d i = by_phase run.phase refl
  where
    knows : KnowsRun (setting_of s c) log w x run
    knows = (b.knows.workers w x at live).run run is

    no_end : ends_of run.attempt log ≡ [] → ⊥
    no_end e = among-nothing d (subst (λ xs. Among d xs) e (end_among log run.attempt d i))

    by_phase : (p : Phase) → run.phase ≡ p → has_stopped run.phase ≡ true
    by_phase (HasEnded c) e = ap has_stopped e
    by_phase (HasFaulted f) e = ap has_stopped e
    by_phase Ready e = absurd (no_end (subst (λ q. KnowsPhase (setting_of s c) log x run q) e knows.phase).ended)
    by_phase (Out j) e = absurd (no_end (subst (λ q. KnowsPhase (setting_of s c) log x run q) e knows.phase).ended)
    by_phase (Waits y f) e = absurd (no_end (subst (λ q. KnowsPhase (setting_of s c) log x run q) e knows.phase).0.ended)

pub law_of_ends : LawOfEnds
law_of_ends s slots some apart gs right calm a b i other =
    let r : Running = after_events (opening_run s.nodes slots) gs in
    let k : RunReplies s r = run_replies s slots some apart gs right in
    elim (k.replies.ends a b i other) [ inl told ↦ inl told | inr going ↦ inr (waiting s r k calm a b i going) ]
  where
    waiting : (s : Setting) (r : Running) → RunReplies s r → IsCalm r.log → (a : Attempt) (b : List Outcome) → Among (Ended a b) r.log → IsGoingOn r.whole a → AwaitsAcks r.whole a
    waiting s r k calm a b i g =
        let live = all_live s r.log r.whole k.step.sound.between calm g.number g.worker g.there in
        record {
          number = g.number;
          worker = g.worker;
          run = g.run;
          there = g.there;
          at = g.at;
          present = g.present;
          waits = λ none. k.replies.in_time g.number g.worker g.run g.there g.at
              (ended_stops s r.log r.whole k.step.sound.between g.number g.worker g.run g.there live g.at b (subst (λ q. Among (Ended q b) r.log) (sym g.present) i)) g.going none;
        }
