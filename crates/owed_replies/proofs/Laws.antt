-- The law of replies, of every run.
use Rattle.std.proofs.Common.{◌≡◌, ℕ, List, [], ◌∷◌, ◌++◌, Some, None, Option, refl, ap, sym, subst, ◌∙◌}
use Rattle.std.specs.Prelude.{Bool, true, false, if◌then◌else◌}
use Rattle.event_log.specs.Breaks.{Among}
use Rattle.event_log.specs.Entries.{Accepted, Attempt, Entry, Event, In}
use Rattle.event_log.specs.Entries.{Refusal, Limit}
use Rattle.event_log.specs.Rules.{Setting}
use Rattle.protocol.specs.Answers.{Answer, Refuses, Step, Takes, answer, decided, given_out, logged, takes, whole_after}
use Rattle.protocol.specs.Events.{happens}
use Rattle.protocol.specs.Jobs.{CommitInput}
use Rattle.protocol.specs.Messages.{Envelope}
use Rattle.protocol.specs.Refusals.{is_within_limits, refusal}
use Rattle.protocol.specs.Cluster.{Transition, ClusterState}
use Rattle.protocol_owed.specs.Runs.{Running, after_events, opening_run}
use Rattle.protocol_owed.specs.Seen.{IsCalm}
use Rattle.lease_discipline.specs.Told.{IsInStep}
use Rattle.owed_replies.specs.Law.{IsPaid, LawOfReplies, happening}
use Rattle.owed_replies.proofs.Advancing.{Advances, IsBrought}
use Rattle.owed_replies.proofs.Contents.{AtsAreKnown, sent_are_known}
use Rattle.owed_replies.proofs.Happens.{event_advances}
use Rattle.owed_replies.proofs.Replies.{accepted_owed, finish_owed}
use Rattle.owed_replies.proofs.Requests.{request_owed}
use Rattle.owed_replies.proofs.Using.{used_owed}
use Rattle.owed_replies.proofs.Waiting.{hold_owed, locations_owed}
use Rattle.owed_replies.proofs.Runs.{RunReplies, event_run, run_replies}

-- an event that was taken wasn't refused, and is what happens
record IsTaken (c : ClusterState) (e : Event) (handed : CommitInput) (step : Step) : Type 0 where
  unrefused : refusal c e handed ≡ None
  same : takes (happens c e handed) (given_out c e) ≡ Takes step

taken : (c : ClusterState) (e : Event) (handed : CommitInput) (step : Step) → answer c e handed ≡ Takes step → IsTaken c e handed step
taken c e handed step answered = by_code (refusal c e handed) refl answered
  where
    by_limit : (t : Bool) → refusal c e handed ≡ None → (if t then takes (happens c e handed) (given_out c e) else Refuses Limit) ≡ Takes step → IsTaken c e handed step
    by_limit true is f = record { unrefused = is; same = f }
    by_limit false is f = absurd (cc)

    by_code : (o : Option Refusal) → refusal c e handed ≡ o → decided c e handed o ≡ Takes step → IsTaken c e handed step
    by_code None is f = by_limit (is_within_limits (happens c e handed).whole) is f
    by_code (Some code) is f = absurd (cc)

module _ (s : Setting) (r : Running) (k : RunReplies s r) (calm : IsCalm r.log) (e : Event) (seat : ℕ) (handed : CommitInput) (step : Step) (answered : answer r.whole e handed ≡ Takes step)
    (after : IsInStep s (r.log ++ logged e seat (answer r.whole e handed)) (whole_after r.whole (answer r.whole e handed))) where
  step_after : IsInStep s (r.log ++ In e seat ∷ step.entries) step.whole
  step_after = subst (λ a. IsInStep s (r.log ++ logged e seat a) (whole_after r.whole a)) answered after

  here : IsTaken r.whole e handed step
  here = taken r.whole e handed step answered

  abbrev m : Transition
  m = happens r.whole e handed

  advances : Advances r.log r.whole e seat m
  advances = event_advances s r.log r.whole k.step k.replies seat e handed here.unrefused
      (subst (λ x. IsInStep s (r.log ++ logged e seat x) (whole_after r.whole x)) (answered ∙ sym here.same) after)

  abbrev entries_in : Answer → List Entry
  entries_in (Takes x) = x.entries
  entries_in (Refuses code) = []

  abbrev envelopes_in : Answer → List Envelope
  envelopes_in (Takes x) = x.envelopes
  envelopes_in (Refuses code) = []

  brought : (a : Attempt) → Among (Accepted a) step.entries → IsBrought r.whole e a
  brought a i = advances.accepts a (subst (λ es. Among (Accepted a) es) (sym (ap entries_in here.same)) i)

  network : step.whole.network ≡ r.whole.network ++ step.envelopes
  network =
      sym (ap (λ a. (whole_after r.whole a).network) here.same) ∙ advances.network ∙ ap (λ a. r.whole.network ++ envelopes_in a) here.same

  known : AtsAreKnown (r.log ++ In e seat ∷ step.entries) step.envelopes
  known = sent_are_known s (r.log ++ In e seat ∷ step.entries) r.whole step.whole step.envelopes step_after.sound.between network

  pub is_paid : IsPaid (happening s r e seat step)
  is_paid = record {
    requests = request_owed s r k calm e seat handed step answered known;
    locations = locations_owed s r k calm e seat handed step answered;
    holds = hold_owed s r k calm e seat handed step answered;
    finishes = finish_owed s r k calm e seat handed step answered;
    accepted = accepted_owed s r k calm e seat handed step answered brought step_after known;
    owner = used_owed s r k calm e seat handed step answered brought step_after;
  }

pub law_of_replies : LawOfReplies
law_of_replies s slots some apart gs right calm g right_now step answered =
    let r : Running = after_events (opening_run s.nodes slots) gs in
    let k : RunReplies s r = run_replies s slots some apart gs right in
    is_paid s r k calm g.event g.seat g.handed step answered (event_run s apart r g right_now k).step
