-- Every accepted event of every run pays what it owes, as far as that is proved.
use Rattle.event_log.specs.Sane.{Sane}
use Rattle.event_log.proofs.SaneLaws.{legal_logs_are_sane}
use Rattle.owed_asks.specs.of_protocol_legal.Whole.{setting_of}
use Rattle.std.proofs.Common.{◌≡◌, ℕ, ◌<◌, ◌≤◌, Bool, true, false, List, [], ◌∷◌, ◌++◌, Option, Some, None, refl, ap, sym, subst, ◌∙◌}
use Rattle.meaning.specs.Mains.{KeepsMainApart}
use Rattle.meaning.specs.Values.{Id, Outcome}
use Rattle.event_log.specs.Entries.{Deliver, Entry, Event, In}
use Rattle.event_log.specs.Rules.{Setting}
use Rattle.protocol.specs.Answers.{Step, Takes, answer}
use Rattle.protocol.specs.Messages.{Envelope, Missing, TheNode, TheWorker, envelope}
use Rattle.protocol.specs.Nodes.{Node}
use Rattle.protocol.specs.Stores.{copy_in}
use Rattle.protocol.specs.Cluster.{ClusterState, node_at}
use Rattle.owed_asks.specs.of_protocol_legal.Past.{past}
use Rattle.owed_asks.proofs.of_protocol_legal.Placing.{copy_is_true}
use Rattle.owed_asks.specs.of_protocol_laws.Coming.{IsRight}
use Rattle.protocol_owed.specs.Ends.{EndsAreReported}
use Rattle.protocol_owed.specs.Runs.{AcknowledgementsAreMade, FetchIsMet, Handing, Running, after_event, after_events, answer_to, is_copy, keeps_in, opening_run, seen}
use Rattle.protocol_owed.specs.Seen.{IsCalm, IsContentOf}
use Rattle.protocol_owed.specs.Turns.{AllSlotsAreRight, AsksAreAnswered, ClaimIsAnswered}
use Rattle.protocol_owed.proofs.Calm.{law_of_acknowledgements}
use Rattle.protocol_owed.proofs.Counting.{law_of_asks}
use Rattle.protocol_owed.proofs.Fetches.{law_of_fetches}
use Rattle.owed_asks.specs.of_lease_discipline.Slots.{AreRight}
use Rattle.owed_asks.specs.of_lease_discipline.Told.{entries_of}
use Rattle.owed_asks.proofs.of_lease_discipline.Events.{among_at}
use Rattle.owed_asks.proofs.of_lease_discipline.Told.{claims_are_answered, locations}
use Rattle.owed_asks.specs.Law.{happening}
use Rattle.owed_asks.proofs.Laws.{all_right, births_are_asked, calm_so_far, elsewheres_are_asked, gives_are_begun, last_log, last_whole, one_more, RunKeeps}
use Rattle.owed_asks.proofs.Laws.{runs_keep}
use Rattle.owed_asks.proofs.Needs.{copies_are_got}
use Rattle.owed_asks.proofs.RightSlots.{run_uses, slots_are_all_right, there}
use Rattle.owed_asks.proofs.UserEvents.{KeepsUses}
use Rattle.owed_laws.proofs.KeptCopies.{KeepsMade, first_copy_kept, runs_keep_made}
use Rattle.owed_replies.proofs.Contents.{copy_known}
use Rattle.owed_laws.proofs.Reports.{ends_are_reported}
use Rattle.owed_laws.proofs.Senders.{senders_are_there}
use Rattle.owed_laws.proofs.NewWaits.{new_waits_are_tended}
use Rattle.owed_laws.specs.Law.{AllIsPaid, AnswerPays, EventIsPaid, EventsArePaid, FetchesAreMet, FetchesReachNodes, ReachedGoesOn, ReachedPays, RepliesArePaid}
use Rattle.protocol_owed.specs.Owed.{RepliesAreMade}
use Rattle.protocol_owed.specs.Replies.{FetchIsAnswered, Happening}
use Rattle.owed_replies.specs.Law as R
use Rattle.owed_replies.proofs.Laws.{law_of_replies}

module _ (s : Setting) (slots : ℕ) (some : 0 < s.nodes) (slot : 1 ≤ slots) (apart : KeepsMainApart s.script) (gs : List Handing)
    (right : AreRight s (opening_run s.nodes slots) gs) (g : Handing) where
  abbrev r : Running
  r = after_events (opening_run s.nodes slots) gs

  keeps : RunKeeps s r
  keeps = runs_keep s slots some slot apart gs right

  uses : KeepsUses r.whole
  uses = run_uses s slots some slot apart gs right

  sane : Sane r.log
  sane = legal_logs_are_sane (setting_of s r.whole) r.log keeps.step.sound.between.legal

  copies : KeepsMade r.log r.whole
  copies = runs_keep_made s slots some apart gs right

  claims : ClaimIsAnswered (seen s r) g.event (entries_of (answer_to r g))
  claims = claims_are_answered s r.log r.whole keeps.step g.event g.handed

  module _ (is : IsRight s r.whole g.event g.handed) (step : Step) (taken : answer_to r g ≡ Takes step) where
    -- the event by its own name
    named : (e : Event) → g.event ≡ e → answer r.whole e g.handed ≡ Takes step
    named e same = ap (λ i. answer r.whole i g.handed) (sym same) ∙ taken

    asks : AsksAreAnswered (seen s r) g.event step.envelopes
    asks k n w a t same sent lives =
        let node = there s r keeps uses n lives in
        law_of_asks s slots slot gs g.seat g.handed k n w a t node.0 step sent node.1 node.2 (named (Deliver k) same)

    module _ (n w number : ℕ) (y : Id) (node : Node) (at : node_at r.whole n ≡ Some node) (live : node.is_live ≡ true) (met : FetchIsMet node step.envelopes n w y number) where
      -- what the store has, by the log
      content : (c : Outcome) → copy_in node.store y number ≡ Some c → IsContentOf r.log y number c
      content c has =
          let b = keeps.step.sound.between in
          copy_known r.log y number c (copy_is_true (past r.log b.asked) n node.store (b.knows.at_nodes n node at live).store y number c has)

      kept : (c : Option Outcome) → copy_in node.store y number ≡ c → (seen s r).keeps n y number ≡ is_copy c
      kept c has = ap (keeps_in y number) at ∙ ap is_copy has

      differ : (t : Bool) → t ≡ true → t ≡ false → ⊥
      differ t e f = cc

      by_copy : (c : Option Outcome) → copy_in node.store y number ≡ c → FetchIsAnswered (happening s r g step) n w y number
      by_copy None has = record {
        there = λ e. absurd (differ _ e (kept None has));
        first_copy = λ first. absurd (differ _ (first_copy_kept s r sane copies n node at y number first) (kept None has));
        lacking = λ _. met.lacking has;
      }
      by_copy (Some c) has = record {
        there = λ _. (c, content c has, met.there c has);
        first_copy = λ _. (c, content c has, met.there c has);
        lacking = λ e. absurd (differ _ (kept (Some c) has) e);
      }

    fetches : FetchesAreMet (happening s r g step)
    fetches n w number y brings lives =
        let node = there s r keeps uses n lives in
        let met = law_of_fetches s slots gs g.seat g.handed brings.0 n w y number node.0 step brings.2 node.1 node.2 (named (Deliver brings.0) brings.1) in
        by_copy n w number y node.0 node.1 node.2 met (copy_in node.0.store y number) refl

    slots_after : AllSlotsAreRight (seen s (after_event r g))
    slots_after =
        subst (λ q. AllSlotsAreRight (seen s q)) (one_more (opening_run s.nodes slots) gs g)
        (slots_are_all_right s slots some slot apart (gs ++ g ∷ []) (all_right s (opening_run s.nodes slots) gs g right is))

    -- what comes after it, by both accounts
    same_after : record { whole = step.whole; log = r.log ++ In g.event g.seat ∷ step.entries } ≡ after_event r g
    same_after = both (sym (last_whole r g step taken)) (sym (last_log r g step taken))
      where
        both : {c d : ClusterState} {k l : List Entry} → c ≡ d → k ≡ l →
            ◌≡◌ {A = Running} (record { whole = c; log = k }) (record { whole = d; log = l })
        both e f = cc

    replies : IsCalm (after_event r g).log → R.IsPaid (happening s r g step)
    replies calm =
        subst (λ q. R.IsPaid (record { before = seen s r; event = g.event; entries = step.entries; envelopes = step.envelopes; after = seen s q })) same_after
        (law_of_replies s slots some apart gs right (calm_so_far r g step taken calm) g is step taken)

    ends_after : IsCalm (after_event r g).log → EndsAreReported (seen s (after_event r g))
    ends_after calm =
        subst (λ q. EndsAreReported (seen s q)) (one_more (opening_run s.nodes slots) gs g)
        (ends_are_reported s slots some slot apart (gs ++ g ∷ []) (all_right s (opening_run s.nodes slots) gs g right is)
        (subst (λ (q : Running). IsCalm q.log) (sym (one_more (opening_run s.nodes slots) gs g)) calm))

    -- what is acknowledged and handed on by the delivery of envelope k
    made : IsCalm (after_event r g).log → (k : ℕ) → g.event ≡ Deliver k → AcknowledgementsAreMade (seen s r) k step.envelopes
    made calm k same = law_of_acknowledgements s slots some gs g.seat k g.handed step (calm_so_far r g step taken calm) (named (Deliver k) same)

    paid : EventIsPaid (happening s r g step)
    paid = record {
      asks = asks;
      fetches = fetches;
      slots = slots_after;
      replies = λ calm. record {
        births = births_are_asked s slots some slot apart gs right g step is taken calm;
        waits = new_waits_are_tended s slots some slot apart gs right g step is taken calm;
        elsewhere = elsewheres_are_asked s slots some slot apart gs right g step is taken calm;
        gives = gives_are_begun s slots some slot apart gs right g step is taken calm;
        copies = copies_are_got s slots some slot apart gs right g step is taken calm;
        missing = λ i w y number m foreign brings.
            let l : Envelope = envelope (TheNode i) (TheWorker w) (Missing y number m) in
            let x = (senders_are_there s.nodes slots gs l (among_at r.whole.network brings.0 l brings.2)).lacking i w y number m refl in
            (made calm brings.0 brings.1).handed_on i w x.0.node number m y foreign
            (record { brought = brings.2; place = locations s r.log r.whole keeps.step.sound.between w x.0 x.1 });
        acknowledged = λ v w a n brings place. (made calm brings.0 brings.1).back v w n a (record { brought = brings.2; place = place });
        replies = replies calm;
        ends = ends_after calm;
      };
    }

pub events_are_paid : EventsArePaid
events_are_paid s slots some slot apart gs right g is = record {
  claims = claims s slots some slot apart gs right g;
  accepted = paid s slots some slot apart gs right g is;
}

-- ---- the whole

-- what is paid of replies is all
all_replies : (h : Happening) → FetchesAreMet h → FetchesReachNodes h → RepliesArePaid h → RepliesAreMade h
all_replies h met reach p = record {
  births = p.births;
  new_waits = p.waits;
  elsewhere = p.elsewhere;
  gives = p.gives;
  requests = p.replies.requests;
  accepted = p.replies.accepted;
  owner = p.replies.owner;
  locations = p.replies.locations;
  copies = p.copies;
  missing = p.missing;
  fetches = λ n w y number brings. met n w number y brings (reach n w number y brings);
  holds = p.replies.holds;
  finishes = p.replies.finishes;
  acknowledged = p.acknowledged;
  ends = p.ends;
}

pub all_is_paid : AllIsPaid
all_is_paid s slots some slot apart gs right g is step taken reach =
    let r : Running = after_events (opening_run s.nodes slots) gs in
    let all : AnswerPays s r g = events_are_paid s slots some slot apart gs right g is in
    let paid : EventIsPaid (happening s r g step) = all.accepted step taken in
    record {
      claims = subst (λ es. ClaimIsAnswered (seen s r) g.event es) (ap entries_of taken) all.claims;
      asks = λ _. paid.asks;
      slots = paid.slots;
      replies = λ _ calm. all_replies (happening s r g step) paid.fetches reach (paid.replies calm);
    }

-- ---- from one event to the next

pub reached_goes_on : ReachedGoesOn
reached_goes_on = record {
  opening = λ s slots. record { handings = []; right = tt; leads = refl };
  next = λ s slots r g reached right. record {
    handings = reached.handings ++ g ∷ [];
    right = all_right s (opening_run s.nodes slots) reached.handings g reached.right
        (subst (λ (q : Running). IsRight s q.whole g.event g.handed) (sym reached.leads) right);
    leads = one_more (opening_run s.nodes slots) reached.handings g ∙ ap (λ q. after_event q g) reached.leads;
  };
}

pub reached_pays : ReachedPays
reached_pays s slots some slot apart r reached g right =
    subst (λ q. AnswerPays s q g) reached.leads
    (events_are_paid s slots some slot apart reached.handings reached.right g
    (subst (λ (q : Running). IsRight s q.whole g.event g.handed) (sym reached.leads) right))
