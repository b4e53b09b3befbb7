-- Whoever asks for what is there is told where it is.
use Rattle.std.proofs.Common.{◌≡◌, ◌≢◌, ℕ, List, ◌∷◌, ◌++◌, Some, None, refl, ap, sym, subst, ◌∙◌, inl, inr, arith, Option}
use Rattle.std.specs.Prelude.{true, false, if◌then◌else◌, not, ◌==◌, ◌&&◌, is_some, is_none}
use Rattle.std.proofs.lemmas.Bool.Decides.{nat_tests}
use Rattle.sequence.proofs.Places.{and_left, and_right}
use Rattle.meaning.proofs.BirthLaws.{at_test}
use Rattle.meaning.specs.Values.{Id, Put, main_birth, Outcome}
use Rattle.event_log.specs.Breaks.{Among}
use Rattle.event_log.specs.Entries.{Deliver, Entry, Event, In, Released}
use Rattle.event_log.specs.Rules.{Setting}
use Rattle.event_log.specs.Words.{attempt}
use Rattle.event_log.specs.Holding.{ids_of_birth}
use Rattle.holding.proofs.Logged.{born_past}
use Rattle.owed_replies.proofs.Objects.{there_is}
use Rattle.protocol.specs.Answers.{Step, Takes, answer}
use Rattle.protocol.specs.Deliveries.{reached}
use Rattle.protocol.specs.Jobs.{CommitInput}
use Rattle.protocol.specs.Messages.{At, Envelope, Missing, TheWorker, Where, envelope}
use Rattle.protocol.specs.Nodes.{Node}
use Rattle.protocol.specs.Numbered.{changed_at, item_at}
use Rattle.protocol.specs.Locations.{hands_missing_on, is_present, takes_location, takes_location_by, where_reached}
use Rattle.protocol.specs.Releases.{release_step}
use Rattle.protocol.specs.Sets.{has, without_number}
use Rattle.protocol.specs.Steps.{WorkerContext, changes, is_own, object_at}
use Rattle.protocol.specs.Tables.{Object, Worker, is_whole, settled_number, without_location, is_nowhere}
use Rattle.protocol.specs.Cluster.{ClusterState, here, worker_at}
use Rattle.lease_discipline.specs.of_protocol_legal.Made.{IsNotAt, EndsSmall}
use Rattle.lease_discipline.specs.of_protocol_legal.Past.{past}
use Rattle.lease_discipline.specs.of_protocol_legal.Says.{Says}
use Rattle.lease_discipline.specs.of_protocol_legal.Whole.{Between, setting_of}
use Rattle.protocol_owed.specs.Replies.{Happening, IsRequest, RequestIsTold}
use Rattle.protocol_owed.specs.Runs.{Running}
use Rattle.protocol_owed.specs.Seen.{IsCalm, IsKnownAt, Tells}
use Rattle.protocol_owed.proofs.Replying.{Sent, where_is_told}
use Rattle.protocol_owed.proofs.Sets.{has-stays}
use Rattle.lease_discipline.proofs.Events.{among_at}
use Rattle.smallest_steps.proofs.Known.{changed_here}
use Rattle.owed_replies.specs.Kept.{IsBornIn, IsRightEnvelope}
use Rattle.owed_replies.specs.Law.{happening}
use Rattle.owed_replies.proofs.Advancing.{part_born, all_among, entry_born, owner_has}
use Rattle.owed_replies.proofs.Contents.{AtsAreKnown}
use Rattle.owed_replies.proofs.Delivered.{accepted_other, born_serial, delivered_out, owner_there}
use Rattle.owed_replies.proofs.Known.{born_by_past}
use Rattle.owed_replies.proofs.Quiet.{HasContentAt, IsHad, node_alive, none_lost, none_lost_put, put_known, released_among, same_home}
use Rattle.owed_replies.proofs.Runs.{RunReplies}

module _ (s : Setting) (r : Running) (k : RunReplies s r) (calm : IsCalm r.log) where
  abbrev c : ClusterState
  c = r.whole

  abbrev b : Between s r.log r.whole
  b = k.step.sound.between

  -- what is known somewhere was born
  known_born : (y : Id) (number n : ℕ) → IsKnownAt r.log y number n → IsBornIn r.log y
  known_born y number n (inl p) =
      elim (born_past s r.log k.step.sound.past k.step.sound.held.joined.tells y (Put p.value) p.put) [
        | inl main ↦ absurd (not_main main.1)
        | inr q ↦ born_by_past s r.log c k.step.sound y (y, record { bearer = q.0; put = true; others = 0; ids = ids_of_birth (Put p.value); born = q.1; one = inl refl })
      ]
    where
      not_main : Put p.value ≡ main_birth → ⊥
      not_main e = cc
  known_born y number n (inr p) = part_born r.log y p.part p.born (accepted_other (setting_of s c) r.log b.legal (attempt p.part.born.object number) p.accepted)

  -- another place that is taken out leaves the content
  pub without_other : (z : Object) (number n j : ℕ) → n ≢ j → HasContentAt z number n → HasContentAt (without_location j z) number n
  without_other z number n j apart q =
      let kept : z.kept ≡ None → has (without_number z.locations j) n ≡ true = λ none. has-stays z.locations j n (λ e. apart (sym e)) (q.place none) in
      record {
        settled = q.settled;
        unfaulted = q.unfaulted;
        whole = ap (λ t. t && not (is_nowhere (without_location j z))) (and_left (is_whole z) (not (is_nowhere z)) q.whole) ∙
            ap not (there_is (without_number z.locations j) n z.kept kept);
        number_is = q.number_is;
        place = kept;
      }

  -- ---- an event that is taken

  module _ (e : Event) (seat : ℕ) (handed : CommitInput) (step : Step) (answered : answer c e handed ≡ Takes step)
      (known_then : AtsAreKnown (r.log ++ In e seat ∷ step.entries) step.envelopes) where
    abbrev then_log : List Entry
    then_log = r.log ++ In e seat ∷ step.entries

    abbrev hap : Happening
    hap = happening s r e seat step

    as_delivery : (i : ℕ) → e ≡ Deliver i → answer c (Deliver i) handed ≡ Takes step
    as_delivery i is = subst (λ f. answer c f handed ≡ Takes step) is answered

    own_now : (m n : ℕ) → m ≡ n → (n == m) ≡ true
    own_now m n f = grind (arith, nat_tests)

    other_way : (v w : ℕ) → (w == v) ≡ false → (v == w) ≡ false
    other_way v w f = grind (arith, nat_tests)

    same_number : (m n : ℕ) → (m == n) ≡ true → m ≡ n
    same_number m n f = grind (arith, nat_tests)

    told_so : (y : Id) (w number n : ℕ) (z : Object) → HasContentAt z number n → Among (envelope (TheWorker y.owner) (TheWorker w) (At y (settled_number z) z.locations z.kept)) step.envelopes →
        Tells then_log step.envelopes y w number n
    told_so y w number n z q told =
        let sent = subst (λ i. Among (envelope (TheWorker y.owner) (TheWorker w) (At y i z.locations z.kept)) step.envelopes) q.number_is told in
        record {
          nodes = z.locations;
          kept = z.kept;
          told = sent;
          named = q.place;
          known = known_then y.owner w number y z.locations z.kept sent;
        }

    -- where a copy is missed, the content isn't
    none_of : (r : Option Outcome) → is_none r ≡ true → r ≡ None
    none_of None f = refl
    none_of (Some d) f = absurd (cc)

    missed_elsewhere : (y : Id) (x : Worker) (z : Object) (number n j : ℕ) → worker_at c y.owner ≡ Some x → item_at x.objects y.serial ≡ Some z → IsKnownAt r.log y number n →
        (Among (Released y) r.log → ⊥) → (EndsSmall r.log y number → ⊥) → IsNotAt r.log y number j → n ≢ j
    missed_elsewhere y x z number n j at there known unreleased big (made, inl (inl gone)) same = unreleased (released_among s r.log c b calm y gone)
    missed_elsewhere y x z number n j at there known unreleased big (made, inl (inr (inl (put, inl lost)))) same = none_lost_put r.log calm lost.before lost.after j y lost.parts lost.lost
    missed_elsewhere y x z number n j at there known unreleased big (made, inl (inr (inl (put, inr killed)))) same = node_alive r.log calm j killed
    missed_elsewhere y x z number n j at there known unreleased big (made, inl (inr (inr (ended, inl lost)))) same = none_lost r.log calm _ lost.2
    missed_elsewhere y x z number n j at there known unreleased big (made, inl (inr (inr (ended, inr small)))) same = big small
    missed_elsewhere y x z number n j at there known unreleased big (made, inr (home, is, apart)) same =
        apart (same_home s r.log c b calm y x z number n home at there known is ∙ same)

    pub request_owed : RequestIsTold hap
    request_owed w y m number n (i, is, sent) request known unreleased =
        let born = known_born y number n known in
        let x = owner_there s r.log c b calm y (entry_born r.log y born) in
        let node = k.step.leases.homes y.owner x.0 x.1 in
        let z = owner_has s r.log c b y (entry_born r.log y born) x.0 x.1 x.2 (born_serial (setting_of s c) r.log b.legal y born) in
        let content = put_known s r.log c b calm y x.0 z.0 number n x.1 z.1 unreleased known in
        let out = delivered_out c i handed step (TheWorker w) y.owner m x.0 node.0 sent x.1 x.2 node.1 (as_delivery i is) in
        by_message x.0 node.0 z.0 x.1 z.1 content out.1 request
      where
        l : Envelope
        l = envelope (TheWorker w) (TheWorker y.owner) m

        by_message : (x : Worker) (node : Node) (z : Object) → worker_at c y.owner ≡ Some x → item_at x.objects y.serial ≡ Some z → IsHad r.log y z number n →
            step.envelopes ≡ (release_step (reached (here c y.owner x node) (TheWorker w) m)).there.out.envelopes → IsRequest y m → Tells then_log step.envelopes y w number n
        by_message x node z at there (content, big) envelopes (inl where_is) =
            let h : WorkerContext = here c y.owner x node in
            let right : IsRightEnvelope r.log (envelope (TheWorker w) (TheWorker y.owner) (Where y)) =
            subst (λ q. IsRightEnvelope r.log (envelope (TheWorker w) (TheWorker y.owner) q)) where_is (k.replies.envelopes l (among_at c.network i l sent)) in
            let item : object_at h y ≡ Some z = ap (λ t. if t then item_at x.objects y.serial else None) (own_now y.owner y.owner refl) ∙ there in
            told_so y w number n z content
            (subst (λ ls. Among (envelope (TheWorker y.owner) (TheWorker w) (At y (settled_number z) z.locations z.kept)) ls) (sym envelopes)
            (subst (λ q. Sent (envelope (TheWorker y.owner) (TheWorker w) (At y (settled_number z) z.locations z.kept)) (release_step (reached h (TheWorker w) q))) (sym where_is)
            (where_is_told h y w z item content.unfaulted content.whole (other_way w y.owner right.1))))
        by_message x node z at there (content, big) envelopes (inr (number', j, missing_is)) =
            let h : WorkerContext = here c y.owner x node in
            let right : IsRightEnvelope r.log (envelope (TheWorker w) (TheWorker y.owner) (Missing y number' j)) =
            subst (λ q. IsRightEnvelope r.log (envelope (TheWorker w) (TheWorker y.owner) q)) missing_is (k.replies.envelopes l (among_at c.network i l sent)) in
            let says : Says (past r.log b.asked) (envelope (TheWorker w) (TheWorker y.owner) (Missing y number' j)) =
            subst (λ q. Says (past r.log b.asked) (envelope (TheWorker w) (TheWorker y.owner) q)) missing_is (all_among (Says (past r.log b.asked)) c.network l b.knows.told (among_at c.network i l sent)) in
            let own : is_own h y ≡ true = own_now y.owner y.owner refl in
            let item : object_at h y ≡ Some z = ap (λ t. if t then item_at x.objects y.serial else None) own ∙ there in
            let other : (w == y.owner) ≡ false = other_way w y.owner right.1 in
            let reached_so : step.envelopes ≡ (release_step (where_reached (takes_location_by h y number' j (Some z)) w y)).there.out.envelopes =
            envelopes ∙ ap (λ q. (release_step (reached h (TheWorker w) q)).there.out.envelopes) missing_is ∙
            ap (λ t. (release_step (if t then where_reached (takes_location h y number' j) w y else hands_missing_on h y number' j)).there.out.envelopes) own ∙
            ap (λ o. (release_step (where_reached (takes_location_by h y number' j o) w y)).there.out.envelopes) item in
            at_test (λ t. is_present number' z ≡ t → step.envelopes ≡ (release_step (where_reached (if t then changes h y (without_location j) else h) w y)).there.out.envelopes → Tells then_log step.envelopes y w number n)
            (is_present number' z)
            (λ _ present so.
            let none : z.kept ≡ None = none_of z.kept (and_right (is_some z.settled && (settled_number z == number') && not z.is_released) (is_none z.kept) present) in
            let same : settled_number z ≡ number' = same_number (settled_number z) number' (and_right (is_some z.settled) (settled_number z == number')
            (and_left (is_some z.settled && (settled_number z == number')) (not z.is_released) (and_left (is_some z.settled && (settled_number z == number') && not z.is_released) (is_none z.kept) present))) in
            let apart : n ≢ j = missed_elsewhere y x z number n j at there known unreleased (big none) (subst (λ q. IsNotAt r.log y q j) (sym same ∙ content.number_is) says) in
            let left : HasContentAt (without_location j z) number n = without_other z number n j apart content in
            let g : WorkerContext = changes h y (without_location j) in
            let now : object_at g y ≡ Some (without_location j z) =
            ap (λ t. if t then item_at (changed_at x.objects y.serial (without_location j)) y.serial else None) own ∙ changed_here x.objects y.serial (without_location j) z there in
            told_so y w number n (without_location j z) left
            (subst (λ ls. Among (envelope (TheWorker y.owner) (TheWorker w) (At y (settled_number (without_location j z)) (without_location j z).locations z.kept)) ls) (sym so)
            (where_is_told g y w (without_location j z) now left.unfaulted left.whole other)))
            (λ _ _ so. told_so y w number n z content
            (subst (λ ls. Among (envelope (TheWorker y.owner) (TheWorker w) (At y (settled_number z) z.locations z.kept)) ls) (sym so)
            (where_is_told h y w z item content.unfaulted content.whole other))) refl reached_so
