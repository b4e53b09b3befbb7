-- What is owed by a worker that waits, and for a Hold.
use Rattle.std.proofs.Common.{◌≡◌, ◌≢◌, ℕ, List, [], ◌∷◌, Some, None, Option, refl, ap, sym, subst, ◌∙◌, ◌⊎◌, inl, inr, arith}
use Rattle.std.specs.Prelude.{Bool, true, false, if◌then◌else◌, ◌==◌, ◌&&◌, is_none}
use Rattle.std.proofs.lemmas.Bool.Decides.{nat_tests}
use Rattle.std.proofs.lemmas.Bool.{eqb-true, false_from_ne_true}
use Rattle.meaning.specs.Births.{Bearing, numbered}
use Rattle.meaning.specs.Meaning.{replay, run_birth}
use Rattle.meaning.specs.Runs.{Bears, Ends, Gets, Needs, Piece, Prints, Stop, piece}
use Rattle.meaning.specs.Runs as tree
use Rattle.meaning.specs.Values.{Birth, Id, Named, Outcome, Trapped, Val, results_of}
use Rattle.event_log.specs.Breaks.{Among}
use Rattle.event_log.specs.Entries.{Attempt, Deliver, Event, Got}
use Rattle.event_log.specs.Events.{node_of}
use Rattle.event_log.specs.Rules.{Setting, Stops}
use Rattle.event_log.specs.Words.{answers_of}
use Rattle.protocol.specs.Answers.{Step, Takes, answer}
use Rattle.protocol.specs.Jobs.{CommitInput}
use Rattle.protocol.specs.Messages.{At, Fetch, Hold, HoldAck, Envelope, Missing, TheNode, TheWorker, envelope}
use Rattle.protocol.specs.Deliveries.{reached}
use Rattle.protocol.specs.Numbered.{item_at}
use Rattle.protocol.specs.Releases.{release_step}
use Rattle.protocol.specs.Sets.{has, is_empty}
use Rattle.protocol.specs.Steps.{WorkerContext, object_at}
use Rattle.protocol.specs.Tables.{HasEnded, HasFaulted, Out, Phase, Ready, Execution, Waits, Worker, object_needed}
use Rattle.protocol.specs.Nodes.{Node}
use Rattle.protocol.specs.Cluster.{ClusterState, here, node_at, worker_at}
use Rattle.lease_discipline.specs.of_protocol_legal.Knows.{KnowsPhase, KnowsRun, piece_of}
use Rattle.lease_discipline.specs.of_protocol_legal.Whole.{Between, setting_of}
use Rattle.protocol_owed.specs.Courses.{Rests, WaitsFor, course}
use Rattle.protocol_owed.specs.Replies.{AtIsUsed, Happening, HoldIsAcknowledged, IsGot}
use Rattle.protocol_owed.specs.Runs.{Running, seen}
use Rattle.protocol_owed.specs.Seen.{IsCalm}
use Rattle.protocol_owed.proofs.Replying.{IsAnswered, IsFetched, IsMissed, Uses, at_is_used, hold_is_acknowledged, at_is_got}
use Rattle.protocol_owed.specs.Told.{IsAsTold, attempt_by, pace_by, pace_in}
use Rattle.lease_discipline.proofs.Events.{among_at}
use Rattle.lease_discipline.proofs.Told.{lives_there, logs_tell, locations}
use Rattle.owed_replies.specs.Kept.{IsRightEnvelope}
use Rattle.owed_replies.specs.Law.{happening}
use Rattle.owed_replies.proofs.Advancing.{entry_born, owner_has}
use Rattle.owed_replies.proofs.Delivered.{born_serial, delivered_out, owner_there}
use Rattle.owed_replies.proofs.Quiet.{no_dead_nodes}
use Rattle.owed_replies.proofs.Runs.{RunReplies}

-- ---- a replay without births doesn't depend on its base

stop_anywhere : (n : ℕ) (t : tree.Run) (o p : Id) (answers : List Outcome) → (piece n t o answers).births ≡ [] → (piece n t o answers).stop ≡ (piece n t p answers).stop
stop_anywhere n (Ends c) o p answers e = refl
stop_anywhere n (Prints v next) o p answers e = stop_anywhere n next o p answers e
stop_anywhere n (Bears b made next) o p answers e = absurd (cc)
stop_anywhere n (Gets t r next) o p [] e = refl
stop_anywhere n (Gets t r next) o p (Val v ∷ answers) e = stop_anywhere n (next v) o p answers e
stop_anywhere n (Gets t r next) o p (Trapped x ∷ answers) e = refl

-- the ids that births take tell the base
same_base : (o p : Id) (bs cs : List Birth) → numbered o bs ≡ numbered p cs → (bs ≡ []) ⊎ (o ≡ p)
same_base o p [] cs e = inl refl
same_base o p (b ∷ bs) [] e = absurd (cc)
same_base o p (b ∷ bs) (d ∷ cs) e = inr (ap object_in e)
  where
    object_in : List Bearing → Id
    object_in [] = o
    object_in (x ∷ xs) = x.object

-- two replays on the same answers, whose births are the same, stop alike
pub stops_alike : (n : ℕ) (t : tree.Run) (o p : Id) (answers : List Outcome) → numbered o (piece n t o answers).births ≡ numbered p (piece n t p answers).births →
    (piece n t o answers).stop ≡ (piece n t p answers).stop
stops_alike n t o p answers e = elim (same_base o p (piece n t o answers).births (piece n t p answers).births e) [
  | inl none ↦ stop_anywhere n t o p answers none
  | inr same ↦ ap (λ q. (piece n t q answers).stop) same
]

module _ (s : Setting) (r : Running) (k : RunReplies s r) (calm : IsCalm r.log) where
  abbrev c : ClusterState
  c = r.whole

  abbrev b : Between s r.log r.whole
  b = k.step.sound.between

  -- a worker of which the log tells that it waits
  pub record IsWaiting (w : ℕ) (a : Attempt) (y : Id) : Type 0 where
    pub worker : Worker
    pub there : worker_at c w ≡ Some worker
    pub lives : worker.is_live ≡ true
    pub node : Node
    pub home : node_at c worker.node ≡ Some node
    pub run : Execution
    pub at : worker.run ≡ Some run
    pub present : run.attempt ≡ a
    pub needs : object_needed run.phase ≡ Some y

  pub waits_so : (w : ℕ) (a : Attempt) (y : Id) → WaitsFor (seen s r) w a y → IsWaiting w a y
  waits_so w a y f =
      let x = lives_there s r.log c b w f.lives in
      let told : IsAsTold (course (seen s r) w) x.0 = logs_tell s r.log c k.step w x.0 x.1 x.2 in
      by_run x.0 x.1 x.2 x.0.run refl (sym told.last ∙ f.present) (sym told.pace ∙ f.rests)
    where
      same_attempt_of : (p q : Attempt) → ◌≡◌ {A = Option Attempt} (Some p) (Some q) → p ≡ q
      same_attempt_of p q e = cc

      same_spec : (p q : Birth) → ◌≡◌ {A = Option Birth} (Some p) (Some q) → p ≡ q
      same_spec p q e = cc

      same_name : (p q : Id) → ◌≡◌ {A = Stop} (Needs (Named p)) (Needs (Named q)) → p ≡ q
      same_name p q e = cc

      by_phase : (x : Worker) (run : Execution) → worker_at c w ≡ Some x → x.is_live ≡ true → x.run ≡ Some run → run.attempt ≡ a → (p : Phase) → run.phase ≡ p → pace_in p ≡ Rests →
          object_needed run.phase ≡ Some y
      by_phase x run at live is same (Waits z g) e rests =
          let knows : KnowsRun (setting_of s c) r.log w x run = (b.knows.workers w x at live).run run is in
          let replayed : replay s.script run.spec run.base run.answers ≡ piece_of run.births run.prints z =
          (subst (λ q. KnowsPhase (setting_of s c) r.log x run q) e knows.phase).1 in
          let stops : Stops s r.log run.attempt (Needs (Named y)) = subst (λ q. Stops s r.log q (Needs (Named y))) (sym same) f.needs in
          let spec : run.spec ≡ stops.replays.spec = same_spec run.spec stops.replays.spec (sym knows.spec ∙ stops.replays.born) in
          let here_piece : stops.p ≡ replay s.script run.spec stops.base run.answers =
          stops.replays.replayed ∙ ap (λ q. replay s.script q stops.base (answers_of run.attempt r.log)) (sym spec) ∙ ap (λ q. replay s.script run.spec stops.base q) knows.answers in
          let own : numbered stops.base (replay s.script run.spec stops.base run.answers).births ≡ numbered run.base (replay s.script run.spec run.base run.answers).births =
          ap (λ (q : Piece). numbered stops.base q.births) (sym here_piece) ∙ sym stops.own ∙ knows.own ∙ ap (λ (q : Piece). numbered run.base q.births) (sym replayed) in
          let alike = stops_alike (results_of run.spec) (run_birth s.script run.spec) stops.base run.base run.answers own in
          let names : y ≡ z = same_name y z (sym stops.stopped ∙ ap (λ (q : Piece). q.stop) here_piece ∙ alike ∙ ap (λ (q : Piece). q.stop) replayed) in
          ap object_needed e ∙ ap (λ q. Some q) (sym names)
      by_phase x run at live is same Ready e rests = absurd (cc)
      by_phase x run at live is same (Out j) e rests = absurd (cc)
      by_phase x run at live is same (HasEnded d) e rests = absurd (cc)
      by_phase x run at live is same (HasFaulted g) e rests = absurd (cc)

      by_run : (x : Worker) → worker_at c w ≡ Some x → x.is_live ≡ true → (o : Option Execution) → x.run ≡ o → attempt_by o ≡ Some a → pace_by o ≡ Rests → IsWaiting w a y
      by_run x at live None is present rests = absurd (cc)
      by_run x at live (Some run) is present rests =
          let same : run.attempt ≡ a = same_attempt_of run.attempt a present in
          let n = k.step.leases.homes w x at in
          record {
            worker = x;
            there = at;
            lives = live;
            node = n.0;
            home = n.1;
            run = run;
            at = is;
            present = same;
            needs = by_phase x run at live is same run.phase refl rests;
          }

  -- ---- an event that is taken

  module _ (e : Event) (seat : ℕ) (handed : CommitInput) (step : Step) (answered : answer c e handed ≡ Takes step) where
    abbrev hap : Happening
    hap = happening s r e seat step

    as_delivery : (i : ℕ) → e ≡ Deliver i → answer c (Deliver i) handed ≡ Takes step
    as_delivery i is = subst (λ f. answer c f handed ≡ Takes step) is answered

    foreign_to : (y : Id) (w : ℕ) → y.owner ≢ w → (y.owner == w) ≡ false
    foreign_to y w other = false_from_ne_true (y.owner == w) (λ f. other (eqb-true y.owner w f))

    pub locations_owed : AtIsUsed hap
    locations_owed w a y number nodes content other (i, is, sent) waits =
        let q : IsWaiting w a y = waits_so w a y waits in
        let h : WorkerContext = here c w q.worker q.node in
        let l : Envelope = envelope (TheWorker y.owner) (TheWorker w) (At y number nodes content) in
        let right : IsRightEnvelope r.log l = k.replies.envelopes l (among_at c.network i l sent) in
        let out = delivered_out c i handed step (TheWorker y.owner) w (At y number nodes content) q.worker q.node sent q.there q.lives q.home (as_delivery i is) in
        by_content q content right out.0 out.1
      where
        IsSo : List ℕ → Type 0
        IsSo ns = IsGot hap a y ⊎
            ((n : ℕ) × (has ns n ≡ true) × Among (envelope (TheWorker w) (TheNode n) (Fetch y number)) step.envelopes) ⊎
            ((n : ℕ) × (node_of w r.log ≡ Some n) × (has ns n ≡ true) × Among (envelope (TheWorker w) (TheWorker y.owner) (Missing y number n)) step.envelopes)

        by_use : (q : IsWaiting w a y) (ns : List ℕ) → step.entries ≡ (release_step (reached (here c w q.worker q.node) (TheWorker y.owner) (At y number ns None))).there.out.entries →
            step.envelopes ≡ (release_step (reached (here c w q.worker q.node) (TheWorker y.owner) (At y number ns None))).there.out.envelopes →
            Uses (here c w q.worker q.node) q.run y number ns (release_step (reached (here c w q.worker q.node) (TheWorker y.owner) (At y number ns None))) → IsSo ns
        by_use q ns entries envelopes (IsAnswered d got) = inl (d, subst (λ f. Among (Got f y d) step.entries) q.present (subst (λ es. Among (Got q.run.attempt y d) es) (sym entries) got))
        by_use q ns entries envelopes (IsFetched n named fetched) = inr (inl (n, named, subst (λ ls. Among (envelope (TheWorker w) (TheNode n) (Fetch y number)) ls) (sym envelopes) fetched))
        by_use q ns entries envelopes (IsMissed named missed) =
            inr (inr (
              q.worker.node,
              locations s r.log c b w q.worker q.there,
              named,
              subst (λ ls. Among (envelope (TheWorker w) (TheWorker y.owner) (Missing y number q.worker.node)) ls) (sym envelopes) missed,
            ))

        by_nodes : (q : IsWaiting w a y) (ns : List ℕ) → is_empty ns ≡ false → step.entries ≡ (release_step (reached (here c w q.worker q.node) (TheWorker y.owner) (At y number ns None))).there.out.entries →
            step.envelopes ≡ (release_step (reached (here c w q.worker q.node) (TheWorker y.owner) (At y number ns None))).there.out.envelopes → IsSo ns
        by_nodes q [] some entries envelopes = absurd (cc)
        by_nodes q (n ∷ ns) some entries envelopes =
            by_use q (n ∷ ns) entries envelopes
            (at_is_used (here c w q.worker q.node) y.owner y number n ns q.run (foreign_to y w other) q.at q.needs (no_dead_nodes s r.log c b calm w q.worker q.there))

        by_content : (q : IsWaiting w a y) (r' : Option Outcome) → (is_empty nodes && is_none r') ≡ false →
            step.entries ≡ (release_step (reached (here c w q.worker q.node) (TheWorker y.owner) (At y number nodes r'))).there.out.entries →
            step.envelopes ≡ (release_step (reached (here c w q.worker q.node) (TheWorker y.owner) (At y number nodes r'))).there.out.envelopes → IsSo nodes
        by_content q None some entries envelopes = by_nodes q nodes (not_both (is_empty nodes) some) entries envelopes
          where
            not_both : (t : Bool) → (t && true) ≡ false → t ≡ false
            not_both true f = f
            not_both false f = f
        by_content q (Some d) some entries envelopes =
            let got = at_is_got (here c w q.worker q.node) y.owner y number nodes d q.run (foreign_to y w other) q.at q.needs in
            inl (d, subst (λ f. Among (Got f y d) step.entries) q.present (subst (λ es. Among (Got q.run.attempt y d) es) (sym entries) got))

    own_now : (m n : ℕ) → m ≡ n → (n == m) ≡ true
    own_now m n f = grind (arith, nat_tests)

    pub hold_owed : HoldIsAcknowledged hap
    hold_owed w d o (i, is, sent) =
        let l : Envelope = envelope (TheWorker w) (TheWorker o.owner) (Hold d o) in
        let right : IsRightEnvelope r.log l = k.replies.envelopes l (among_at c.network i l sent) in
        let x = owner_there s r.log c b calm o (entry_born r.log o right.1) in
        let n = k.step.leases.homes o.owner x.0 x.1 in
        let z = owner_has s r.log c b o (entry_born r.log o right.1) x.0 x.1 x.2 (born_serial (setting_of s c) r.log b.legal o right.1) in
        let h : WorkerContext = here c o.owner x.0 n.0 in
        let out = delivered_out c i handed step (TheWorker w) o.owner (Hold d o) x.0 n.0 sent x.1 x.2 n.1 (as_delivery i is) in
        let at : object_at h o ≡ Some z.0 = ap (λ t. if t then item_at x.0.objects o.serial else None) (own_now o.owner o.owner refl) ∙ z.1 in
        subst (λ ls. Among (envelope (TheWorker o.owner) (TheWorker w) (HoldAck d o)) ls) (sym out.1) (hold_is_acknowledged h w d o z.0 at)
