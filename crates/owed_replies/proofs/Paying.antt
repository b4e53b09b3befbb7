-- A worker's step keeps what is true of messages and attempts.
use Rattle.std.proofs.Common.{◌≡◌, ℕ, zero, suc, List, [], ◌∷◌, ◌++◌, Some, None, Option, refl, ap, sym, subst, ◌∙◌, inl, inr, append_assoc}
use Rattle.std.specs.Prelude.{map, Bool, true, false, if◌then◌else◌, not, ◌==◌, ◌&&◌}
use Rattle.std.specs.List.{filter}
use Rattle.std.proofs.lemmas.Bool.{both_ways, not-true}
use Rattle.sequence.proofs.Places.{and_left, and_right}
use Rattle.meaning.proofs.BirthLaws.{at_test}
use Rattle.meaning.specs.Readings.{IsBorn}
use Rattle.meaning.specs.Values.{Id, Outcome}
use Rattle.event_log.specs.Breaks.{Among}
use Rattle.event_log.specs.Entries.{Accepted, Attempt, Ended, Entry, Fault, Faulted, Got, Opened, main_attempt}
use Rattle.event_log.specs.Words.{births, same_attempt}
use Rattle.protocol.specs.Messages.{Envelope, envelope, Message, Endpoint, TheWorker, TheNode, Ask, Give, Elsewhere, Wait, Back, Push, Finished, FinishedAck, Failed}
use Rattle.protocol.specs.Messages.{Where, At, Gone, Fetch, CopyOf, Missing, Hold, HoldAck, Unhold}
use Rattle.protocol.specs.Nodes.{NodeContext}
use Rattle.protocol.specs.Sets.{is_empty}
use Rattle.protocol.specs.Tables.{Fetching, HasEnded, HasFaulted, Holding, Object, Out, Phase, Ready, Execution, Waits, Worker, has_stopped, knows_dead}
use Rattle.protocol.specs.Tables.{object_needed, owner_of}
use Rattle.protocol.specs.Steps.{WorkerContext, is_own, logs, logs_all, says, says_to_node, with_phase, with_run, with_worker}
use Rattle.protocol.specs.Runs.{ended_result, asks_for_slot, gives_slot_back, is_heard, leaves, leaves_by, leaves_if_free, tells, tells_stop, with_answer}
use Rattle.protocol_owed.proofs.Envelopes.{among-more, among-last, among-push_cases, among-append_cases}
use Rattle.protocol_owed.proofs.NodeMoves.{IsKeptThere, frees-kept, asks_slot-kept}
use Rattle.smallest_steps.proofs.Untouched.{tells_stop-worker}
use Rattle.smallest_steps.specs.Steps.{Needs}
use Rattle.owed_replies.specs.Kept.{IsBornIn, IsOverInTime, IsReported, IsRightEnvelope, RunIsRight}
use Rattle.owed_replies.proofs.Objects.{Grows, then_grows}
use Rattle.owed_replies.proofs.Moves.{Awaits, IsKept, IsSaid, IsUnheard, is_mute, is_quiet}

quiet_each : (es : List Entry) (x : Entry) → is_quiet es ≡ true → Among x es → is_mute x ≡ true
quiet_each [] x q (k, e) = absurd (cc)
quiet_each (y ∷ es) x q (zero, e) = subst (λ z. is_mute z ≡ true) (same e) (and_left (is_mute y) (is_quiet es) q)
  where
    same : ◌≡◌ {A = Option Entry} (Some y) (Some x) → y ≡ x
    same f = cc
quiet_each (y ∷ es) x q (suc k, e) = quiet_each es x (and_right (is_mute y) (is_quiet es) q) (k, e)

quiet_none : (es : List Entry) (a : Attempt) → is_quiet es ≡ true → Among (Accepted a) es → ⊥
quiet_none es a q i = let f : false ≡ true = quiet_each es (Accepted a) q i in cc

quiet_endless : (es : List Entry) (a : Attempt) (c : List Outcome) → is_quiet es ≡ true → Among (Ended a c) es → ⊥
quiet_endless es a c q i = let f : false ≡ true = quiet_each es (Ended a c) q i in cc

-- what is filtered was there
pub kept_among : (test : Holding → Bool) (ks : List Holding) (k : Holding) → Among k (filter test ks) → Among k ks
kept_among test [] k (i, e) = absurd (cc)
kept_among test (j ∷ ks) k a =
    at_test (λ b. Among k (if b then j ∷ filter test ks else filter test ks) → Among k (j ∷ ks)) (test j)
    (λ _ f. first (λ g. kept_among test ks k g) f) (λ _ f. let g = kept_among test ks k f in (suc g.0, g.1)) a
  where
    first : (Among k (filter test ks) → Among k ks) → Among k (j ∷ filter test ks) → Among k (j ∷ ks)
    first below (zero, e) = (zero, e)
    first below (suc i, e) = let g = below (i, e) in (suc g.0, g.1)

module _ (log : List Entry) (net : List Envelope) (me : ℕ) (old : List Object) (ok fin : Attempt → Type 0) where
  abbrev pub sent_here : NodeContext → List Envelope
  sent_here t = net ++ t.out.envelopes

  -- of what the event sent and logged so far
  pub record OutIsRight (t : NodeContext) : Type 0 where
    pub envelopes : (l : Envelope) → Among l t.out.envelopes → IsRightEnvelope log l
    pub quiet : (a : Attempt) → Among (Accepted a) t.out.entries → ok a
    pub ended : (a : Attempt) (c : List Outcome) → Among (Ended a c) t.out.entries → fin a

  -- but for the end of an attempt, which is told a little later
  pub record Does (h : WorkerContext) : Type 0 where
    pub who : h.me ≡ me
    pub objects : Grows old h.worker.objects
    pub run : (run : Execution) → h.worker.run ≡ Some run → RunIsRight log (sent_here h.there) me run
    pub out : OutIsRight h.there

  pub record Pays (h : WorkerContext) : Type 0 where
    pub does : Does h
    pub in_time : (run : Execution) → h.worker.run ≡ Some run → IsOverInTime run

  -- ---- what is sent besides

  more_sent : (ls : List Envelope) (l : Envelope) (w : ℕ) (a : Attempt) → IsReported (net ++ ls) w a → IsReported (net ++ (ls ++ l ∷ [])) w a
  more_sent ls l w a (n, rs, i) = (n, rs, subst (Among (envelope (TheWorker w) (TheWorker a.object.owner) (Finished a n rs))) (append_assoc net ls (l ∷ [])) (among-more (net ++ ls) (l ∷ []) _ i))

  run_more : (ls : List Envelope) (l : Envelope) (run : Execution) → RunIsRight log (net ++ ls) me run → RunIsRight log (net ++ (ls ++ l ∷ [])) me run
  run_more ls l run r = record { needs = r.needs; holds = r.holds; told = λ c e o m. more_sent ls l me run.attempt (r.told c e o m); main = r.main }

  posts_right : (t : NodeContext) (l : Envelope) → IsRightEnvelope log l → (ls : List Envelope) → ((m : Envelope) → Among m ls → IsRightEnvelope log m) →
      (m : Envelope) → Among m (ls ++ l ∷ []) → IsRightEnvelope log m
  posts_right t l right ls all m i = elim (among-push_cases ls l m i) [ inl f ↦ all m f | inr e ↦ subst (IsRightEnvelope log) (sym e) right ]

  -- what the worker says
  pub said : (h : WorkerContext) (to : Endpoint) (m : Message) → IsRightEnvelope log (envelope (TheWorker h.me) to m) → Does h → Does (record h { there = record h.there { out = record h.there.out { envelopes = h.there.out.envelopes ++ envelope (TheWorker h.me) to m ∷ [] } } })
  said h to m right d = record {
    who = d.who;
    objects = d.objects;
    run = λ r e. run_more h.there.out.envelopes (envelope (TheWorker h.me) to m) r (d.run r e);
    out = record { envelopes = λ l i. posts_right h.there _ right h.there.out.envelopes d.out.envelopes l i; quiet = d.out.quiet; ended = d.out.ended };
  }

  -- ---- what the worker's node does beside

  record Beside (ls : List Envelope) (t : NodeContext) : Type 0 where
    out : OutIsRight t
    more : (w : ℕ) (a : Attempt) → IsReported (net ++ ls) w a → IsReported (sent_here t) w a

  beside_kept : (ls : List Envelope) → IsKeptThere (Beside ls)
  beside_kept ls = record {
    opens = λ t w b. record {
      out = record { envelopes = b.out.envelopes; quiet = λ a i. elim (among-push_cases t.out.entries _ _ i) [ inl f ↦ b.out.quiet a f | inr e ↦ absurd (not_opened a w t.number e) ]; ended = λ a c i. elim (among-push_cases t.out.entries _ _ i) [ inl f ↦ b.out.ended a c f | inr e ↦ absurd (no_end a c w t.number e) ] };
      more = b.more;
    };
    says = λ t w m b. record {
      out = record { envelopes = λ l i. posts_right t (envelope (TheNode t.number) (TheWorker w) m) tt t.out.envelopes b.out.envelopes l i; quiet = b.out.quiet; ended = b.out.ended };
      more = λ v a r. more_sent t.out.envelopes _ v a (b.more v a r);
    };
    scheduler = λ t s b. record { out = record { envelopes = b.out.envelopes; quiet = b.out.quiet; ended = b.out.ended }; more = b.more };
    store = λ t s b. record { out = record { envelopes = b.out.envelopes; quiet = b.out.quiet; ended = b.out.ended }; more = b.more };
  }
    where
      not_opened : (a : Attempt) (w n : ℕ) → Accepted a ≡ Opened w n → ⊥
      not_opened a w n e = absurd (cc)

      no_end : (a : Attempt) (c : List Outcome) (w n : ℕ) → Ended a c ≡ Opened w n → ⊥
      no_end a c w n e = absurd (cc)

  run_beside : (ls : List Envelope) (t : NodeContext) (run : Execution) → Beside ls t → RunIsRight log (net ++ ls) me run → RunIsRight log (sent_here t) me run
  run_beside ls t run b r = record { needs = r.needs; holds = r.holds; told = λ c e o m. b.more me run.attempt (r.told c e o m); main = r.main }

  begins_beside : (t : NodeContext) → OutIsRight t → Beside t.out.envelopes t
  begins_beside t o = record { out = o; more = λ w a r. r }

  with_there_does : (h : WorkerContext) (t : NodeContext) → Beside h.there.out.envelopes t → Does h → Does (record h { there = t })
  with_there_does h t b d = record { who = d.who; objects = d.objects; run = λ r e. run_beside h.there.out.envelopes t r b (d.run r e); out = b.out }

  pub frees_does : (h : WorkerContext) → Does h → Does (gives_slot_back h)
  frees_does h d = with_there_does h _ (frees-kept (Beside h.there.out.envelopes) (beside_kept h.there.out.envelopes) h.there h.me (begins_beside h.there d.out)) d

  pub asks_does : (h : WorkerContext) → Does h → Does (asks_for_slot h)
  asks_does h d = with_there_does h _ (asks_slot-kept (Beside h.there.out.envelopes) (beside_kept h.there.out.envelopes) h.there h.me (begins_beside h.there d.out)) d

  -- ---- the smallest steps, but for the end

  pub writes_does : (h : WorkerContext) (es : List Entry) → is_quiet es ≡ true → Does h → Does (logs_all h es)
  writes_does h es q d = record {
    who = d.who;
    objects = d.objects;
    run = d.run;
    out = record { envelopes = d.out.envelopes; quiet = λ a i. elim (among-append_cases h.there.out.entries es _ i) [ inl f ↦ d.out.quiet a f | inr f ↦ absurd (quiet_none es a q f) ]; ended = λ a c i. elim (among-append_cases h.there.out.entries es _ i) [ inl f ↦ d.out.ended a c f | inr f ↦ absurd (quiet_endless es a c q f) ] };
  }

  pub objects_does : (h : WorkerContext) (ys : List Object) → Grows h.worker.objects ys → Does h → Does (with_worker h (record h.worker { objects = ys }))
  objects_does h ys g d = record { who = d.who; objects = then_grows old h.worker.objects ys d.objects g; run = d.run; out = d.out }

  -- another state of the attempt
  pub run_does : (h : WorkerContext) (next : Execution) → RunIsRight log (sent_here h.there) me next → Does h → Does (with_run h next)
  run_does h next right d = record { who = d.who; objects = d.objects; run = λ r e. subst (RunIsRight log (sent_here h.there) me) (same r e) right; out = d.out }
    where
      same : (r : Execution) → Some next ≡ Some r → next ≡ r
      same r e = cc

  waits_born : (h : WorkerContext) (y : Id) → is_own h y ≡ false → Needs h y → Does h → IsBorn (births log) y
  waits_born h y foreign w d = (d.run w.run w.at).needs y (ap object_needed w.waits) (subst (λ v. (y.owner == v) ≡ false) d.who foreign)

  holds_born : (h : WorkerContext) (k : Holding) → Awaits h k → Does h → IsBornIn log k.object
  holds_born h k w d = (d.run w.run w.at).holds k w.listed

  not_main : (h : WorkerContext) (a : Attempt) → IsUnheard h a → Does h → same_attempt a main_attempt ≡ false
  not_main h a u d =
      subst (λ b. same_attempt b main_attempt ≡ false) u.same
      (at_test (λ b. same_attempt u.run.attempt main_attempt ≡ b → b ≡ false) (same_attempt u.run.attempt main_attempt)
      (λ _ e. let f = (d.run u.run u.at).main e u.over in let g = u.unheard in absurd (cc)) (λ _ _. refl) refl)

  pub says_does : (h : WorkerContext) (w : ℕ) (m : Message) → IsSaid (Unit {0}) (Unit {0}) h w m → Does h → Does (says h w m)
  says_does h w (Where y) s d = said h (TheWorker w) (Where y) (s.0, s.1, waits_born h y s.1 s.2 d) d
  says_does h w (Missing y number n) s d = said h (TheWorker w) (Missing y number n) s d
  says_does h w (Hold e o) s d = said h (TheWorker w) (Hold e o) (s.0, holds_born h _ s.1 d) d
  says_does h w (Finished a n rs) s d = said h (TheWorker w) (Finished a n rs) (s.0, not_main h a s.1 d) d
  says_does h w (At y number ns content) s d = said h (TheWorker w) (At y number ns content) s d
  says_does h w (Ask a t) s d = said h (TheWorker w) (Ask a t) tt d
  says_does h w (Give a t v) s d = said h (TheWorker w) (Give a t v) tt d
  says_does h w (Elsewhere a t n) s d = said h (TheWorker w) (Elsewhere a t n) tt d
  says_does h w (Wait a t) s d = said h (TheWorker w) (Wait a t) tt d
  says_does h w (Back a) s d = said h (TheWorker w) (Back a) tt d
  says_does h w (Push a spec) s d = said h (TheWorker w) (Push a spec) tt d
  says_does h w (FinishedAck a) s d = said h (TheWorker w) (FinishedAck a) tt d
  says_does h w (Failed a f) s d = said h (TheWorker w) (Failed a f) tt d
  says_does h w (Gone y f) s d = said h (TheWorker w) (Gone y f) tt d
  says_does h w (Fetch y number) s d = said h (TheWorker w) (Fetch y number) tt d
  says_does h w (CopyOf y number c) s d = said h (TheWorker w) (CopyOf y number c) tt d
  says_does h w (HoldAck e o) s d = said h (TheWorker w) (HoldAck e o) tt d
  says_does h w (Unhold e o why) s d = said h (TheWorker w) (Unhold e o why) tt d

  pub says_to_node_does : (h : WorkerContext) (n : ℕ) (m : Message) → Does h → Does (says_to_node h n m)
  says_to_node_does h n m d = said h (TheNode n) m tt d

  -- ---- the end of an attempt

  ended_not : (run : Execution) (f : Fault) (cs : List Outcome) → run.phase ≡ HasFaulted f → run.phase ≡ HasEnded cs → ⊥
  ended_not run f cs e g = let i : ◌≡◌ {A = Phase} (HasFaulted f) (HasEnded cs) = sym e ∙ g in absurd (cc)

  -- told of a stop that is over; main's is not told
  tells_does : (h : WorkerContext) (run : Execution) → run.is_over ≡ true → same_attempt run.attempt main_attempt ≡ false → RunIsRight log (sent_here h.there) me (record run { is_over = false }) →
      Does h → Does (tells h run)
  tells_does h run over other right d = by_phase run.phase refl
    where
      other_phase : {p : Phase} (cs : List Outcome) → run.phase ≡ p → run.phase ≡ HasEnded cs → (p ≡ HasEnded cs → ⊥) → ⊥
      other_phase cs e g apart = apart (sym e ∙ g)

      still : ((cs : List Outcome) → run.phase ≡ HasEnded cs → ⊥) → RunIsRight log (sent_here h.there) me run
      still apart = record { needs = right.needs; holds = right.holds; told = λ c e _ _. absurd (apart c e); main = λ m. absurd (both_ways _ other m) }

      by_phase : (p : Phase) → run.phase ≡ p → Does (tells_stop (with_run h run) run p)
      by_phase (HasEnded cs) e =
          let l : Envelope = envelope (TheWorker h.me) (TheWorker (owner_of run)) (Finished run.attempt h.worker.node (map ended_result cs)) in
          record {
            who = d.who;
            objects = d.objects;
            run = λ r f. let same : run ≡ r = cc in subst (RunIsRight log (net ++ (h.there.out.envelopes ++ l ∷ [])) me) same (record {
              needs = right.needs;
              holds = right.holds;
              told = λ _ _ _ _. (
                h.worker.node,
                map ended_result cs,
                subst (Among (envelope (TheWorker me) (TheWorker run.attempt.object.owner) (Finished run.attempt h.worker.node (map ended_result cs))))
                    (append_assoc net h.there.out.envelopes (l ∷ []))
                    (subst (λ v. Among (envelope (TheWorker v) (TheWorker run.attempt.object.owner) (Finished run.attempt h.worker.node (map ended_result cs))) ((net ++ h.there.out.envelopes) ++ l ∷ [])) d.who
                    (among-last (net ++ h.there.out.envelopes) l)),
              );
              main = λ m. absurd (both_ways _ other m);
            });
            out = record { envelopes = λ m i. posts_right h.there l (refl, other) h.there.out.envelopes d.out.envelopes m i; quiet = d.out.quiet; ended = d.out.ended };
          }
      by_phase (HasFaulted f) e = said (with_run h run) (TheWorker (owner_of run)) (Failed run.attempt f) tt (run_does h run (still (λ c g. ended_not run f c e g)) d)
      by_phase Ready e = run_does h run (still (λ c g. other_phase c e g (λ i. absurd (cc)))) d
      by_phase (Out j) e = run_does h run (still (λ c g. other_phase c e g (λ i. absurd (cc)))) d
      by_phase (Waits y f) e = run_does h run (still (λ c g. other_phase c e g (λ i. absurd (cc)))) d

  leaves_does : (h : WorkerContext) (run : Execution) → h.worker.run ≡ Some run → run.is_over ≡ false → Does h → Pays (leaves h (record run { is_over = true }))
  leaves_does h run e going d =
      let over : Execution = record run { is_over = true } in
      let right : RunIsRight log (sent_here h.there) me run = d.run run e in
      let before : RunIsRight log (sent_here h.there) me (record over { is_over = false }) = record {
        needs = right.needs;
        holds = right.holds;
        told = λ c _ f _. absurd (cc);
        main = λ _ f. absurd (cc);
      } in
      at_test (λ b. same_attempt run.attempt main_attempt ≡ b → Pays (if b then with_run h (record over { is_acknowledged = true }) else
      if knows_dead h.worker (owner_of over) then is_heard (tells h over) over else tells h over))
      (same_attempt run.attempt main_attempt)
      (λ _ m. record {
        does = run_does h (record over { is_acknowledged = true })
            (record { needs = right.needs; holds = right.holds; told = λ c _ _ other. absurd (both_ways _ other m); main = λ _ _. refl }) d;
        in_time = λ r f _ going _. not_open (record over { is_acknowledged = true }) r f refl going;
      })
      (λ _ other.
      let told : Does (tells h over) = tells_does h over refl other before d in
      let there : (tells h over).worker.run ≡ Some over = ap (λ (x : Worker). x.run) (tells_stop-worker (with_run h over) over over.phase) in
      at_test (λ b. Pays (if b then is_heard (tells h over) over else tells h over)) (knows_dead h.worker (owner_of over))
      (λ _. record {
        does = says_to_node_does (with_run (tells h over) (record over { is_acknowledged = true })) (tells h over).worker.node (Back over.attempt)
            (run_does (tells h over) (record over { is_acknowledged = true })
            (let now : RunIsRight log (sent_here (tells h over).there) me over = told.run over there in
            record { needs = now.needs; holds = now.holds; told = now.told; main = λ _ _. refl }) told);
        in_time = λ r f _ going _. not_open (record over { is_acknowledged = true }) r f refl going;
      })
      (λ _. record { does = told; in_time = λ r f _ going _. not_open over r (sym there ∙ f) refl going })) refl
    where
      not_open : (x r : Execution) → Some x ≡ Some r → x.is_over ≡ true → r.is_over ≡ false → ⊥
      not_open x r e f g = let same : x ≡ r = cc in both_ways x.is_over (subst (λ (y : Execution). y.is_over ≡ false) (sym same) g) f

  pub leaves_pays : (h : WorkerContext) → Does h → Pays (leaves_if_free h)
  leaves_pays h d = by_run h.worker.run refl
    where
      by_run : (r : Option Execution) → h.worker.run ≡ r → Pays (leaves_by h r)
      by_run None e = record { does = d; in_time = λ run f. nobody run (sym e ∙ f) }
        where
          nobody : (run : Execution) → None ≡ Some run → IsOverInTime run
          nobody run f = absurd (cc)
      by_run (Some run) e =
          at_test (λ b. (has_stopped run.phase && not run.is_over && is_empty run.holds) ≡ b → Pays (if b then leaves h (record run { is_over = true }) else h))
          (has_stopped run.phase && not run.is_over && is_empty run.holds)
          (λ _ t. leaves_does h run e
          (not-true run.is_over (and_right (has_stopped run.phase) (not run.is_over) (and_left (has_stopped run.phase && not run.is_over) (is_empty run.holds) t))) d)
          (λ _ t. record { does = d; in_time = λ r f stopped going none. let same : run ≡ r = by_same r f in missed r (subst (λ (y : Execution). (has_stopped y.phase && not y.is_over && is_empty y.holds) ≡ false) same t) stopped going none }) refl
        where
          by_same : (r : Execution) → h.worker.run ≡ Some r → run ≡ r
          by_same r f = let g : Some run ≡ Some r = sym e ∙ f in cc

          missed : (r : Execution) → (has_stopped r.phase && not r.is_over && is_empty r.holds) ≡ false → has_stopped r.phase ≡ true → r.is_over ≡ false → r.holds ≡ [] → ⊥
          missed r t stopped going none =
              let all : (has_stopped r.phase && not r.is_over && is_empty r.holds) ≡ true =
              ap (λ b. b && not r.is_over && is_empty r.holds) stopped ∙ ap (λ b. true && not b && is_empty r.holds) going ∙ ap (λ ks. true && not false && is_empty ks) none in
              both_ways _ t all

  -- ---- all the smallest steps

  with_does : (h g : WorkerContext) → g.worker.run ≡ h.worker.run → Pays h → Does g → Pays g
  with_does h g same p d = record { does = d; in_time = λ r e. p.in_time r (sym same ∙ e) }

  one_run : (h : WorkerContext) (next : Execution) → IsOverInTime next → Does (with_run h next) → Pays (with_run h next)
  one_run h next i d = record { does = d; in_time = λ r e. subst IsOverInTime (same r e) i }
    where
      same : (r : Execution) → Some next ≡ Some r → next ≡ r
      same r e = cc

  gives_back-run : (h : WorkerContext) → (gives_slot_back h).worker.run ≡ h.worker.run
  gives_back-run h = refl

  waits_open : (run : Execution) (y : Id) (f : Option Fetching) → run.phase ≡ Waits y f → IsOverInTime run
  waits_open run y f e s = let g : has_stopped (Waits y f) ≡ true = ap has_stopped (sym e) ∙ s in absurd (cc)

  pub pays_kept : IsKept Pays
  pays_kept = record {
    writes = λ h es q p. with_does h _ refl p (writes_does h es q p.does);
    says = λ h w m s p. with_does h _ refl p (says_does h w m s p.does);
    says_to_node = λ h n m p. with_does h _ refl p (says_to_node_does h n m p.does);
    objects = λ h ys g p. with_does h _ refl p (objects_does h ys g p.does);
    passes = λ h ks p. record { does = record { who = p.does.who; objects = p.does.objects; run = p.does.run; out = p.does.out }; in_time = p.in_time };
    deaths = λ h vs ns p. record { does = record { who = p.does.who; objects = p.does.objects; run = p.does.run; out = p.does.out }; in_time = p.in_time };
    store = λ h s p. record { does = record { who = p.does.who; objects = p.does.objects; run = p.does.run; out = record { envelopes = p.does.out.envelopes; quiet = p.does.out.quiet; ended = p.does.out.ended } }; in_time = p.in_time };
    frees = λ h p. with_does h _ refl p (frees_does h p.does);
    fetches = λ h run y f g e q p.
        let r = p.does.run run e in
        one_run h (record run { phase = Waits y g }) (λ s. absurd (cc)) (run_does h (record run { phase = Waits y g }) (record {
          needs = λ z i. r.needs z (ap object_needed q ∙ i);
          holds = r.holds;
          told = λ c i. absurd (cc);
          main = r.main;
        }) p.does);
    heard = λ h run e p.
        let r = p.does.run run e in
        one_run h (record run { is_acknowledged = true }) (p.in_time run e) (run_does h (record run { is_acknowledged = true }) (record {
          needs = r.needs;
          holds = r.holds;
          told = r.told;
          main = λ _ _. refl;
        }) p.does);
    gets = λ h run c y f e q p.
        let r = p.does.run run e in
        let next : Execution = with_answer run c in
        let g : WorkerContext = with_run h next in
        let d : Does g = run_does h next (record { needs = λ z i. absurd (cc); holds = r.holds; told = λ b i. absurd (cc); main = r.main }) p.does in
        record {
          does = asks_does (logs g (Got run.attempt y c)) (writes_does g (Got run.attempt y c ∷ []) refl d);
          in_time = λ s i. subst IsOverInTime (same_run next s i) (λ t. absurd (cc));
        };
    faults = λ h run f y g e q p.
        let r = p.does.run run e in
        let next : Execution = record run { phase = HasFaulted f } in
        leaves_pays (gives_slot_back (logs (with_phase h run (HasFaulted f)) (Faulted run.attempt y f)))
        (frees_does (logs (with_phase h run (HasFaulted f)) (Faulted run.attempt y f)) (writes_does (with_run h next) (Faulted run.attempt y f ∷ []) refl
        (run_does h next (record { needs = λ z i. absurd (cc); holds = r.holds; told = λ c i. absurd (cc); main = r.main }) p.does)));
    acknowledged = λ h run test e p.
        let r = p.does.run run e in
        let next : Execution = record run { holds = filter test run.holds } in
        leaves_pays (with_run h next)
        (run_does h next (record { needs = r.needs; holds = λ k i. r.holds k (kept_among test run.holds k i); told = r.told; main = r.main }) p.does);
  }
    where
      same_run : (x s : Execution) → Some x ≡ Some s → x ≡ s
      same_run x s e = cc
