-- A worker's step keeps what is true of the Holds of its attempt: each that waits was sent behind the attempt's Push, and no acknowledgement that
-- was delivered is younger than that.
use Rattle.meaning.specs.Births.{birth_at, is_made_by}
use Rattle.event_log.specs.Words.{births, same_attempt}
use Rattle.event_log.proofs.Extending.{births-more}
use Rattle.std.proofs.Common.{[], ap, append_assoc, arith, inl, inr, length, length-append, List, None, Option, refl, Some, subst, suc, sym, zero, ℕ, ◌++◌, ◌+◌}
use Rattle.std.proofs.Common.{◌<◌, ◌∙◌, ◌∷◌, ◌≡◌, ◌≤◌, ◌⊎◌}
use Rattle.std.specs.Prelude.{Bool, true, false, if◌then◌else◌, not, ◌&&◌, slice_get}
use Rattle.std.specs.List.{filter}
use Rattle.std.proofs.lemmas.Bool.{both_ways}
use Rattle.sequence.proofs.Places.{and_right}
use Rattle.meaning.proofs.BirthLaws.{at_test}
use Rattle.meaning.specs.Values.{Birth, Id, Outcome}
use Rattle.event_log.specs.Breaks.{Among}
use Rattle.event_log.specs.Entries.{Attempt, Born, Deliver, Ended, Entry, Event, Faulted, Got, main_attempt}
use Rattle.protocol.specs.Messages.{Ask, At, Back, CopyOf, Elsewhere, Failed, Fetch, Finished, FinishedAck, Give, Gone, Hold, HoldAck, Envelope, envelope, Message}
use Rattle.protocol.specs.Messages.{Missing, Endpoint, Push, TheNode, TheWorker, Unhold, Wait, Where}
use Rattle.protocol.specs.Nodes.{NodeContext}
use Rattle.protocol.specs.Numbered.{item_at}
use Rattle.protocol.specs.Runs.{asks_for_slot, gives_slot_back, is_heard, leaves, leaves_by, leaves_if_free, tells, tells_stop, with_answer}
use Rattle.protocol.specs.Sets.{is_empty}
use Rattle.protocol.specs.Steps.{WorkerContext, logs, says, says_to_node, with_phase, with_run, with_there}
use Rattle.protocol.specs.Tables.{HasEnded, HasFaulted, Holding, Out, Phase, Ready, Execution, Waits, Worker, has_stopped, knows_dead, owner_of}
use Rattle.protocol_owed.proofs.Envelopes.{among-append_cases, among-push_cases}
use Rattle.protocol_owed.proofs.NodeMoves.{IsKeptThere, asks_slot-kept, frees-kept}
use Rattle.protocol_owed.proofs.Nodes.{there_more}
use Rattle.smallest_steps.proofs.Untouched.{tells_stop-worker}
use Rattle.owed_replies.proofs.Moves.{IsKept, IsSaid}
use Rattle.owed_replies.proofs.Paying.{kept_among}

-- ---- numbered envelopes

-- an item of two lists is of the first, or stands behind that
pub item_cases : {X : Type 0} (xs ys : List X) (n : ℕ) (x : X) → item_at (xs ++ ys) n ≡ Some x → (item_at xs n ≡ Some x) ⊎ ((length xs < n) × Among x ys)
item_cases xs ys zero x e = absurd (cc)
item_cases {X} xs ys (suc i) x e = elim (by_place xs i e) [ inl f ↦ inl f | inr f ↦ let g = f.0 in inr (omega (arith, g), f.1) ]
  where
    by_place : (zs : List X) (j : ℕ) → slice_get (zs ++ ys) j ≡ Some x → (slice_get zs j ≡ Some x) ⊎ ((length zs ≤ j) × Among x ys)
    by_place [] j f = inr (omega arith, (j, f))
    by_place (z ∷ zs) zero f = inl f
    by_place (z ∷ zs) (suc j) f = elim (by_place zs j f) [ inl g ↦ inl g | inr g ↦ let h = g.0 in inr (omega (arith, h), g.1) ]

-- an item has no greater number than there are
pub item_within : {X : Type 0} (xs : List X) (n : ℕ) (x : X) → item_at xs n ≡ Some x → n < length xs + 1
item_within xs zero x e = absurd (cc)
item_within {X} xs (suc i) x e = let f = by_place xs i e in omega (arith, f)
  where
    by_place : (zs : List X) (j : ℕ) → slice_get zs j ≡ Some x → j < length zs
    by_place [] j f = absurd (cc)
    by_place (z ∷ zs) zero f = omega arith
    by_place (z ∷ zs) (suc j) f = let g = by_place zs j f in omega (arith, g)

-- the last
pub item_last : {X : Type 0} (xs : List X) (x : X) → item_at (xs ++ x ∷ []) (length xs + 1) ≡ Some x
item_last {X} xs x = let f : ◌≡◌ {A = ℕ} (length xs + 1) (suc (length xs)) = omega arith in ap (item_at (xs ++ x ∷ [])) f ∙ by_place xs
  where
    by_place : (zs : List X) → slice_get (zs ++ x ∷ []) (length zs) ≡ Some x
    by_place [] = refl
    by_place (z ∷ zs) = by_place zs

abbrev pub hold_of : ℕ → Holding → Envelope
hold_of w k = envelope (TheWorker w) (TheWorker k.object.owner) (Hold k.holder k.object)

abbrev pub ack_of : ℕ → Holding → Envelope
ack_of w k = envelope (TheWorker k.object.owner) (TheWorker w) (HoldAck k.holder k.object)

-- the object is a result of the attempt's task
abbrev pub IsResultOf : List Entry → Attempt → Id → Type 0
IsResultOf log a e = (spec : Birth) × (birth_at (births log) a.object ≡ Some spec) × (is_made_by (record { object = a.object; birth = spec }) e ≡ true)

pub result_more : (log es : List Entry) (a : Attempt) (e : Id) → IsResultOf log a e → IsResultOf (log ++ es) a e
result_more log es a e (spec, born, made) = (spec, births-more log es a.object spec born, made)

-- an object of the attempt's task, once it ended, or what its worker bore from that serial on
abbrev pub IsHolder : List Entry → ℕ → Attempt → ℕ → Id → Type 0
IsHolder log w a base e = (IsResultOf log a e × ((c : List Outcome) × Among (Ended a c) log)) ⊎ ((e.owner ≡ w) × (base ≤ e.serial))

-- it is a result of the attempt's task, or of what the attempt bore
abbrev pub IsOfRun : List Entry → Attempt → Id → Type 0
IsOfRun log a e =
    IsResultOf log a e ⊎ ((o : Id) × (b : Birth) × Among (Born o a b) log × (is_made_by (record { object = o; birth = b }) e ≡ true))

-- a Hold that waits: it is the attempt's; it was sent behind that place; and what acknowledges it was delivered before it was sent, if ever
pub record IsHeld (log : List Entry) (sent : List Envelope) (acks : List Event) (w : ℕ) (a : Attempt) (p : ℕ) (k : Holding) : Type 0 where
  pub entry : IsOfRun log a k.holder
  pub sends : (i : ℕ) × (p < i) × (item_at sent i ≡ Some (hold_of w k))
  pub unheard : (n i : ℕ) → Among (Deliver n) acks → item_at sent n ≡ Some (ack_of w k) → p < i → item_at sent i ≡ Some (hold_of w k) → n < i

-- the Holds of a worker's attempt
pub record RunHolds (log : List Entry) (sent : List Envelope) (acks : List Event) (w p : ℕ) (run : Execution) : Type 0 where
  pub over : run.is_over ≡ true → run.holds ≡ []
  pub each : (k : Holding) → Among k run.holds → IsHolder log w run.attempt run.base.serial k.holder
  pub held : same_attempt run.attempt main_attempt ≡ false → (k : Holding) → Among k run.holds → IsHeld log sent acks w run.attempt p k

pub held_more : (log : List Entry) (sent ls : List Envelope) (acks : List Event) (w : ℕ) (a : Attempt) (p : ℕ) (k : Holding) →
    ((n : ℕ) → Among (Deliver n) acks → n < length sent + 1) → IsHeld log sent acks w a p k → IsHeld log (sent ++ ls) acks w a p k
held_more log sent ls acks w a p k known h = record {
  entry = h.entry;
  sends = (h.sends.0, h.sends.1, there_more sent ls h.sends.0 (hold_of w k) h.sends.2);
  unheard = λ n i came ack behind hold. elim (item_cases sent ls n (ack_of w k) ack) [
    | inl old ↦ elim (item_cases sent ls i (hold_of w k) hold) [
      | inl was ↦ h.unheard n i came old behind was
      | inr new ↦ let below = known n came in let above = new.0 in omega (arith, below, above)
    ]
    | inr new ↦ let below = known n came in let above = new.0 in absurd (omega (arith, below, above))
  ];
}

pub run_more : (log : List Entry) (sent ls : List Envelope) (acks : List Event) (w p : ℕ) (run : Execution) → ((n : ℕ) → Among (Deliver n) acks → n < length sent + 1) →
    RunHolds log sent acks w p run → RunHolds log (sent ++ ls) acks w p run
run_more log sent ls acks w p run known r = record {
  over = r.over;
  each = r.each;
  held = λ other k i. held_more log sent ls acks w run.attempt p k known (r.held other k i);
}

-- ---- a step

abbrev pub is_hold : Message → Bool
is_hold (Hold e o) = true
is_hold _ = false

empty_list : (ks : List Holding) → is_empty ks ≡ true → ks ≡ []
empty_list [] e = refl
empty_list (k ∷ ks) e = absurd (cc)

none_filtered : (test : Holding → Bool) (ks : List Holding) → ks ≡ [] → filter test ks ≡ []
none_filtered test ks e = ap (filter test) e

module _ (log : List Entry) (net : List Envelope) (acks : List Event) (known : (n : ℕ) → Among (Deliver n) acks → n < length net + 1)
    (me p : ℕ) (began : List Attempt) (a : Attempt) (base : ℕ) (Present : Type 0) where
  abbrev pub sent_by : NodeContext → List Envelope
  sent_by t = net ++ t.out.envelopes

  known_by : (t : NodeContext) → (n : ℕ) → Among (Deliver n) acks → n < length (sent_by t) + 1
  known_by t n i = let f = known n i in let g = length-append net t.out.envelopes in omega (arith, f, g)

  -- so far
  pub record Holds (h : WorkerContext) : Type 0 where
    pub who : h.me ≡ me
    pub kept_began : h.worker.began ≡ began
    pub same : (run : Execution) → h.worker.run ≡ Some run → (run.attempt ≡ a) × (run.base.serial ≡ base) × Present
    pub run : (run : Execution) → h.worker.run ≡ Some run → RunHolds log (sent_by h.there) acks me p run
    pub said : (v : ℕ) (e o : Id) → Among (envelope (TheWorker me) (TheWorker v) (Hold e o)) h.there.out.envelopes → IsHolder log me a base e × Present

  same_run : (x y : Execution) → ◌≡◌ {A = Option Execution} (Some x) (Some y) → x ≡ y
  same_run x y e = cc

  longer : (t : NodeContext) (ls : List Envelope) (run : Execution) → RunHolds log (sent_by t) acks me p run → RunHolds log (net ++ (t.out.envelopes ++ ls)) acks me p run
  longer t ls run r = subst (λ xs. RunHolds log xs acks me p run) (append_assoc net t.out.envelopes ls) (run_more log (sent_by t) ls acks me p run (known_by t) r)

  -- an envelope that is no Hold to a worker
  posted : (h : WorkerContext) (l : Envelope) → ((v : ℕ) (e o : Id) → envelope (TheWorker me) (TheWorker v) (Hold e o) ≡ l → IsHolder log me a base e × Present) → Holds h →
      Holds (record h { there = record h.there { out = record h.there.out { envelopes = h.there.out.envelopes ++ l ∷ [] } } })
  posted h l now p = record {
    who = p.who;
    kept_began = p.kept_began;
    same = p.same;
    run = λ run e. longer h.there (l ∷ []) run (p.run run e);
    said = λ v e o i. elim (among-push_cases h.there.out.envelopes l (envelope (TheWorker me) (TheWorker v) (Hold e o)) i) [ inl old ↦ p.said v e o old | inr new ↦ now v e o new ];
  }

  -- of what was said with one more envelope
  pub said_cases : (h : WorkerContext) (l : Envelope) → ((v : ℕ) (e o : Id) → envelope (TheWorker me) (TheWorker v) (Hold e o) ≡ l → IsHolder log me a base e × Present) → Holds h →
      (v : ℕ) (e o : Id) → Among (envelope (TheWorker me) (TheWorker v) (Hold e o)) (h.there.out.envelopes ++ l ∷ []) → IsHolder log me a base e × Present
  said_cases h l now p v e o i =
      elim (among-push_cases h.there.out.envelopes l (envelope (TheWorker me) (TheWorker v) (Hold e o)) i) [ inl old ↦ p.said v e o old | inr new ↦ now v e o new ]

  other_message : (w v : ℕ) (to : Endpoint) (m : Message) (e o : Id) → is_hold m ≡ false → envelope (TheWorker me) (TheWorker v) (Hold e o) ≡ envelope (TheWorker w) to m → ⊥
  other_message w v to m e o plain same = by_message (ap (λ (l : Envelope). l.message) same)
    where
      by_message : Hold e o ≡ m → ⊥
      by_message f = both_ways (is_hold m) plain (ap is_hold (sym f))

  says_plain : (h : WorkerContext) (w : ℕ) (m : Message) → is_hold m ≡ false → Holds h → Holds (says h w m)
  says_plain h w m plain q = posted h (envelope (TheWorker h.me) (TheWorker w) m) (λ v e o same. absurd (other_message h.me v (TheWorker w) m e o plain same)) q

  pub says_to_node_holds : (h : WorkerContext) (n : ℕ) (m : Message) → Holds h → Holds (says_to_node h n m)
  says_to_node_holds h n m q = posted h (envelope (TheWorker h.me) (TheNode n) m) (λ v e o same. absurd (to_node v e o same)) q
    where
      to_node : (v : ℕ) (e o : Id) → envelope (TheWorker me) (TheWorker v) (Hold e o) ≡ envelope (TheWorker h.me) (TheNode n) m → ⊥
      to_node v e o same = let f : TheWorker v ≡ TheNode n = ap (λ (l : Envelope). l.receiver) same in absurd (cc)

  says_hold : (h : WorkerContext) (w : ℕ) (e o : Id) → IsHolder log me a base e × Present → Holds h → Holds (says h w (Hold e o))
  says_hold h w e o holder q = posted h (envelope (TheWorker h.me) (TheWorker w) (Hold e o)) (λ v f g same. (subst (IsHolder log me a base) (is_same v f g same) holder.0, holder.1)) q
    where
      is_same : (v : ℕ) (f g : Id) → envelope (TheWorker me) (TheWorker v) (Hold f g) ≡ envelope (TheWorker h.me) (TheWorker w) (Hold e o) → e ≡ f
      is_same v f g same = let i : Hold f g ≡ Hold e o = ap (λ (l : Envelope). l.message) same in cc

  says_holds : (h : WorkerContext) (w : ℕ) (m : Message) → IsSaid (Unit {0}) (Unit {0}) h w m → Holds h → Holds (says h w m)
  says_holds h w (Hold e o) s q =
      let run : Execution = s.1.run in
      let is = q.same run s.1.at in
      let holder : IsHolder log me run.attempt run.base.serial e = (q.run run s.1.at).each _ s.1.listed in
      says_hold h w e o (subst (λ n. IsHolder log me a n e) is.1 (subst (λ b. IsHolder log me b run.base.serial e) is.0 holder), is.2) q
  says_holds h w (Where y) s q = says_plain h w (Where y) refl q
  says_holds h w (Missing y number n) s q = says_plain h w (Missing y number n) refl q
  says_holds h w (Finished b n rs) s q = says_plain h w (Finished b n rs) refl q
  says_holds h w (At y number ns content) s q = says_plain h w (At y number ns content) refl q
  says_holds h w (Ask b t) s q = says_plain h w (Ask b t) refl q
  says_holds h w (Give b t v) s q = says_plain h w (Give b t v) refl q
  says_holds h w (Elsewhere b t n) s q = says_plain h w (Elsewhere b t n) refl q
  says_holds h w (Wait b t) s q = says_plain h w (Wait b t) refl q
  says_holds h w (Back b) s q = says_plain h w (Back b) refl q
  says_holds h w (Push b spec) s q = says_plain h w (Push b spec) refl q
  says_holds h w (FinishedAck b) s q = says_plain h w (FinishedAck b) refl q
  says_holds h w (Failed b f) s q = says_plain h w (Failed b f) refl q
  says_holds h w (Gone y f) s q = says_plain h w (Gone y f) refl q
  says_holds h w (Fetch y number) s q = says_plain h w (Fetch y number) refl q
  says_holds h w (CopyOf y number c) s q = says_plain h w (CopyOf y number c) refl q
  says_holds h w (HoldAck e o) s q = says_plain h w (HoldAck e o) refl q
  says_holds h w (Unhold e o why) s q = says_plain h w (Unhold e o why) refl q

  -- what the node does beside
  record Beside (before : List Envelope) (t : NodeContext) : Type 0 where
    more : List Envelope
    envelopes : t.out.envelopes ≡ before ++ more
    of_node : (l : Envelope) → Among l more → (n : ℕ) × (l.sender ≡ TheNode n)

  beside_kept : (before : List Envelope) → IsKeptThere (Beside before)
  beside_kept before = record {
    opens = λ t w b. record { more = b.more; envelopes = b.envelopes; of_node = b.of_node };
    says = λ t w m b.
        let l : Envelope = envelope (TheNode t.number) (TheWorker w) m in
        record {
          more = b.more ++ l ∷ [];
          envelopes = ap (λ ls. ls ++ l ∷ []) b.envelopes ∙ append_assoc before b.more (l ∷ []);
          of_node = λ x i. elim (among-push_cases b.more l x i) [ inl f ↦ b.of_node x f | inr f ↦ (t.number, ap (λ (y : Envelope). y.sender) f) ];
        };
    scheduler = λ t s b. record { more = b.more; envelopes = b.envelopes; of_node = b.of_node };
    store = λ t s b. record { more = b.more; envelopes = b.envelopes; of_node = b.of_node };
  }

  nothing_beside : (t : NodeContext) → Beside t.out.envelopes t
  nothing_beside t = record { more = []; envelopes = sym (nil t.out.envelopes); of_node = λ l i. absurd (none l i) }
    where
      nil : (ls : List Envelope) → ls ++ [] ≡ ls
      nil [] = refl
      nil (l ∷ ls) = ap (λ xs. l ∷ xs) (nil ls)

      none : (l : Envelope) → Among l [] → ⊥
      none l i = let e = i.1 in cc

  beside : (h : WorkerContext) (t : NodeContext) → Beside h.there.out.envelopes t → Holds h → Holds (with_there h t)
  beside h t b q = record {
    who = q.who;
    kept_began = q.kept_began;
    same = q.same;
    run = λ run e. subst (λ xs. RunHolds log (net ++ xs) acks me p run) (sym b.envelopes) (longer h.there b.more run (q.run run e));
    said = λ v e o i. elim (among-append_cases h.there.out.envelopes b.more (envelope (TheWorker me) (TheWorker v) (Hold e o)) (subst (λ xs. Among (envelope (TheWorker me)
        (TheWorker v) (Hold e o)) xs) b.envelopes i)) [
          | inl old ↦ q.said v e o old
          | inr new ↦ absurd (of_worker (b.of_node (envelope (TheWorker me) (TheWorker v) (Hold e o)) new))
        ];
  }
    where
      of_worker : ((n : ℕ) × (TheWorker me ≡ TheNode n)) → ⊥
      of_worker f = let g = f.1 in absurd (cc)

  pub frees_holds : (h : WorkerContext) → Holds h → Holds (gives_slot_back h)
  frees_holds h q = beside h _ (frees-kept (Beside h.there.out.envelopes) (beside_kept h.there.out.envelopes) h.there h.me (nothing_beside h.there)) q

  asks_holds : (h : WorkerContext) → Holds h → Holds (asks_for_slot h)
  asks_holds h q = beside h _ (asks_slot-kept (Beside h.there.out.envelopes) (beside_kept h.there.out.envelopes) h.there h.me (nothing_beside h.there)) q

  -- another state of the attempt
  pub next_holds : (h : WorkerContext) (run next : Execution) → h.worker.run ≡ Some run → next.attempt ≡ run.attempt → next.base.serial ≡ run.base.serial →
      RunHolds log (sent_by h.there) acks me p next → Holds h → Holds (with_run h next)
  next_holds h run next e f g r q = record {
    who = q.who;
    kept_began = q.kept_began;
    same = λ x i. let is = q.same run e in subst (λ (y : Execution). (y.attempt ≡ a) × (y.base.serial ≡ base) × Present) (same_run next x i) (f ∙ is.0, g ∙ is.1, is.2);
    run = λ x i. subst (RunHolds log (sent_by h.there) acks me p) (same_run next x i) r;
    said = q.said;
  }

  -- with the same Holds
  pub still_holds : (h : WorkerContext) (run next : Execution) → h.worker.run ≡ Some run → next.attempt ≡ run.attempt → next.base.serial ≡ run.base.serial →
      next.holds ≡ run.holds → next.is_over ≡ run.is_over → Holds h → Holds (with_run h next)
  still_holds h run next e f g i j q =
      let r = q.run run e in
      next_holds h run next e f g (record {
        over = λ over. i ∙ r.over (sym j ∙ over);
        each = λ k there. subst (λ n. IsHolder log me next.attempt n k.holder) (sym g) (subst (λ b. IsHolder log me b run.base.serial k.holder) (sym f)
            (r.each k (subst (λ ks. Among k ks) i there)));
        held = λ other k there. subst (λ b. IsHeld log (sent_by h.there) acks me b p k) (sym f)
            (r.held (subst (λ b. same_attempt b main_attempt ≡ false) f other) k (subst (λ ks. Among k ks) i there));
      }) q

  -- fewer Holds wait
  fewer_holds : (h : WorkerContext) (run : Execution) (test : Holding → Bool) → h.worker.run ≡ Some run → Holds h → Holds (with_run h (record run { holds = filter test run.holds }))
  fewer_holds h run test e q =
      let r = q.run run e in
      next_holds h run (record run { holds = filter test run.holds }) e refl refl (record {
        over = λ over. none_filtered test run.holds (r.over over);
        each = λ k i. r.each k (kept_among test run.holds k i);
        held = λ other k i. r.held other k (kept_among test run.holds k i);
      }) q

  tells_stop_holds : (h : WorkerContext) (run : Execution) (phase : Phase) → Holds h → Holds (tells_stop h run phase)
  tells_stop_holds h run (HasEnded c) q = says_plain h _ _ refl q
  tells_stop_holds h run (HasFaulted f) q = says_plain h _ _ refl q
  tells_stop_holds h run Ready q = q
  tells_stop_holds h run (Out j) q = q
  tells_stop_holds h run (Waits y f) q = q

  pub leaves_holds : (h : WorkerContext) → Holds h → Holds (leaves_if_free h)
  leaves_holds h q = by_run h.worker.run refl
    where
      over_now : (run : Execution) → h.worker.run ≡ Some run → is_empty run.holds ≡ true → (next : Execution) → next.attempt ≡ run.attempt → next.base.serial ≡ run.base.serial →
          next.holds ≡ run.holds → Holds (with_run h next)
      over_now run e none next f g i =
          let r = q.run run e in
          next_holds h run next e f g (record {
            over = λ _. i ∙ empty_list run.holds none;
            each = λ k there. absurd (nobody k (subst (λ ks. Among k ks) (i ∙ empty_list run.holds none) there));
            held = λ other k there. absurd (nobody k (subst (λ ks. Among k ks) (i ∙ empty_list run.holds none) there));
          }) q
        where
          nobody : (k : Holding) → Among k [] → ⊥
          nobody k there = let x = there.1 in cc

      by_run : (r : Option Execution) → h.worker.run ≡ r → Holds (leaves_by h r)
      by_run None e = q
      by_run (Some run) e =
          let over : Execution = record run { is_over = true } in
          at_test (λ b. (has_stopped run.phase && not run.is_over && is_empty run.holds) ≡ b → Holds (if b then leaves h over else h))
          (has_stopped run.phase && not run.is_over && is_empty run.holds)
          (λ _ t.
          let none : is_empty run.holds ≡ true = and_right (has_stopped run.phase && not run.is_over) (is_empty run.holds) t in
          let told : Holds (tells h over) = tells_stop_holds (with_run h over) over over.phase (over_now run e none over refl refl refl) in
          let there : (tells h over).worker.run ≡ Some over = ap (λ (x : Worker). x.run) (tells_stop-worker (with_run h over) over over.phase) in
          at_test (λ b. Holds (if b then with_run h (record over { is_acknowledged = true }) else if knows_dead h.worker (owner_of over) then is_heard (tells h over) over else tells h over))
          (same_attempt run.attempt main_attempt)
          (λ _. over_now run e none (record over { is_acknowledged = true }) refl refl refl)
          (λ _. at_test (λ b. Holds (if b then is_heard (tells h over) over else tells h over)) (knows_dead h.worker (owner_of over))
          (λ _. says_to_node_holds _ _ _ (still_holds (tells h over) over (record over { is_acknowledged = true }) there refl refl refl refl told)) (λ _. told)))
          (λ _ _. q) refl

  pub holds_kept : IsKept Holds
  holds_kept = record {
    writes = λ h es quiet q. record { who = q.who; kept_began = q.kept_began; same = q.same; run = q.run; said = q.said };
    says = λ h w m s q. says_holds h w m s q;
    says_to_node = λ h n m q. says_to_node_holds h n m q;
    objects = λ h ys g q. record { who = q.who; kept_began = q.kept_began; same = q.same; run = q.run; said = q.said };
    passes = λ h ks q. record { who = q.who; kept_began = q.kept_began; same = q.same; run = q.run; said = q.said };
    deaths = λ h vs ns q. record { who = q.who; kept_began = q.kept_began; same = q.same; run = q.run; said = q.said };
    store = λ h s q. record { who = q.who; kept_began = q.kept_began; same = q.same; run = q.run; said = q.said };
    frees = λ h q. frees_holds h q;
    fetches = λ h run y f g e w q. still_holds h run (record run { phase = Waits y g }) e refl refl refl refl q;
    heard = λ h run e q. still_holds h run (record run { is_acknowledged = true }) e refl refl refl refl q;
    gets = λ h run c y f e w q.
        let g : WorkerContext = with_run h (with_answer run c) in
        let r : Holds g = still_holds h run (with_answer run c) e refl refl refl refl q in
        asks_holds (logs g (Got run.attempt y c)) (record { who = r.who; kept_began = r.kept_began; same = r.same; run = r.run; said = r.said });
    faults = λ h run f y w e i q.
        let g : WorkerContext = with_phase h run (HasFaulted f) in
        let r : Holds g = still_holds h run (record run { phase = HasFaulted f }) e refl refl refl refl q in
        leaves_holds (gives_slot_back (logs g (Faulted run.attempt y f)))
        (frees_holds (logs g (Faulted run.attempt y f)) (record { who = r.who; kept_began = r.kept_began; same = r.same; run = r.run; said = r.said }));
    acknowledged = λ h run test e q. leaves_holds (with_run h (record run { holds = filter test run.holds })) (fewer_holds h run test e q);
  }
