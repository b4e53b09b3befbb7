-- In every run what was made at a node is in its store, as long as no loss took it there and no word of the object's release came, whoever died.
use Rattle.std.proofs.Common.{[], ap, arith, inl, inr, length, List, None, Option, refl, Some, subst, suc, sym, zero, ℕ, ◌++◌, ◌+◌, ◌-◌, ◌<◌, ◌∙◌, ◌∷◌, ◌≡◌}
use Rattle.std.proofs.Common.{◌⊎◌}
use Rattle.std.specs.Prelude.{Bool, true, false, if◌then◌else◌, ◌&&◌, ◌||◌, ◌==◌}
use Rattle.std.specs.List.{find, flat_map, list_any}
use Rattle.std.specs.Option.{option_map}
use Rattle.std.proofs.lemmas.Bool.{eq-eqb}
use Rattle.std.proofs.lemmas.List.Concat.{flat_map-append}
use Rattle.std.proofs.lemmas.List.Folds.{list_any-append}
use Rattle.meaning.proofs.BirthLaws.{at_test, first_is_made, same_id-refl}
use Rattle.meaning.specs.Births.{birth_at, part_at, same_id}
use Rattle.meaning.specs.Values.{Id, main_birth, Outcome, Put, Value}
use Rattle.event_log.specs.Sane.{Sane}
use Rattle.event_log.proofs.Extending.{parts-more}
use Rattle.event_log.proofs.SaneLaws.{legal_logs_are_sane}
use Rattle.event_log.specs.Words.{attempt, births, ended_in, ends_of}
use Rattle.owed_asks.specs.of_protocol_legal.Whole.{Between, setting_of}
use Rattle.meaning.specs.Mains.{KeepsMainApart}
use Rattle.event_log.specs.Breaks.{Among}
use Rattle.event_log.specs.Entries.{Attempt, Claim, Commit, Deliver, Ended, Entry, Event, Evict, In, Join, Kill, KillNode, Limit, Lose, main_object, Notice}
use Rattle.event_log.specs.Entries.{NoticeNode, Refusal, Refused, Tick}
use Rattle.event_log.specs.Events.{accepted_events, from_one, loses, node_of, refused_next, was_lost}
use Rattle.event_log.specs.Legal.{opening}
use Rattle.event_log.specs.Rules.{Setting}
use Rattle.event_log.proofs.EventLaws.{accepted-append, accepted-event}
use Rattle.event_log.proofs.WordLaws.{same_attempt-refl}
use Rattle.protocol.specs.Answers.{Answer, Refuses, answer, decided, given_out, logged, takes, whole_after}
use Rattle.protocol.specs.Events.{happens}
use Rattle.protocol.specs.Jobs.{CommitInput}
use Rattle.protocol.specs.Messages.{Envelope, Endpoint, Reason, TheNode, Unhold, envelope}
use Rattle.protocol.specs.Nodes.{Node}
use Rattle.protocol.specs.Numbered.{item_at}
use Rattle.protocol.specs.Refusals.{is_within_limits, refusal}
use Rattle.protocol.specs.Stores.{Copy, is_copy_of}
use Rattle.protocol.specs.Tables.{Worker}
use Rattle.protocol.specs.Cluster.{Transition, ClusterState, first_whole, node_at, worker_at}
use Rattle.owed_asks.specs.of_protocol_legal.Made.{EndsSmall, IsMadeAt}
use Rattle.protocol_owed.specs.Replies.{HasFirstCopy}
use Rattle.protocol_owed.specs.Runs.{Handing, Running, after_event, after_events, is_copy, keeps_in, opening_run, seen}
use Rattle.protocol_owed.specs.Seen.{EndedAt, PutAt, delivered_in, envelopes_by}
use Rattle.protocol_owed.proofs.Counting.{happens-counted, no_event, not_refused}
use Rattle.protocol_owed.proofs.Envelopes.{among-behind, among-more, among-nothing}
use Rattle.protocol_owed.proofs.Nodes.{there_more}
use Rattle.owed_asks.specs.of_lease_discipline.Slots.{AreRight}
use Rattle.owed_asks.specs.of_lease_discipline.Told.{IsInStep}
use Rattle.owed_asks.proofs.of_lease_discipline.Told.{events_stay_in_step, nowhere, opening_is_in_step, locations}
use Rattle.owed_asks.proofs.Laws.{happens_network}
use Rattle.owed_replies.specs.Kept.{came_by}
use Rattle.owed_replies.proofs.Advancing.{among_flat, flat_among}
use Rattle.owed_laws.proofs.Made.{end_before, put_before}
use Rattle.owed_replies.proofs.Contents.{ended_entry}
use Rattle.owed_laws.proofs.MadeCopies.{IsNewEnd, IsNewPut}
use Rattle.owed_laws.proofs.StoreEvents.{Makes, TakesCopies, event_makes}
use Rattle.owed_laws.proofs.StoreMoves.{Stores}

-- word of the object's release came to the node
abbrev pub WasDropped : List Envelope → List Entry → ℕ → Id → Type 0
WasDropped sent log n o = (from : Endpoint) × (e : Id) × (why : Reason) × Among (envelope from (TheNode n) (Unhold e o why)) (came_by sent log)

-- what was made at the node isn't there any more, or, small as it is, never was
abbrev pub IsGone : List Envelope → List Entry → ℕ → Id → ℕ → Type 0
IsGone sent log n o number = WasDropped sent log n o ⊎ (was_lost n o log ≡ true) ⊎ EndsSmall log o number

-- each content that was made at a node is in its store, or is gone
abbrev pub KeepsMade : List Entry → ClusterState → Type 0
KeepsMade log c =
    (n : ℕ) (node : Node) → node_at c n ≡ Some node → (o : Id) (number : ℕ) → IsMadeAt log o number n →
    Stores node.store o number ⊎ IsGone c.network log n o number

-- ---- what is gone stays so

-- every envelope stays where it is
abbrev AreStill : List Envelope → List Envelope → Type 0
AreStill sent more = (i : ℕ) (l : Envelope) → item_at sent i ≡ Some l → item_at more i ≡ Some l

module _ (sent more : List Envelope) (still : AreStill sent more) where
  envelopes_still : (i : ℕ) (l : Envelope) → Among l (envelopes_by (item_at sent i)) → Among l (envelopes_by (item_at more i))
  envelopes_still i l = by_envelope (item_at sent i) refl
    where
      by_envelope : (x : Option Envelope) → item_at sent i ≡ x → Among l (envelopes_by x) → Among l (envelopes_by (item_at more i))
      by_envelope None e h = absurd (among-nothing l h)
      by_envelope (Some u) e h = subst (λ x. Among l (envelopes_by x)) (sym (still i u e)) h

  brought_still : (e : Event) (l : Envelope) → Among l (delivered_in sent e) → Among l (delivered_in more e)
  brought_still (Deliver i) l h = envelopes_still i l h
  brought_still (Claim w) l h = h
  brought_still (Commit j) l h = h
  brought_still (Tick w) l h = h
  brought_still (Notice w v) l h = h
  brought_still (NoticeNode w n) l h = h
  brought_still (Evict n o) l h = h
  brought_still (Lose n o) l h = h
  brought_still (Kill w) l h = h
  brought_still (KillNode n) l h = h
  brought_still Join l h = h

  module _ (log es : List Entry) (unrefused : refused_next es ≡ false) where
    accepted_still : (e : Event) → Among e (accepted_events log) → Among e (accepted_events (log ++ es))
    accepted_still e h = subst (λ xs. Among e xs) (sym (accepted-append log es unrefused)) (among-more (accepted_events log) (accepted_events es) e h)

    came_still : (l : Envelope) → Among l (came_by sent log) → Among l (came_by more (log ++ es))
    came_still l h =
        let r = flat_among (delivered_in sent) (accepted_events log) l h in
        among_flat (delivered_in more) (accepted_events (log ++ es)) r.0 l (accepted_still r.0 r.1) (brought_still r.0 l r.2)

    lost_still : (n : ℕ) (o : Id) → was_lost n o log ≡ true → was_lost n o (log ++ es) ≡ true
    unfolding was_lost
    lost_still n o h = ap (list_any (loses n o)) (accepted-append log es unrefused) ∙ list_any-append (loses n o) (accepted_events log) (accepted_events es) ∙
        ap (λ b. b || list_any (loses n o) (accepted_events es)) h

    small_still : (o : Id) (number : ℕ) → EndsSmall log o number → EndsSmall (log ++ es) o number
    small_still o number (part, content, r, small) =
        let a : Attempt = attempt part.born.object number in (
          part,
          content,
          record {
            born = parts-more log es o part r.born;
            contents = r.contents;
            ended = subst (λ xs. Among r.contents xs) (sym (flat_map-append (ended_in a) log es)) (among-more (ends_of a log) (flat_map (ended_in a) es) r.contents r.ended);
            content = r.content;
          },
          small,
        )

    gone_still : (n : ℕ) (o : Id) (number : ℕ) → IsGone sent log n o number → IsGone more (log ++ es) n o number
    gone_still n o number (inl (from, e, why, h)) = inl (from, e, why, came_still (envelope from (TheNode n) (Unhold e o why)) h)
    gone_still n o number (inr (inl lost)) = inr (inl (lost_still n o lost))
    gone_still n o number (inr (inr small)) = inr (inr (small_still o number small))

-- ---- what the event takes is gone

taken_lost : (n : ℕ) (o : Id) (log later : List Entry) → accepted_events later ≡ accepted_events log ++ Lose n o ∷ [] → was_lost n o later ≡ true
unfolding was_lost
taken_lost n o log later accepted = ap (list_any (loses n o)) accepted ∙ list_any-append (loses n o) (accepted_events log) (Lose n o ∷ []) ∙
    ap (λ b. list_any (loses n o) (accepted_events log) || (b || false)) it ∙ or_true (list_any (loses n o) (accepted_events log))
  where
    it : ((n == n) && same_id o o) ≡ true
    it = ap (λ b. b && same_id o o) (eq-eqb n n refl) ∙ same_id-refl o

    or_true : (a : Bool) → (a || (true || false)) ≡ true
    or_true true = refl
    or_true false = refl

taken_gone : (sent more : List Envelope) → AreStill sent more → (log later : List Entry) (e : Event) → accepted_events later ≡ accepted_events log ++ e ∷ [] →
    (n : ℕ) (o : Id) (number : ℕ) → TakesCopies sent e n o → IsGone more later n o number
taken_gone sent more still log later e accepted n o number (inl (i, from, x, why, is, at)) =
    let l : Envelope = envelope from (TheNode n) (Unhold x o why) in
    let event : Among (Deliver i) (accepted_events later) =
    subst (λ xs. Among (Deliver i) xs) (sym accepted) (among-behind (accepted_events log) (e ∷ []) (Deliver i) (zero, ap (λ y. Some y) is)) in
    let brought : Among l (delivered_in more (Deliver i)) = subst (λ y. Among l (envelopes_by y)) (sym (still i l at)) (zero, refl) in
    inl (from, x, why, among_flat (delivered_in more) (accepted_events later) (Deliver i) l event brought)
taken_gone sent more still log later e accepted n o number (inr is) =
    inr (inl (taken_lost n o log later (subst (λ x. accepted_events later ≡ accepted_events log ++ x ∷ []) is accepted)))

-- ---- an event

module _ (s : Setting) (log : List Entry) (c : ClusterState) (b : Between s log c) where
  same_place : (m n : ℕ) → ◌≡◌ {A = Option ℕ} (Some m) (Some n) → m ≡ n
  same_place m n e = cc

  -- a worker's node is there
  has_room : (w n : ℕ) → node_of w log ≡ Some n → n < length c.nodes + 1
  has_room w n e = by_worker (worker_at c w) refl
    where
      by_worker : (x : Option Worker) → worker_at c w ≡ x → n < length c.nodes + 1
      by_worker None at = let f : ◌≡◌ {A = Option ℕ} None (Some n) = sym (nowhere c.workers w at) ∙ ap (λ ns. from_one ns w) (sym b.knows.opened) ∙ e in absurd (cc)
      by_worker (Some x) at = let same : x.node ≡ n = same_place x.node n (sym (locations s log c b w x at) ∙ e) in
          subst (λ i. i < length c.nodes + 1) same (b.knows.rooms w x at)

  made_there : (o : Id) (number n : ℕ) → IsMadeAt log o number n → n < length c.nodes + 1
  made_there o number n (inl p) = has_room o.owner n p.home
  made_there o number n (inr p) = has_room p.worker n p.home

  module _ (k : KeepsMade log c) (e : Event) (seat : ℕ) (m : Transition) (network : m.whole.network ≡ c.network ++ m.out.envelopes)
      (accepted : accepted_events (log ++ In e seat ∷ m.out.entries) ≡ accepted_events log ++ e ∷ [])
      (makes : Makes c (log ++ In e seat ∷ m.out.entries) e m) (after : Sane (log ++ In e seat ∷ m.out.entries)) where
    abbrev later : List Entry
    later = log ++ In e seat ∷ m.out.entries

    still : AreStill c.network m.whole.network
    still i l at = ap (λ ls. item_at ls i) network ∙ there_more c.network m.out.envelopes i l at

    old_stays : (n : ℕ) (node : Node) → node_at m.whole n ≡ Some node → (o : Id) (number : ℕ) → IsMadeAt log o number n →
        Stores node.store o number ⊎ IsGone m.whole.network later n o number
    old_stays n node at o number old = elim (makes.nodes n node at) [
      | inl was ↦ elim (k n was.node was.at o number old) [
        | inl stored ↦ elim (was.keeps o number stored) [
          | inl now ↦ inl now
          | inr taken ↦ inr (taken_gone c.network m.whole.network still log later e accepted n o number taken)
        ]
        | inr gone ↦ inr (gone_still c.network m.whole.network still log (In e seat ∷ m.out.entries) refl n o number gone)
      ]
      | inr new ↦ let below = made_there o number n old in absurd (omega (arith, new, below))
    ]

    pub still_made : KeepsMade later m.whole
    still_made n node at o number (inl p) = elim (put_before s log c b e seat m.out.entries after o number n p) [
      | inl old ↦ old_stays n node at o number old
      | inr new ↦ inl (makes.puts n node at o number p new)
    ]
    still_made n node at o number (inr p) = elim (end_before s log c b e seat m.out.entries after o number n p) [
      | inl old ↦ old_stays n node at o number old
      | inr (inl new) ↦ inl (makes.ends n node at o number p new)
      | inr (inr small) ↦ inr (inr (inr small))
    ]

  module _ (k : KeepsMade log c) (e : Event) (seat : ℕ) (code : Refusal) (after : Sane (log ++ In e seat ∷ Refused code ∷ [])) where
    abbrev refusing : List Entry
    refusing = In e seat ∷ Refused code ∷ []

    no_put : (o : Id) (number : ℕ) → IsNewPut (Refused code ∷ []) o number → ⊥
    no_put o number (a, v, (zero, f), z) = absurd (cc)
    no_put o number (a, v, (suc i, f), z) = absurd (cc)

    no_end : (first o : Id) (number : ℕ) → IsNewEnd (Refused code ∷ []) first o number → ⊥
    no_end first o number q = none q.contents q.ended
      where
        none : (cs : List Outcome) → Among (Ended (attempt first number) cs) (Refused code ∷ []) → ⊥
        none cs (zero, f) = absurd (cc)
        none cs (suc i, f) = absurd (cc)

    as_before : (n : ℕ) (node : Node) → node_at c n ≡ Some node → (o : Id) (number : ℕ) → IsMadeAt log o number n →
        Stores node.store o number ⊎ IsGone c.network (log ++ refusing) n o number
    as_before n node at o number old = elim (k n node at o number old) [
      | inl stored ↦ inl stored
      | inr gone ↦ inr (gone_still c.network c.network (λ i l f. f) log refusing refl n o number gone)
    ]

    pub refused_made : KeepsMade (log ++ refusing) c
    refused_made n node at o number (inl p) = elim (put_before s log c b e seat (Refused code ∷ []) after o number n p) [
      | inl old ↦ as_before n node at o number old
      | inr new ↦ absurd (no_put o number new)
    ]
    refused_made n node at o number (inr p) = elim (end_before s log c b e seat (Refused code ∷ []) after o number n p) [
      | inl old ↦ as_before n node at o number old
      | inr (inl new) ↦ absurd (no_end p.part.born.object o number new)
      | inr (inr small) ↦ inr (inr (inr small))
    ]

-- accepted or refused
module _ (s : Setting) (log : List Entry) (c : ClusterState) (before : IsInStep s log c) (k : KeepsMade log c) (e : Event) (seat : ℕ) (handed : CommitInput) where
  abbrev Kept : Answer → Type 0
  Kept a = Sane (log ++ logged e seat a) → KeepsMade (log ++ logged e seat a) (whole_after c a)

  taken_made : refusal c e handed ≡ None → Kept (takes (happens c e handed) (given_out c e))
  taken_made unrefused after =
      let m : Transition = happens c e handed in
      let q = (happens-counted c e handed).quiet in
      still_made s log c before.sound.between k e seat m (happens_network c e handed)
      (accepted-event log e seat m.out.entries (no_event m.out.entries q) ∙ ap (λ t. accepted_events log ++ (if t then [] else e ∷ [])) (not_refused m.out.entries q))
      (event_makes s log c before seat e handed unrefused) after

  limited_made : (t : Bool) → refusal c e handed ≡ None → Kept (if t then takes (happens c e handed) (given_out c e) else Refuses Limit)
  limited_made true unrefused = taken_made unrefused
  limited_made false unrefused = refused_made s log c before.sound.between k e seat Limit

  decided_made : (code : Option Refusal) → refusal c e handed ≡ code → Kept (decided c e handed code)
  decided_made None is = limited_made (is_within_limits (happens c e handed).whole) is
  decided_made (Some code) is = refused_made s log c before.sound.between k e seat code

  pub event_made : Kept (answer c e handed)
  event_made = decided_made (refusal c e handed) refl

-- ---- runs

-- nothing was made yet
opening_made : (nodes slots : ℕ) → KeepsMade opening (first_whole nodes slots)
opening_made nodes slots n node at o number (inl p) = absurd (no_put (same_id main_object o) p.born)
  where
    no_put : (t : Bool) → (if t then Some main_birth else None) ≡ Some (Put p.value) → ⊥
    no_put true e = absurd (cc)
    no_put false e = absurd (cc)
opening_made nodes slots n node at o number (inr p) = absurd (among-nothing p.result.contents p.result.ended)

made_stays : (s : Setting) → KeepsMainApart s.script → (r : Running) (gs : List Handing) → AreRight s r gs → IsInStep s r.log r.whole → KeepsMade r.log r.whole →
    KeepsMade (after_events r gs).log (after_events r gs).whole
made_stays s apart r [] right step k = k
made_stays s apart r (g ∷ gs) right step k =
    made_stays s apart (after_event r g) gs right.1 (events_stay_in_step s apart r.log r.whole g.event g.seat g.handed step right.0)
    (event_made s r.log r.whole step k g.event g.seat g.handed
    (legal_logs_are_sane (setting_of s (after_event r g).whole) (after_event r g).log (events_stay_in_step s apart r.log r.whole g.event g.seat g.handed step right.0).sound.between.legal))

pub runs_keep_made : (s : Setting) (slots : ℕ) → 0 < s.nodes → KeepsMainApart s.script → (gs : List Handing) → AreRight s (opening_run s.nodes slots) gs →
    KeepsMade (after_events (opening_run s.nodes slots) gs).log (after_events (opening_run s.nodes slots) gs).whole
runs_keep_made s slots some apart gs right =
    made_stays s apart (opening_run s.nodes slots) gs right (opening_is_in_step s slots some) (opening_made s.nodes slots)

-- ---- by the log

found_first : (p : Copy → Bool) (xs ys : List Copy) → list_any p xs ≡ true → is_copy (option_map (λ (x : Copy). x.content) (find p (xs ++ ys))) ≡ true
found_first p [] ys e = absurd (cc)
found_first p (x ∷ xs) ys e =
    at_test (λ t. (t || list_any p xs) ≡ true → is_copy (option_map (λ (y : Copy). y.content) (if t then Some x else find p (xs ++ ys))) ≡ true) (p x)
    (λ _ f. refl) (λ _ f. found_first p xs ys f) e

entry_ended : (log : List Entry) (a : Attempt) (c : List Outcome) → Among (Ended a c) log → Among c (ends_of a log)
entry_ended log a c i =
    among_flat (ended_in a) log (Ended a c) c i (subst (λ t. Among c (if t then c ∷ [] else [])) (sym (same_attempt-refl a)) (zero, refl))

-- a first copy is in the store
pub first_copy_kept : (s : Setting) (r : Running) → Sane r.log → KeepsMade r.log r.whole → (n : ℕ) (node : Node) → node_at r.whole n ≡ Some node →
    (y : Id) (number : ℕ) → HasFirstCopy (seen s r) n y number → (seen s r).keeps n y number ≡ true
first_copy_kept s r sane k n node at y number first = ap (keeps_in y number) at ∙ elim (k n node at y number (made first.first)) [
  | inl stored ↦ found_first (is_copy_of y number) node.store.primaries node.store.secondaries stored
  | inr (inl (from, e, why, dropped)) ↦ absurd (first.kept from e why dropped)
  | inr (inr (inl lost)) ↦ absurd (differ (was_lost n y r.log) lost first.unlost)
  | inr (inr (inr (part, content, e, small))) ↦ absurd (differ _ small (first.big part content
      (record { born = e.born; contents = e.contents; ended = ended_entry r.log (attempt part.born.object number) e.contents e.ended; content = e.content })))
]
  where
    differ : (t : Bool) → t ≡ true → t ≡ false → ⊥
    differ t e f = cc

    put_part : (o : Id) (v : Value) → birth_at (births r.log) o ≡ Some (Put v) → part_at (births r.log) o ≡ Some (record { born = record { object = o; birth = Put v }; place = 0 })
    put_part o v f =
        sane.grouped.whole o o (Put v) f (first_is_made (record { object = o; birth = Put v })) ∙
        ap (λ i. Some (record { born = record { object = o; birth = Put v }; place = i })) (none o.serial)
      where
        none : (m : ℕ) → m - m ≡ 0
        none m = omega arith

    made : PutAt r.log y number n ⊎ EndedAt r.log y number n → IsMadeAt r.log y number n
    made (inl p) = inl (record { value = p.value; born = p.put; part = put_part y p.value p.put; first = p.first; home = p.place })
    made (inr p) = inr (record {
      part = p.part;
      worker = p.worker;
      runs = p.ran;
      home = p.place;
      content = p.content;
      result = record {
        born = p.ended.born;
        contents = p.ended.contents;
        ended = entry_ended r.log (attempt p.part.born.object number) p.ended.contents p.ended.ended;
        content = p.ended.content;
      };
    })
