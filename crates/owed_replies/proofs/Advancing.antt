-- What an event has to make of the whole, so that each message still gets its reply.
use Rattle.std.proofs.Common.{◌≡◌, ℕ, zero, suc, ◌+◌, ◌<◌, ◌≤◌, List, [], ◌∷◌, ◌++◌, length, Some, None, Option, refl, ap, sym, subst, ◌∙◌, ◌⊎◌, inl, inr}
use Rattle.std.proofs.Common.{arith}
use Rattle.std.specs.Prelude.{true, false, if◌then◌else◌, slice_get}
use Rattle.std.specs.List.{AllByRecursion, flat_map}
use Rattle.meaning.proofs.BirthLaws.{at_test, same_id-refl}
use Rattle.meaning.specs.Births.{Part, is_made_by, part_at, part_of, Bearing, same_id}
use Rattle.meaning.specs.Readings.{IsBorn}
use Rattle.meaning.specs.Values.{Id, Outcome, Put}
use Rattle.event_log.specs.Breaks.{Among}
use Rattle.event_log.specs.Entries.{Accepted, Attempt, Born, Claim, Commit, Deliver, Ended, Entry, Event, Evict, In, Join, Kill, KillNode, Lose, Notice, NoticeNode}
use Rattle.event_log.specs.Entries.{Begun, Faulted, Got, Opened, Printed, Refused, Released, Resolved, Tick, main_attempt, main_object}
use Rattle.event_log.specs.Events.{accepted_events}
use Rattle.event_log.specs.Rules.{Setting}
use Rattle.event_log.specs.Sane.{Sane}
use Rattle.event_log.proofs.Extending.{parts-more}
use Rattle.event_log.proofs.FreshLaws.{born_if_first}
use Rattle.event_log.specs.Words.{main_bearing, births, born_in, ended_in, ends_of, faults_of, same_attempt}
use Rattle.event_log.proofs.SaneLaws.{legal_logs_are_sane}
use Rattle.event_log.proofs.WordLaws.{same_attempt-refl}
use Rattle.protocol.specs.Messages.{EndedResult}
use Rattle.protocol.specs.Messages.{Envelope, envelope, Message, Endpoint, TheWorker, TheNode, Ask, Give, Elsewhere, Wait, Back, Push, Finished, FinishedAck, Failed}
use Rattle.protocol.specs.Messages.{Where, At, Gone, Fetch, CopyOf, Missing, Hold, HoldAck, Unhold}
use Rattle.protocol.specs.Numbered.{item_at}
use Rattle.protocol.specs.Tables.{HasEnded, HasFaulted, Object, Out, Phase, Ready, Execution, Waits, Worker}
use Rattle.protocol.specs.Cluster.{Transition, ClusterState, worker_at}
use Rattle.lease_discipline.specs.of_protocol_legal.Knows.{KnowsPhase, KnowsRun, KnowsWorker}
use Rattle.lease_discipline.specs.of_protocol_legal.Made.{IsMade}
use Rattle.lease_discipline.specs.of_protocol_legal.Past.{past}
use Rattle.lease_discipline.specs.of_protocol_legal.Says.{Says}
use Rattle.lease_discipline.specs.of_protocol_legal.Whole.{Between, setting_of}
use Rattle.protocol_owed.specs.Replies.{IsRequest}
use Rattle.protocol_owed.specs.Seen.{delivered_in, envelopes_by}
use Rattle.protocol_owed.proofs.Envelopes.{among-append_cases, among-behind, among-more, among-nothing}
use Rattle.protocol_owed.proofs.Nodes.{there_more}
use Rattle.protocol_owed.specs.Told.{attempt_by}
use Rattle.lease_discipline.specs.Told.{IsInStep}
use Rattle.owed_replies.specs.Kept.{IsAwaitedBy, IsBornIn, IsGoingOn, IsOverInTime, IsReported, IsRightBetween, IsRightEnvelope, KeepsReplies, RunIsRight, came_by}
use Rattle.owed_replies.proofs.Objects.{Grows, IsGrown}

-- ---- lists

module _ {X Y : Type 0} (f : X → List Y) where
  pub among_flat : (xs : List X) (x : X) (y : Y) → Among x xs → Among y (f x) → Among y (flat_map f xs)
  among_flat [] x y (k, e) i = absurd (cc)
  among_flat (z ∷ xs) x y (zero, e) i = let same : z ≡ x = cc in among-more (f z) (flat_map f xs) y (subst (λ u. Among y (f u)) (sym same) i)
  among_flat (z ∷ xs) x y (suc k, e) i = among-behind (f z) (flat_map f xs) y (among_flat xs x y (k, e) i)

  pub flat_among : (xs : List X) (y : Y) → Among y (flat_map f xs) → (x : X) × Among x xs × Among y (f x)
  flat_among [] y i = absurd (among-nothing y i)
  flat_among (z ∷ xs) y i = elim (among-append_cases (f z) (flat_map f xs) y i) [
    | inl j ↦ (z, (zero, refl), j)
    | inr j ↦ let r = flat_among xs y j in (r.0, (suc r.1.0, r.1.1), r.2)
  ]

pub all_among : (P : Envelope → Type 0) (ls : List Envelope) (l : Envelope) → AllByRecursion P ls → Among l ls → P l
all_among P [] l all (k, e) = absurd (cc)
all_among P (x ∷ ls) l all (zero, e) = let same : x ≡ l = cc in subst P same all.0
all_among P (x ∷ ls) l all (suc k, e) = all_among P ls l all.1 (k, e)

-- ---- what a log says of births and ends

part_among : (xs : List Bearing) (y : Bearing) (o : Id) → Among y xs → is_made_by y o ≡ true → (p : Part) × (part_at xs o ≡ Some p)
part_among [] y o (k, e) made = absurd (cc)
part_among (x ∷ xs) y o (zero, e) made =
    let same : x ≡ y = cc in
    (part_of x o, ap (λ b. if b then Some (part_of x o) else part_at xs o) (ap (λ (z : Bearing). is_made_by z o) same ∙ made))
part_among (x ∷ xs) y o (suc k, e) made = first (part_among xs y o (k, e) made)
  where
    first : (p : Part) × (part_at xs o ≡ Some p) → (p : Part) × ((if is_made_by x o then Some (part_of x o) else part_at xs o) ≡ Some p)
    first r = at_test (λ t. (p : Part) × ((if t then Some (part_of x o) else part_at xs o) ≡ Some p)) (is_made_by x o) (λ _. (part_of x o, refl)) (λ _. r)

-- what an entry bears was born
pub entry_born : (log : List Entry) (o : Id) → IsBornIn log o → IsBorn (births log) o
entry_born log o (p, a, b, i, made) =
    let x : Bearing = record { object = p; birth = b } in
    let j = among_flat born_in log (Born p a b) x i (zero, refl) in
    part_among (births log) x o (suc j.0, j.1) made

part_from : (xs : List Bearing) (o : Id) (p : Part) → part_at xs o ≡ Some p → (x : Bearing) × Among x xs × (is_made_by x o ≡ true) × (p ≡ part_of x o)
part_from [] o p e = absurd (cc)
part_from (x ∷ xs) o p e =
    at_test (λ t. is_made_by x o ≡ t → (if t then Some (part_of x o) else part_at xs o) ≡ Some p →
    (y : Bearing) × Among y (x ∷ xs) × (is_made_by y o ≡ true) × (p ≡ part_of y o)) (is_made_by x o)
    (λ _ made f. (x, (zero, refl), made, same p (part_of x o) (sym f)))
    (λ _ _ f. let r = part_from xs o p f in (r.0, (suc r.1.0, r.1.1), r.2, r.3)) refl e
  where
    same : (u v : Part) → ◌≡◌ {A = Option Part} (Some u) (Some v) → u ≡ v
    same u v f = cc

bearing_entry : (log : List Entry) (x : Bearing) → Among x (flat_map born_in log) → (a : Attempt) × Among (Born x.object a x.birth) log
bearing_entry log x i = let r = flat_among born_in log x i in by_entry r.0 r.2 r.1
  where
    none : {Y : Type 0} → Among {X = Bearing} x [] → Y
    none h = absurd (among-nothing _ h)

    by_entry : (y : Entry) → Among {X = Bearing} x (born_in y) → Among y log → (a : Attempt) × Among (Born x.object a x.birth) log
    by_entry (Born p a d) (zero, e) k =
        let f : ◌≡◌ {A = Bearing} (record { object = p; birth = d }) x = cc in (a, subst (λ (z : Bearing). Among (Born z.object a z.birth) log) f k)
    by_entry (Born p a d) (suc j, e) k = absurd (cc)
    by_entry (In e seat) j k = none j
    by_entry (Refused code) j k = none j
    by_entry (Opened w n) j k = none j
    by_entry (Begun a w) j k = none j
    by_entry (Got a y d) j k = none j
    by_entry (Printed v) j k = none j
    by_entry (Ended a d) j k = none j
    by_entry (Accepted a) j k = none j
    by_entry (Faulted a y f) j k = none j
    by_entry (Resolved p f) j k = none j
    by_entry (Released p) j k = none j

-- an object whose birth isn't main's was borne by an attempt
pub part_born : (log : List Entry) (o : Id) (p : Part) → part_at (births log) o ≡ Some p → same_id p.born.object main_object ≡ false → IsBornIn log o
part_born log o p e other = let r = part_from (births log) o p e in by_place r.0 r.1 r.2 r.3
  where
    by_place : (x : Bearing) → Among x (births log) → is_made_by x o ≡ true → p ≡ part_of x o → IsBornIn log o
    by_place x (zero, f) made same =
        let is : main_bearing ≡ x = cc in
        let first : p.born.object ≡ main_object = ap (λ (q : Part). q.born.object) same ∙ ap (λ (y : Bearing). y.object) (sym is) in
        let t : same_id p.born.object main_object ≡ true = ap (λ i. same_id i main_object) first ∙ same_id-refl main_object in
        absurd (cc)
    by_place x (suc i, f) made same = let q = bearing_entry log x (i, f) in (x.object, q.0, x.birth, q.1, made)

pub end_among : (log : List Entry) (a : Attempt) (b : List Outcome) → Among (Ended a b) log → Among b (ends_of a log)
end_among log a b i = among_flat (ended_in a) log (Ended a b) b i (subst (λ t. Among b (if t then b ∷ [] else [])) (sym (same_attempt-refl a)) (zero, refl))

pub item_below : {X : Type 0} (xs : List X) (n : ℕ) → 1 ≤ n → n < length xs + 1 → (z : X) × (item_at xs n ≡ Some z)
item_below xs zero some below = absurd (omega (arith, some))
item_below {X} xs (suc i) some below = got xs i (omega (arith, below))
  where
    got : (ys : List X) (j : ℕ) → j < length ys → (z : X) × (slice_get ys j ≡ Some z)
    got [] j e = absurd (omega (arith, e))
    got (y ∷ ys) zero e = (y, refl)
    got (y ∷ ys) (suc j) e = got ys j (omega (arith, e))

-- ---- what is born is in its owner's table

pub owner_has : (s : Setting) (log : List Entry) (c : ClusterState) → Between s log c → (y : Id) → IsBorn (births log) y → (x : Worker) → worker_at c y.owner ≡ Some x → x.is_live ≡ true →
    1 ≤ y.serial → (z : Object) × (item_at x.objects y.serial ≡ Some z)
owner_has s log c b y born x at live some =
    let sane : Sane log = legal_logs_are_sane (setting_of s c) log b.legal in
    let below = sane.serials y born in
    let knows : KnowsWorker (setting_of s c) (past log b.asked) y.owner x = b.knows.workers y.owner x at live in
    let next = knows.serial in
    item_below x.objects y.serial some (omega (arith, below, next))

-- a content that was made is of what was born
pub made_born : (s : Setting) (log : List Entry) (c : ClusterState) → Between s log c → (y : Id) (number : ℕ) → IsMade log y number → IsBorn (births log) y
made_born s log c b y number (n, inl p) = born_if_first (births log) y (Put p.value) p.born
made_born s log c b y number (n, inr p) = (p.part, p.result.born)

-- what is asked for was born
pub request_born : (s : Setting) (log : List Entry) (c : ClusterState) → Between s log c → KeepsReplies log c → (v w : ℕ) (y : Id) (m : Message) →
    Among (envelope (TheWorker v) (TheWorker w) m) c.network → IsRequest y m → IsBorn (births log) y
request_born s log c b k v w y m i (inl is) =
    let r : IsRightEnvelope log (envelope (TheWorker v) (TheWorker w) (Where y)) = subst (λ n. IsRightEnvelope log (envelope (TheWorker v) (TheWorker w) n)) is (k.envelopes _ i) in
    r.2
request_born s log c b k v w y m i (inr (number, n, is)) =
    let told : Says (past log b.asked) (envelope (TheWorker v) (TheWorker w) (Missing y number n)) =
    subst (λ q. Says (past log b.asked) (envelope (TheWorker v) (TheWorker w) q)) is (all_among (Says (past log b.asked)) c.network _ b.knows.told i) in
    made_born s log c b y number told.0

-- what was born stays so
pub born_more : (log es : List Entry) (o : Id) → IsBornIn log o → IsBornIn (log ++ es) o
born_more log es o (p, a, b, i, made) = (p, a, b, among-more log es _ i, made)

pub known_more : (log es : List Entry) (o : Id) → IsBorn (births log) o → IsBorn (births (log ++ es)) o
known_more log es o (p, e) = (p, parts-more log es o p e)

-- what is right beside a log is right beside more
pub right_more : (p es : List Entry) (from to : Endpoint) (m : Message) → IsRightBetween p from to m → IsRightBetween (p ++ es) from to m
right_more p es (TheWorker v) (TheWorker w) (Where y) r = (r.0, r.1, known_more p es y r.2)
right_more p es (TheWorker v) (TheWorker w) (Hold e o) r = (r.0, born_more p es o r.1)
right_more p es (TheWorker v) (TheWorker w) (Missing y number n) r = r
right_more p es (TheWorker v) (TheWorker w) (Finished a n rs) r = r
right_more p es (TheWorker v) (TheWorker w) (At y number ns kept) r = r
right_more p es (TheWorker v) (TheWorker w) (Ask a t) r = tt
right_more p es (TheWorker v) (TheWorker w) (Give a t u) r = tt
right_more p es (TheWorker v) (TheWorker w) (Elsewhere a t n) r = tt
right_more p es (TheWorker v) (TheWorker w) (Wait a t) r = tt
right_more p es (TheWorker v) (TheWorker w) (Back a) r = tt
right_more p es (TheWorker v) (TheWorker w) (Push a spec) r = tt
right_more p es (TheWorker v) (TheWorker w) (FinishedAck a) r = tt
right_more p es (TheWorker v) (TheWorker w) (Failed a g) r = tt
right_more p es (TheWorker v) (TheWorker w) (Gone y g) r = tt
right_more p es (TheWorker v) (TheWorker w) (Fetch y number) r = tt
right_more p es (TheWorker v) (TheWorker w) (CopyOf y number c) r = tt
right_more p es (TheWorker v) (TheWorker w) (HoldAck e o) r = tt
right_more p es (TheWorker v) (TheWorker w) (Unhold e o why) r = tt
right_more p es (TheWorker v) (TheNode n) m r = tt
right_more p es (TheNode v) to m r = tt

-- ---- an event

-- a worker after the event is one of before, whose askers are kept in mind, or has no objects yet
pub record IsOfOld (c : ClusterState) (w : ℕ) (y : Worker) : Type 0 where
  pub worker : Worker
  pub there : worker_at c w ≡ Some worker
  pub lived : worker.is_live ≡ true
  pub grows : Grows worker.objects y.objects

-- the attempt is the present one of a live worker
pub record IsPresent (c : ClusterState) (a : Attempt) : Type 0 where
  pub number : ℕ
  pub worker : Worker
  pub there : worker_at c number ≡ Some worker
  pub lives : worker.is_live ≡ true
  pub present : attempt_by worker.run ≡ Some a

-- the event brings the end of the attempt to a live worker
pub record IsBrought (c : ClusterState) (e : Event) (a : Attempt) : Type 0 where
  pub number : ℕ
  pub sender : ℕ
  pub owner : ℕ
  pub node : ℕ
  pub results : List EndedResult
  pub worker : Worker
  pub event : e ≡ Deliver number
  pub sent : item_at c.network number ≡ Some (envelope (TheWorker sender) (TheWorker owner) (Finished a node results))
  pub there : worker_at c owner ≡ Some worker
  pub lives : worker.is_live ≡ true

-- what the event e makes of the whole c, with these entries and envelopes
pub record Advances (log : List Entry) (c : ClusterState) (e : Event) (seat : ℕ) (m : Transition) : Type 0 where
  pub network : m.whole.network ≡ c.network ++ m.out.envelopes
  pub envelopes : (l : Envelope) → Among l m.out.envelopes → IsRightEnvelope (log ++ In e seat ∷ m.out.entries) l
  pub runs : (w : ℕ) (y : Worker) (run : Execution) → worker_at m.whole w ≡ Some y → y.run ≡ Some run →
      RunIsRight (log ++ In e seat ∷ m.out.entries) m.whole.network w run × IsOverInTime run
  pub objects : (w : ℕ) (y : Worker) → worker_at m.whole w ≡ Some y → y.is_live ≡ true → IsOfOld c w y ⊎ (y.objects ≡ [])
  pub asked : (k v : ℕ) (o : Id) (n : Message) → e ≡ Deliver k → item_at c.network k ≡ Some (envelope (TheWorker v) (TheWorker o.owner) n) → IsRequest o n →
      (y : Worker) (z : Object) → worker_at m.whole o.owner ≡ Some y → y.is_live ≡ true → item_at y.objects o.serial ≡ Some z → IsAwaitedBy v z
  pub goes_on : (a : Attempt) → IsGoingOn c a → IsGoingOn m.whole a ⊎ IsPresent m.whole a
  pub ended : (a : Attempt) (b : List Outcome) → Among (Ended a b) m.out.entries → IsPresent m.whole a
  pub accepts : (a : Attempt) → Among (Accepted a) m.out.entries → IsBrought c e a

module _ (s : Setting) (log : List Entry) (c : ClusterState) (e : Event) (seat : ℕ) (m : Transition) (before : IsInStep s log c)
    (after : IsInStep s (log ++ In e seat ∷ m.out.entries) m.whole) (k : KeepsReplies log c) (sent : (i : ℕ) → e ≡ Deliver i → (l : Envelope) × (item_at c.network i ≡ Some l))
    (accepted : accepted_events (log ++ In e seat ∷ m.out.entries) ≡ accepted_events log ++ e ∷ []) (a : Advances log c e seat m) where
  abbrev next : List Entry
  next = log ++ In e seat ∷ m.out.entries

  abbrev b : Between s log c
  b = before.sound.between

  abbrev d : Between s next m.whole
  d = after.sound.between

  right_still : (l : Envelope) → IsRightEnvelope log l → IsRightEnvelope next l
  right_still l r = right_more log (In e seat ∷ m.out.entries) l.sender l.receiver l.message r

  -- ---- attempts that ended

  same_run : (x y : Execution) → ◌≡◌ {A = Option Execution} (Some x) (Some y) → x ≡ y
  same_run x y f = cc

  no_end : (f : Attempt) (x : List Outcome) → Among x (ends_of f next) → ends_of f next ≡ [] → ⊥
  no_end f x i g = among-nothing x (subst (λ xs. Among x xs) g i)

  some_end : (f : Attempt) (x : List Outcome) → Among x (ends_of f next) → 1 ≤ length (ends_of f next)
  some_end f x i = counted (ends_of f next) i.0 i.1
    where
      counted : (xs : List (List Outcome)) (j : ℕ) → slice_get xs j ≡ Some x → 1 ≤ length xs
      counted [] j g = absurd (cc)
      counted (y ∷ xs) j g = omega arith

  -- the present attempt of a live worker that ended is over and reported, or goes on
  settles : (f : Attempt) (x : List Outcome) → Among (Ended f x) next → same_attempt f main_attempt ≡ false → IsPresent m.whole f →
      ((w : ℕ) × IsReported m.whole.network w f) ⊎ IsGoingOn m.whole f
  settles f x i other p = by_run p.worker.run refl
    where
      by_run : (r : Option Execution) → p.worker.run ≡ r → ((w : ℕ) × IsReported m.whole.network w f) ⊎ IsGoingOn m.whole f
      by_run None g = let h : attempt_by None ≡ Some f = ap attempt_by (sym g) ∙ p.present in absurd (cc)
      by_run (Some run) g =
          let same : run.attempt ≡ f = there (ap attempt_by (sym g) ∙ p.present) in
          let knows : KnowsRun (setting_of s m.whole) next p.number p.worker run = (d.knows.workers p.number p.worker p.there p.lives).run run g in
          let right = a.runs p.number p.worker run p.there g in
          let here : Among x (ends_of run.attempt next) = subst (λ q. Among x (ends_of q next)) (sym same) (end_among next f x i) in
          let told : (phase : Phase) → run.phase ≡ phase → run.is_over ≡ true → IsReported m.whole.network p.number f = λ phase h over.
          by_phase run same right.0 here knows phase h over in
          at_test (λ t. run.is_over ≡ t → ((w : ℕ) × IsReported m.whole.network w f) ⊎ IsGoingOn m.whole f) run.is_over
          (λ _ over. inl (p.number, told run.phase refl over))
          (λ _ going. inr (record { number = p.number; worker = p.worker; run = run; there = p.there; at = g; present = same; going = going })) refl
        where
          there : ◌≡◌ {A = Option Attempt} (Some run.attempt) (Some f) → run.attempt ≡ f
          there h = cc

          by_phase : (r : Execution) → r.attempt ≡ f → RunIsRight next m.whole.network p.number r → Among x (ends_of r.attempt next) →
              KnowsRun (setting_of s m.whole) next p.number p.worker r → (phase : Phase) → r.phase ≡ phase → r.is_over ≡ true → IsReported m.whole.network p.number f
          by_phase r same right here knows (HasEnded y) h over =
              subst (λ q. IsReported m.whole.network p.number q) same (right.told y h over (subst (λ q. same_attempt q main_attempt ≡ false) (sym same) other))
          by_phase r same right here knows (HasFaulted y) h over =
              let q = subst (λ z. KnowsPhase (setting_of s m.whole) next p.worker r z) h knows.phase in
              let sane : Sane next = legal_logs_are_sane (setting_of s m.whole) next d.legal in
              let once = sane.one_end r.attempt in
              let some = some_end r.attempt x here in
              let faulted : length (faults_of r.attempt next) ≡ 1 = ap length q.1 in
              absurd (omega (arith, once, some, faulted))
          by_phase r same right here knows Ready h over = absurd (no_end r.attempt x here (subst (λ z. KnowsPhase (setting_of s m.whole) next p.worker r z) h knows.phase).ended)
          by_phase r same right here knows (Out j) h over = absurd (no_end r.attempt x here (subst (λ z. KnowsPhase (setting_of s m.whole) next p.worker r z) h knows.phase).ended)
          by_phase r same right here knows (Waits y g) h over = absurd (no_end r.attempt x here (subst (λ z. KnowsPhase (setting_of s m.whole) next p.worker r z) h knows.phase).0.ended)

  ends_still : (f : Attempt) (x : List Outcome) → Among (Ended f x) next → same_attempt f main_attempt ≡ false →
      ((w : ℕ) × IsReported m.whole.network w f) ⊎ IsGoingOn m.whole f
  ends_still f x i other = elim (among-append_cases log (In e seat ∷ m.out.entries) (Ended f x) i) [
    | inl old ↦ by_old (k.ends f x old other)
    | inr new ↦ by_new new
  ]
    where
      by_old : ((w : ℕ) × IsReported c.network w f) ⊎ IsGoingOn c f → ((w : ℕ) × IsReported m.whole.network w f) ⊎ IsGoingOn m.whole f
      by_old (inl (w, r)) = inl (
        w,
        (
          r.0,
          r.1,
          subst (λ ls. Among (envelope (TheWorker w) (TheWorker f.object.owner) (Finished f r.0 r.1)) ls) (sym a.network)
              (among-more c.network m.out.envelopes _ r.2),
        ),
      )
      by_old (inr g) = elim (a.goes_on f g) [ inl h ↦ inr h | inr p ↦ settles f x i other p ]

      by_new : Among (Ended f x) (In e seat ∷ m.out.entries) → ((w : ℕ) × IsReported m.whole.network w f) ⊎ IsGoingOn m.whole f
      by_new (zero, h) = absurd (cc)
      by_new (suc j, h) = settles f x i other (a.ended f x (j, h))

  -- ---- whoever asked

  item_still : (i : ℕ) (l : Envelope) → item_at c.network i ≡ Some l → item_at m.whole.network i ≡ Some l
  item_still i l g = ap (λ ls. item_at ls i) a.network ∙ there_more c.network m.out.envelopes i l g

  same_envelope : (x y : Envelope) → ◌≡◌ {A = Option Envelope} (Some x) (Some y) → x ≡ y
  same_envelope x y f = cc

  -- what a delivery brought was in the network before
  brought_by : (l : Envelope) (i : ℕ) (u : Envelope) → item_at c.network i ≡ Some u → Among l (delivered_in m.whole.network (Deliver i)) → item_at c.network i ≡ Some l
  brought_by l i u at j =
      let f : delivered_in m.whole.network (Deliver i) ≡ u ∷ [] = ap envelopes_by (item_still i u at) in
      let same : l ≡ u = only (subst (λ ls. Among l ls) f j) in
      at ∙ ap (λ x. Some x) (sym same)
    where
      only : Among l (u ∷ []) → l ≡ u
      only (zero, g) = cc
      only (suc n, g) = absurd (cc)

  -- an event that brings an envelope is its delivery
  brings : (f : Event) (l : Envelope) (net : List Envelope) → Among l (delivered_in net f) → (i : ℕ) × (f ≡ Deliver i)
  brings (Deliver i) l net j = (i, refl)
  brings (Claim w) l net j = absurd (among-nothing l j)
  brings (Commit i) l net j = absurd (among-nothing l j)
  brings (Tick w) l net j = absurd (among-nothing l j)
  brings (Notice w v) l net j = absurd (among-nothing l j)
  brings (NoticeNode w n) l net j = absurd (among-nothing l j)
  brings (Evict n o) l net j = absurd (among-nothing l j)
  brings (Lose n o) l net j = absurd (among-nothing l j)
  brings (Kill w) l net j = absurd (among-nothing l j)
  brings (KillNode n) l net j = absurd (among-nothing l j)
  brings Join l net j = absurd (among-nothing l j)

  positive : (xs : List Object) (n : ℕ) (z : Object) → item_at xs n ≡ Some z → 1 ≤ n
  positive xs zero z f = absurd (cc)
  positive xs (suc n) z f = omega arith

  among_item : (i : ℕ) (l : Envelope) → item_at c.network i ≡ Some l → Among l c.network
  among_item zero l f = absurd (cc)
  among_item (suc i) l f = (i, f)

  askers_still : (v : ℕ) (y : Id) (n : Message) → Among (envelope (TheWorker v) (TheWorker y.owner) n) (came_by m.whole.network next) → IsRequest y n →
      (x : Worker) (z : Object) → worker_at m.whole y.owner ≡ Some x → x.is_live ≡ true → item_at x.objects y.serial ≡ Some z → IsAwaitedBy v z
  askers_still v y n i is x z at live there =
      let l : Envelope = envelope (TheWorker v) (TheWorker y.owner) n in
      let r = flat_among (delivered_in m.whole.network) (accepted_events next) l i in
      elim (among-append_cases (accepted_events log) (e ∷ []) r.0 (subst (λ es. Among r.0 es) accepted r.1)) [
        | inl old ↦ by_old r.0 old r.2
        | inr new ↦ by_new r.0 new r.2
      ]
    where
      by_old : (f : Event) → Among f (accepted_events log) → Among (envelope (TheWorker v) (TheWorker y.owner) n) (delivered_in m.whole.network f) → IsAwaitedBy v z
      by_old f old j =
          let l : Envelope = envelope (TheWorker v) (TheWorker y.owner) n in
          let q = brings f l m.whole.network j in
          let u = k.delivered q.0 (subst (λ g. Among g (accepted_events log)) q.1 old) in
          let was : item_at c.network q.0 ≡ Some l = brought_by l q.0 u.0 u.1 (subst (λ g. Among l (delivered_in m.whole.network g)) q.1 j) in
          let brought : Among l (delivered_in c.network (Deliver q.0)) = subst (λ o. Among l (envelopes_by o)) (sym was) (zero, refl) in
          let came : Among l (came_by c.network log) = among_flat (delivered_in c.network) (accepted_events log) (Deliver q.0) l (subst (λ g. Among g (accepted_events log)) q.1 old) brought in
          let born : IsBorn (births log) y = request_born s log c b k v y.owner y n (among_item q.0 l was) is in
          elim (a.objects y.owner x at live) [
            | inl o ↦ by_worker o came born
            | inr none ↦ empty none
          ]
        where
          by_worker : IsOfOld c y.owner x → Among (envelope (TheWorker v) (TheWorker y.owner) n) (came_by c.network log) → IsBorn (births log) y → IsAwaitedBy v z
          by_worker o came born =
              let w = owner_has s log c b y born o.worker o.there o.lived (positive x.objects y.serial z there) in
              let awaited : IsAwaitedBy v w.0 = k.askers v y n came is o.worker w.0 o.there o.lived w.1 in
              let g : IsGrown x.objects y.serial w.0 = o.grows y.serial w.0 w.1 in
              let same : g.object ≡ z = same_object g.object z (sym g.there ∙ there) in
              subst (IsAwaitedBy v) same (elim awaited [ inl t ↦ g.succeeds.askers v t | inr t ↦ inr (g.succeeds.answered t) ])
            where
              same_object : (p q : Object) → ◌≡◌ {A = Option Object} (Some p) (Some q) → p ≡ q
              same_object p q f = cc

          empty : x.objects ≡ [] → IsAwaitedBy v z
          empty none = nothing_there y.serial (sym (ap (λ ys. item_at ys y.serial) none) ∙ there)
            where
              nothing_there : (j : ℕ) → item_at [] j ≡ Some z → IsAwaitedBy v z
              nothing_there zero f = absurd (cc)
              nothing_there (suc j) f = absurd (cc)

      by_new : (f : Event) → Among f (e ∷ []) → Among (envelope (TheWorker v) (TheWorker y.owner) n) (delivered_in m.whole.network f) → IsAwaitedBy v z
      by_new f (suc j, g) i = absurd (cc)
      by_new f (zero, g) i =
          let same : e ≡ f = cc in
          let l : Envelope = envelope (TheWorker v) (TheWorker y.owner) n in
          let q = brings f l m.whole.network i in
          let is_delivery : e ≡ Deliver q.0 = same ∙ q.1 in
          let u = sent q.0 is_delivery in
          a.asked q.0 v y n is_delivery (brought_by l q.0 u.0 u.1 (subst (λ h. Among l (delivered_in m.whole.network h)) q.1 i)) is x z at live there

  delivered_still : (i : ℕ) → Among (Deliver i) (accepted_events next) → (l : Envelope) × (item_at m.whole.network i ≡ Some l)
  delivered_still i j = elim (among-append_cases (accepted_events log) (e ∷ []) (Deliver i) (subst (λ es. Among (Deliver i) es) accepted j)) [
    | inl old ↦ let u = k.delivered i old in (u.0, item_still i u.0 u.1)
    | inr new ↦ let u = sent i (only new) in (u.0, item_still i u.0 u.1)
  ]
    where
      only : Among (Deliver i) (e ∷ []) → e ≡ Deliver i
      only (zero, g) = cc
      only (suc n, g) = absurd (cc)

  pub advanced : KeepsReplies next m.whole
  advanced = record {
    envelopes = λ l i. elim (among-append_cases c.network m.out.envelopes l (subst (λ ls. Among l ls) a.network i)) [
      | inl old ↦ right_still l (k.envelopes l old)
      | inr new ↦ a.envelopes l new
    ];
    runs = λ w x run at is. (a.runs w x run at is).0;
    in_time = λ w x run at is. (a.runs w x run at is).1;
    delivered = delivered_still;
    askers = askers_still;
    ends = ends_still;
  }
