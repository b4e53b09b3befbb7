-- What a calm run tells of Pushes and Holds: an attempt that was pushed is the first of its object, and there is a first envelope of a kind.
use Rattle.std.proofs.Common.{ap, arith, inl, inr, length, List, None, Option, refl, Some, subst, suc, sym, zero, ℕ, ◌++◌, ◌+◌, ◌<◌, ◌∙◌, ◌∷◌, ◌≡◌}
use Rattle.meaning.specs.Births.{birth_at, same_id}
use Rattle.meaning.specs.Meaning.{replay, run_birth}
use Rattle.meaning.specs.Runs.{Over, Piece}
use Rattle.meaning.specs.Values.{Birth, Completion, Id, Outcome, outcomes, results_of, without_first}
use Rattle.event_log.specs.Breaks.{Among}
use Rattle.event_log.specs.Entries.{Attempt, Ended, Entry, main_object}
use Rattle.event_log.specs.Legal as L
use Rattle.event_log.specs.Legal.{opening}
use Rattle.event_log.specs.Rules.{Setting, Stops}
use Rattle.event_log.specs.Words.{answers_of, attempt, births, same_attempt, worker_of}
use Rattle.event_log.proofs.Extending.{births-more}
use Rattle.event_log.proofs.Finishing.{over_outcomes}
use Rattle.owed_replies.proofs.Delivered.{allowed_at}
use Rattle.std.specs.Prelude.{Bool, true, false, ◌==◌, ◌&&◌}
use Rattle.std.proofs.lemmas.Bool.{and_parts, both_ways, eq-eqb, eqb-true}
use Rattle.meaning.proofs.BirthLaws.{at_test, same_id-refl, same_id-true}
use Rattle.event_log.proofs.WordLaws.{same_attempt-refl, same_attempt-true}
use Rattle.protocol.specs.Messages.{Ask, At, Back, CopyOf, Elsewhere, Failed, Fetch, Finished, FinishedAck, Give, Gone, Hold, HoldAck, Envelope, envelope, Message}
use Rattle.protocol.specs.Messages.{Missing, Endpoint, Push, TheNode, TheWorker, Unhold, Wait, Where}
use Rattle.protocol.specs.Numbered.{item_at}
use Rattle.protocol.specs.Sets.{object_id}
use Rattle.protocol.specs.Tables.{AskedAt, AtRest, Beside, ByTask, ObjectSource, Object, OwnTask, Progress, RunsOn, WasPut, Worker, task_in, task_of}
use Rattle.protocol.specs.Cluster.{ClusterState, worker_at}
use Rattle.owed_asks.specs.of_protocol_legal.Knows.{KnowsSource, KnowsObject, KnowsProgress, KnowsTask}
use Rattle.owed_asks.specs.of_protocol_legal.Past.{past}
use Rattle.owed_asks.specs.of_protocol_legal.Whole.{Between}
use Rattle.protocol_owed.specs.Seen.{IsCalm}
use Rattle.owed_asks.specs.of_lease_discipline.Asks.{KeepsAsks, Touched}
use Rattle.owed_asks.proofs.of_lease_discipline.Heres.{by_number}
use Rattle.owed_replies.proofs.Quiet.{begun_first, knows_of, none_begun}

-- ---- the first of a kind

pub record IsFirst {X : Type 0} (test : X → Bool) (xs : List X) (from : ℕ) : Type 0 where
  pub number : ℕ
  pub item : X
  pub behind : from < number
  pub there : item_at xs number ≡ Some item
  pub passes : test item ≡ true
  pub between : (i : ℕ) (x : X) → from < i → i < number → item_at xs i ≡ Some x → test x ≡ true → ⊥

module _ {X : Type 0} (test : X → Bool) (xs : List X) (from last : ℕ) (x : X) (there : item_at xs last ≡ Some x) (passes : test x ≡ true) where
  none_so_far : ℕ → Type 0
  none_so_far f = (i : ℕ) (y : X) → from < i → i < f → item_at xs i ≡ Some y → test y ≡ true → ⊥

  next_none : (f : ℕ) → none_so_far f → ((y : X) → item_at xs f ≡ Some y → test y ≡ true → ⊥) → none_so_far (f + 1)
  unfolding none_so_far
  next_none f none here i y far below at t = elim (by_number i f) [
    | inl same ↦ here y (subst (λ j. item_at xs j ≡ Some y) same at) t
    | inr apart ↦ none i y far (less apart) at t
  ]
    where
      less : (i ≡ f → ⊥) → i < f
      less apart = omega (arith, below, apart)

  search_from : (left f : ℕ) → from < f → f + left ≡ last → none_so_far f → IsFirst test xs from
  unfolding none_so_far
  search_from zero f far e none =
      let same : f ≡ last = omega (arith, e) in
      record { number = f; item = x; behind = far; there = subst (λ i. item_at xs i ≡ Some x) (sym same) there; passes = passes; between = none }
  search_from (suc left) f far e none =
      let on : ((y : X) → item_at xs f ≡ Some y → test y ≡ true → ⊥) → IsFirst test xs from =
      λ here. search_from left (f + 1) (omega (arith, far)) (omega (arith, e)) (next_none f none here) in
      by_item on (item_at xs f) refl
    where
      found : (y : X) → item_at xs f ≡ Some y → test y ≡ true → IsFirst test xs from
      found y at t = record { number = f; item = y; behind = far; there = at; passes = t; between = none }

      other : (y z : X) → item_at xs f ≡ Some y → test y ≡ false → item_at xs f ≡ Some z → test z ≡ true → ⊥
      other y z at fails it t =
          let g : ◌≡◌ {A = Option X} (Some y) (Some z) = sym at ∙ it in
          let same : y ≡ z = cc in
          both_ways (test y) fails (subst (λ w. test w ≡ true) (sym same) t)

      by_item : (((y : X) → item_at xs f ≡ Some y → test y ≡ true → ⊥) → IsFirst test xs from) → (o : Option X) → item_at xs f ≡ o → IsFirst test xs from
      by_item on None at = on (λ y it t. let g : ◌≡◌ {A = Option X} None (Some y) = sym at ∙ it in absurd (cc))
      by_item on (Some y) at = at_test (λ b. test y ≡ b → IsFirst test xs from) (test y) (λ _ t. found y at t) (λ _ fails. on (λ z it t. other y z at fails it t)) refl

  -- what there is has a first
  pub first_behind : from < last → IsFirst test xs from
  unfolding none_so_far
  first_behind far = start (from + 1) refl
    where
      minus : (m k : ℕ) → k < m + 1 → (d : ℕ) × (k + d ≡ m)
      minus m zero e = (m, omega arith)
      minus zero (suc k) e = absurd (omega (arith, e))
      minus (suc m) (suc k) e = let r = minus m k (omega (arith, e)) in let f = r.1 in (r.0, omega (arith, f))

      start : (f : ℕ) → f ≡ from + 1 → IsFirst test xs from
      start f e =
          let left = minus last f (omega (arith, e, far)) in
          search_from left.0 f (omega (arith, e)) left.1 (λ i y up down at t. absurd (omega (arith, up, down, e)))

-- ---- a Push, a Hold

abbrev is_from : ℕ → Endpoint → Bool
is_from v (TheWorker w) = w == v
is_from v (TheNode n) = false

abbrev pushes_it : Attempt → Message → Bool
pushes_it a (Push b spec) = same_attempt b a
pushes_it a _ = false

-- it pushes the attempt
abbrev pub is_push_of : ℕ → Attempt → Envelope → Bool
is_push_of w a l = (is_from a.object.owner l.sender && is_from w l.receiver) && pushes_it a l.message

from_is : (v : ℕ) (q : Endpoint) → is_from v q ≡ true → q ≡ TheWorker v
from_is v (TheWorker w) e = ap TheWorker (eqb-true w v e)
from_is v (TheNode n) e = absurd (cc)

pushes_is : (a : Attempt) (m : Message) → pushes_it a m ≡ true → (spec : Birth) × (m ≡ Push a spec)
pushes_is a (Push b spec) e = (spec, ap (λ c. Push c spec) (same_attempt-true b a e))
pushes_is a (Ask b t) e = absurd (cc)
pushes_is a (Give b t v) e = absurd (cc)
pushes_is a (Elsewhere b t n) e = absurd (cc)
pushes_is a (Wait b t) e = absurd (cc)
pushes_is a (Back b) e = absurd (cc)
pushes_is a (Finished b n rs) e = absurd (cc)
pushes_is a (FinishedAck b) e = absurd (cc)
pushes_is a (Failed b f) e = absurd (cc)
pushes_is a (Where o) e = absurd (cc)
pushes_is a (At o number ns content) e = absurd (cc)
pushes_is a (Gone o f) e = absurd (cc)
pushes_is a (Fetch o number) e = absurd (cc)
pushes_is a (CopyOf o number c) e = absurd (cc)
pushes_is a (Missing o number n) e = absurd (cc)
pushes_is a (Hold h o) e = absurd (cc)
pushes_is a (HoldAck h o) e = absurd (cc)
pushes_is a (Unhold h o why) e = absurd (cc)

envelope_is : (l : Envelope) (v w : ℕ) (m : Message) → l.sender ≡ TheWorker v → l.receiver ≡ TheWorker w → l.message ≡ m → l ≡ envelope (TheWorker v) (TheWorker w) m
envelope_is l v w m e f g = ap (λ q. envelope q l.receiver l.message) e ∙ ap (λ q. envelope (TheWorker v) q l.message) f ∙ ap (envelope (TheWorker v) (TheWorker w)) g

pub push_is : (w : ℕ) (a : Attempt) (l : Envelope) → is_push_of w a l ≡ true → (spec : Birth) × (l ≡ envelope (TheWorker a.object.owner) (TheWorker w) (Push a spec))
push_is w a l e =
    let both = and_parts (is_from a.object.owner l.sender && is_from w l.receiver) (pushes_it a l.message) e in
    let ends = and_parts (is_from a.object.owner l.sender) (is_from w l.receiver) both.0 in
    let says = pushes_is a l.message both.1 in
    (says.0, envelope_is l a.object.owner w (Push a says.0) (from_is a.object.owner l.sender ends.0) (from_is w l.receiver ends.1) says.1)

pub is_push : (w : ℕ) (a : Attempt) (spec : Birth) → is_push_of w a (envelope (TheWorker a.object.owner) (TheWorker w) (Push a spec)) ≡ true
is_push w a spec =
    ap (λ t. (t && (w == w)) && same_attempt a a) (eq-eqb a.object.owner a.object.owner refl) ∙ ap (λ t. (true && t) && same_attempt a a) (eq-eqb w w refl) ∙
    same_attempt-refl a

abbrev holds_it : Id → Id → Message → Bool
holds_it e o (Hold f q) = same_id f e && same_id q o
holds_it e o _ = false

-- it is that Hold
abbrev pub is_hold_of : ℕ → Id → Id → Envelope → Bool
is_hold_of w e o l = (is_from w l.sender && is_from o.owner l.receiver) && holds_it e o l.message

holds_is : (e o : Id) (m : Message) → holds_it e o m ≡ true → m ≡ Hold e o
holds_is e o (Hold f q) t =
    let both = and_parts (same_id f e) (same_id q o) t in
    ap (λ z. Hold z q) (same_id-true f e both.0) ∙ ap (Hold e) (same_id-true q o both.1)
holds_is e o (Push b spec) t = absurd (cc)
holds_is e o (Ask b k) t = absurd (cc)
holds_is e o (Give b k v) t = absurd (cc)
holds_is e o (Elsewhere b k n) t = absurd (cc)
holds_is e o (Wait b k) t = absurd (cc)
holds_is e o (Back b) t = absurd (cc)
holds_is e o (Finished b n rs) t = absurd (cc)
holds_is e o (FinishedAck b) t = absurd (cc)
holds_is e o (Failed b f) t = absurd (cc)
holds_is e o (Where q) t = absurd (cc)
holds_is e o (At q number ns content) t = absurd (cc)
holds_is e o (Gone q f) t = absurd (cc)
holds_is e o (Fetch q number) t = absurd (cc)
holds_is e o (CopyOf q number c) t = absurd (cc)
holds_is e o (Missing q number n) t = absurd (cc)
holds_is e o (HoldAck h q) t = absurd (cc)
holds_is e o (Unhold h q why) t = absurd (cc)

pub hold_is : (w : ℕ) (e o : Id) (l : Envelope) → is_hold_of w e o l ≡ true → l ≡ envelope (TheWorker w) (TheWorker o.owner) (Hold e o)
hold_is w e o l t =
    let both = and_parts (is_from w l.sender && is_from o.owner l.receiver) (holds_it e o l.message) t in
    let ends = and_parts (is_from w l.sender) (is_from o.owner l.receiver) both.0 in
    envelope_is l w o.owner (Hold e o) (from_is w l.sender ends.0) (from_is o.owner l.receiver ends.1) (holds_is e o l.message both.1)

pub is_hold : (w : ℕ) (e o : Id) → is_hold_of w e o (envelope (TheWorker w) (TheWorker o.owner) (Hold e o)) ≡ true
is_hold w e o =
    ap (λ t. (t && (o.owner == o.owner)) && (same_id e e && same_id o o)) (eq-eqb w w refl) ∙
    ap (λ t. (true && t) && (same_id e e && same_id o o)) (eq-eqb o.owner o.owner refl) ∙ ap (λ t. t && same_id o o) (same_id-refl e) ∙ same_id-refl o

-- ---- an attempt that was pushed is the first

module _ (s : Setting) (log : List Entry) (c : ClusterState) (b : Between s log c) (asks : KeepsAsks c) (calm : IsCalm log) where
  same_id_of : (o : Id) → object_id o.owner o.serial ≡ o
  same_id_of o = refl

  -- every attempt of the object that was begun has the number 0
  pub only_first : (a : Attempt) → Touched c.network a → (number v : ℕ) → worker_of (attempt a.object number) log ≡ Some v → number ≡ 0
  only_first a touched number v ran =
      let o = asks.owned a touched in
      by_task o.0 o.1 (task_of (item_at o.0.objects a.object.serial)) refl
    where
      by_progress : (x : Worker) (z : Object) (task : OwnTask) → KnowsTask (past log b.asked) a.object x.objects task → (q : Progress) → task.progress ≡ q → number ≡ 0
      by_progress x z task k (AskedAt t m) e = absurd (none_begun s log c b calm a.object task x.objects t m number v k e ran)
      by_progress x z task k AtRest e =
          let q = subst (KnowsProgress (past log b.asked) a.object task) e k.progress in
          (begun_first s log c b calm a.object task q.0 q.1 number v q.2 k.begun ran).1
      by_progress x z task k (RunsOn w n) e =
          let q = subst (KnowsProgress (past log b.asked) a.object task) e k.progress in
          (begun_first s log c b calm a.object task w n number v q.0 k.begun ran).1

      by_object : (x : Worker) → worker_at c a.object.owner ≡ Some x → (p : Option Object) → item_at x.objects a.object.serial ≡ p → (task : OwnTask) →
          task_of p ≡ Some task → number ≡ 0
      by_object x at None there task e = absurd (cc)
      by_object x at (Some z) there task e = by_source z.source refl e
        where
          by_source : (m : ObjectSource) → z.source ≡ m → task_in m ≡ Some task → number ≡ 0
          by_source WasPut is f = absurd (cc)
          by_source (Beside j) is f = absurd (cc)
          by_source (ByTask other) is f =
              let k : KnowsObject (past log b.asked) x a.object z = knows_of s log c b calm a.object x z at there in
              let t : KnowsTask (past log b.asked) a.object x.objects other = (subst (KnowsSource (past log b.asked) x.node x.objects a.object z) is k.source).0 in
              by_progress x z other t other.progress refl

      by_task : (x : Worker) → worker_at c a.object.owner ≡ Some x → (p : Option OwnTask) → task_of (item_at x.objects a.object.serial) ≡ p → number ≡ 0
      by_task x at None e = absurd ((asks.owners a.object.owner x at).none a.object.serial a.number e touched)
      by_task x at (Some task) e = by_object x at (item_at x.objects a.object.serial) refl task e

  -- main was never pushed
  pub never_main : (a : Attempt) → Touched c.network a → a.object ≡ main_object → ⊥
  never_main a touched same =
      let o = asks.owned a touched in
      let at : worker_at c main_object.owner ≡ Some o.0 = ap (λ (z : Id). worker_at c z.owner) (sym same) ∙ o.1 in
      (asks.owners 1 o.0 at).none 0 a.number refl (subst (λ z. Touched c.network (attempt z a.number)) same touched)

-- ---- an end has a content for each result

outcomes-length : (n : ℕ) (e : Completion) → length (outcomes n e) ≡ n
outcomes-length zero e = refl
outcomes-length (suc n) e = ap suc (outcomes-length n (without_first e))

pub ends_with_all : (s : Setting) (log : List Entry) → L.Legal s log → (a : Attempt) (cs : List Outcome) (spec : Birth) → Among (Ended a cs) log →
    birth_at (births log) a.object ≡ Some spec → length cs ≡ results_of spec
ends_with_all s log legal a cs spec i born =
    let r = allowed_at s log legal (Ended a cs) (λ e. absurd (cc)) (λ e. absurd (cc)) i in
    let stops : Stops s (opening ++ r.0) a (Over cs) = r.1.stops in
    let known : birth_at (births log) a.object ≡ Some stops.replays.spec =
    subst (λ l. birth_at (births l) a.object ≡ Some stops.replays.spec) (sym r.3) (births-more (opening ++ r.0) (Ended a cs ∷ r.2) a.object stops.replays.spec stops.replays.born) in
    let same : stops.replays.spec ≡ spec = same_birth stops.replays.spec spec (sym known ∙ born) in
    let over : (replay s.script stops.replays.spec stops.base (answers_of a (opening ++ r.0))).stop ≡ Over cs = ap (λ (p : Piece). p.stop) (sym stops.replays.replayed) ∙ stops.stopped in
    let q = over_outcomes (results_of stops.replays.spec) (run_birth s.script stops.replays.spec) stops.base (answers_of a (opening ++ r.0)) cs over in
    ap length q.1 ∙ outcomes-length (results_of stops.replays.spec) q.0 ∙ ap results_of same
  where
    same_birth : (p q : Birth) → ◌≡◌ {A = Option Birth} (Some p) (Some q) → p ≡ q
    same_birth p q f = cc
