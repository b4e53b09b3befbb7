-- What tables say of a run in which nothing was killed or lost: no fault, no second attempt, and each content where it was made.
use Rattle.std.proofs.Common.{◌≡◌, ℕ, zero, suc, ◌+◌, ◌<◌, List, [], ◌∷◌, ◌++◌, length, Some, None, Option, refl, ap, sym, subst, ◌∙◌, inl, inr, arith}
use Rattle.std.specs.Prelude.{Bool, true, false, if◌then◌else◌, not, ◌==◌, ◌&&◌, ◌||◌, is_some, is_none, slice_get}
use Rattle.std.specs.List.{list_any}
use Rattle.std.specs.Option.{unwrap_or}
use Rattle.std.proofs.lemmas.Bool.Decides.{nat_tests}
use Rattle.meaning.proofs.BirthLaws.{at_test, first_is_made, same_id-true}
use Rattle.meaning.specs.Births.{Part, birth_at, objects_at, part_at, part_of, same_id}
use Rattle.meaning.specs.Values.{Birth, Id, Put, Task, Value, Outcome, results_of}
use Rattle.event_log.specs.Breaks.{Among, BreakRising, at_worker, CauseOf, Standing, breaks, breaks_from, breaks_of}
use Rattle.event_log.specs.Breaks.{is_some as some_of}
use Rattle.event_log.specs.Entries.{Accepted, Attempt, Claim, Commit, Deliver, Ended, Entry, Event, Evict, Fault, FaultKind, In, Join, Kill, KillNode, Lose, Notice}
use Rattle.event_log.specs.Entries.{NoticeNode, OwnerDied, PutLost, Released, RetriesUsed, Tick, Refused, Opened, Begun, Born, Got, Printed, Faulted, Resolved}
use Rattle.event_log.specs.Events.{accepted_events, is_killed, is_live, kills, kills_node, loses, node_is_killed, node_of, on_node, refused_next, was_lost}
use Rattle.event_log.specs.Rules.{Setting}
use Rattle.event_log.specs.Words.{accepted_in, accepts_of, attempt, births, released_in, releases_of, runs_of, worker_of, ends_of}
use Rattle.event_log.proofs.WordLaws.{same_attempt-refl}
use Rattle.owed_replies.proofs.Objects.{there_is}
use Rattle.event_log.specs.Sane.{Sane}
use Rattle.event_log.proofs.SaneLaws.{legal_logs_are_sane}
use Rattle.lease_discipline.proofs.of_protocol_legal.Placing.{lone}
use Rattle.values.specs.Cells.{if_small, is_small}
use Rattle.protocol.specs.Numbered.{item_at}
use Rattle.protocol.specs.Sets.{has, object_id}
use Rattle.protocol.specs.Tables.{AskedAt, AtRest, Beside, ByTask, ObjectSource, task_by, task_in, task_of, is_pending_task, Object, OwnTask, Progress, RunsOn, WasPut, Worker, has_content, is_under_way, settled_number, is_nowhere}
use Rattle.protocol.specs.Cluster.{ClusterState, worker_at}
use Rattle.lease_discipline.specs.of_protocol_legal.Knows.{IsBegun, IsPartOf, IsPlaced, IsSettled, IsTask, KnowsSource, KnowsObject, KnowsProgress, KnowsPut, KnowsResult}
use Rattle.lease_discipline.specs.of_protocol_legal.Knows.{KnowsTask, kept_until, once}
use Rattle.lease_discipline.specs.of_protocol_legal.Lost.{IsLost, RisingTo}
use Rattle.lease_discipline.specs.of_protocol_legal.Made.{IsMadeAt, EndsSmall}
use Rattle.lease_discipline.specs.of_protocol_legal.Past.{Past, past}
use Rattle.lease_discipline.specs.of_protocol_legal.Whole.{Between, setting_of}
use Rattle.protocol_owed.specs.Seen.{AcceptedAt, IsCalm, IsKnownAt, PutAt, is_failure}
use Rattle.lease_discipline.proofs.Told.{locations}
use Rattle.owed_replies.proofs.Advancing.{among_flat, flat_among}

-- ---- nothing breaks

any_none : (p : Event → Bool) → ((e : Event) → is_failure e ≡ false → p e ≡ false) → (es : List Event) → list_any is_failure es ≡ false → list_any p es ≡ false
any_none p fits [] h = refl
any_none p fits (e ∷ es) h =
    ap (λ b. b || list_any p es) (fits e (neither (is_failure e) (list_any is_failure es) h).0) ∙ any_none p fits es (neither (is_failure e) (list_any is_failure es) h).1
  where
    neither : (x y : Bool) → (x || y) ≡ false → (x ≡ false) × (y ≡ false)
    neither true y f = absurd (cc)
    neither false y f = (refl, f)

kills_none : (w n : ℕ) (e : Event) → is_failure e ≡ false → kills w n e ≡ false
kills_none w n (Kill v) h = absurd (cc)
kills_none w n (KillNode m) h = absurd (cc)
kills_none w n (Claim v) h = refl
kills_none w n (Commit j) h = refl
kills_none w n (Deliver k) h = refl
kills_none w n (Tick v) h = refl
kills_none w n (Notice v u) h = refl
kills_none w n (NoticeNode v m) h = refl
kills_none w n (Evict m o) h = refl
kills_none w n (Lose m o) h = refl
kills_none w n Join h = refl

node_none : (n : ℕ) (e : Event) → is_failure e ≡ false → kills_node n e ≡ false
node_none n (KillNode m) h = absurd (cc)
node_none n (Kill v) h = refl
node_none n (Claim v) h = refl
node_none n (Commit j) h = refl
node_none n (Deliver k) h = refl
node_none n (Tick v) h = refl
node_none n (Notice v u) h = refl
node_none n (NoticeNode v m) h = refl
node_none n (Evict m o) h = refl
node_none n (Lose m o) h = refl
node_none n Join h = refl

loses_none : (n : ℕ) (o : Id) (e : Event) → is_failure e ≡ false → loses n o e ≡ false
loses_none n o (Lose m p) h = absurd (cc)
loses_none n o (Kill v) h = refl
loses_none n o (KillNode m) h = refl
loses_none n o (Claim v) h = refl
loses_none n o (Commit j) h = refl
loses_none n o (Deliver k) h = refl
loses_none n o (Tick v) h = refl
loses_none n o (Notice v u) h = refl
loses_none n o (NoticeNode v m) h = refl
loses_none n o (Evict m p) h = refl
loses_none n o Join h = refl

losses_none : (n : ℕ) (os : List Id) (e : Event) → is_failure e ≡ false → list_any (λ o. loses n o e) os ≡ false
losses_none n [] e h = refl
losses_none n (o ∷ os) e h = ap (λ b. b || list_any (λ p. loses n p e) os) (loses_none n o e h) ∙ losses_none n os e h

breaks_none : (s : Standing) (ended : Bool) (e : Event) → is_failure e ≡ false → breaks s ended e ≡ false
breaks_none s ended e h =
    ap (λ b. (b && not s.is_accepted) || (ended && (kills_node s.node e || list_any (λ o. loses s.node o e) s.objects))) (kills_none s.worker s.node e h) ∙
    ap (λ b. ended && (b || list_any (λ o. loses s.node o e) s.objects)) (node_none s.node e h) ∙ ap (λ b. ended && b) (losses_none s.node s.objects e h) ∙ none ended
  where
    none : (b : Bool) → (b && false) ≡ false
    none true = refl
    none false = refl

pub tail_calm : (x : Entry) (rest : List Entry) → IsCalm (x ∷ rest) → IsCalm rest
unfolding accepted_events
tail_calm (In e seat) rest calm =
    at_test (λ b. list_any is_failure ((if b then [] else e ∷ []) ++ accepted_events rest) ≡ false → IsCalm rest) (refused_next rest)
    (λ _ h. h) (λ _ h. behind (is_failure e) (list_any is_failure (accepted_events rest)) h) calm
  where
    behind : (p q : Bool) → (p || q) ≡ false → q ≡ false
    behind true q h = absurd (cc)
    behind false q h = h
tail_calm (Refused code) rest calm = calm
tail_calm (Opened w n) rest calm = calm
tail_calm (Begun a w) rest calm = calm
tail_calm (Born o a b) rest calm = calm
tail_calm (Got a y c) rest calm = calm
tail_calm (Printed v) rest calm = calm
tail_calm (Ended a c) rest calm = calm
tail_calm (Accepted a) rest calm = calm
tail_calm (Faulted a y f) rest calm = calm
tail_calm (Resolved o f) rest calm = calm
tail_calm (Released o) rest calm = calm

head_calm : (e : Event) (seat : ℕ) (rest : List Entry) → IsCalm (In e seat ∷ rest) → refused_next rest ≡ false → is_failure e ≡ false
unfolding accepted_events
head_calm e seat rest calm accepted = first (is_failure e) (list_any is_failure (accepted_events rest))
    (subst (λ b. list_any is_failure ((if b then [] else e ∷ []) ++ accepted_events rest) ≡ false) accepted calm)
  where
    first : (p q : Bool) → (p || q) ≡ false → p ≡ false
    first true q h = h
    first false q h = refl

pub no_breaks : (s : Standing) (k : ℕ) (ended : Bool) (log : List Entry) → IsCalm log → breaks_from s k ended log ≡ []
unfolding breaks_from
no_breaks s k ended [] calm = refl
no_breaks s k ended (In e seat ∷ rest) calm =
    at_test (λ b. refused_next rest ≡ b → ((if not b && breaks s ended e then k ∷ [] else []) ++ breaks_from s (k + 1) ended rest) ≡ []) (refused_next rest)
    (λ _ _. no_breaks s (k + 1) ended rest (tail_calm (In e seat) rest calm))
    (λ _ accepted. ap (λ b. (if b then k ∷ [] else []) ++ breaks_from s (k + 1) ended rest) (breaks_none s ended e (head_calm e seat rest calm accepted)) ∙
    no_breaks s (k + 1) ended rest (tail_calm (In e seat) rest calm)) refl
no_breaks s k ended (Refused code ∷ rest) calm = no_breaks s (k + 1) _ rest (tail_calm (Refused code) rest calm)
no_breaks s k ended (Opened w n ∷ rest) calm = no_breaks s (k + 1) _ rest (tail_calm (Opened w n) rest calm)
no_breaks s k ended (Begun a w ∷ rest) calm = no_breaks s (k + 1) _ rest (tail_calm (Begun a w) rest calm)
no_breaks s k ended (Born o a b ∷ rest) calm = no_breaks s (k + 1) _ rest (tail_calm (Born o a b) rest calm)
no_breaks s k ended (Got a y c ∷ rest) calm = no_breaks s (k + 1) _ rest (tail_calm (Got a y c) rest calm)
no_breaks s k ended (Printed v ∷ rest) calm = no_breaks s (k + 1) _ rest (tail_calm (Printed v) rest calm)
no_breaks s k ended (Ended a c ∷ rest) calm = no_breaks s (k + 1) _ rest (tail_calm (Ended a c) rest calm)
no_breaks s k ended (Accepted a ∷ rest) calm = no_breaks s (k + 1) _ rest (tail_calm (Accepted a) rest calm)
no_breaks s k ended (Faulted a y f ∷ rest) calm = no_breaks s (k + 1) _ rest (tail_calm (Faulted a y f) rest calm)
no_breaks s k ended (Resolved o f ∷ rest) calm = no_breaks s (k + 1) _ rest (tail_calm (Resolved o f) rest calm)
no_breaks s k ended (Released o ∷ rest) calm = no_breaks s (k + 1) _ rest (tail_calm (Released o) rest calm)

nothing_in : {X : Type 0} (xs : List X) (x : X) → xs ≡ [] → Among x xs → ⊥
nothing_in {X} xs x e (k, f) = let g : ◌≡◌ {A = Option X} (slice_get [] k) (Some x) = ap (λ ys. slice_get ys k) (sym e) ∙ f in nowhere k g
  where
    nowhere : (i : ℕ) → ◌≡◌ {A = Option X} (slice_get [] i) (Some x) → ⊥
    nowhere zero g = cc
    nowhere (suc i) g = cc

module _ (log : List Entry) (calm : IsCalm log) where
  pub none_broken : (a : Attempt) (k : ℕ) → Among k (breaks_of a log) → ⊥
  unfolding breaks_of
  none_broken a k i = by_worker (worker_of a log) i
    where
      by_node : (w : ℕ) (o : Option ℕ) → Among k (at_worker o [] (λ n. breaks_from (record { attempt = a; worker = w; node = n; is_accepted = some_of (accepts_of a log); objects = objects_at (births log) a.object }) 0 false log)) → ⊥
      by_node w None j = nothing_in [] k refl j
      by_node w (Some n) j = nothing_in _ k (no_breaks (record { attempt = a; worker = w; node = n; is_accepted = some_of (accepts_of a log); objects = objects_at (births log) a.object }) 0 false log calm) j

      by_worker : (o : Option ℕ) → Among k (at_worker o [] (λ w. at_worker (node_of w log) [] (λ n. breaks_from (record { attempt = a; worker = w; node = n; is_accepted = some_of (accepts_of a log); objects = objects_at (births log) a.object }) 0 false log))) → ⊥
      by_worker None j = nothing_in [] k refl j
      by_worker (Some w) j = by_node w (node_of w log) j

  pub none_lost : (a : Attempt) → IsLost log a → ⊥
  none_lost a l = nothing_in _ l.place (no_breaks _ 0 false log calm) l.lost

  pub never_risen : (o : Id) (number cut : ℕ) → RisingTo log o number cut → number ≡ 0
  never_risen o zero cut r = refl
  never_risen o (suc number) cut r = absurd (none_broken (attempt o number) r.0 r.2)

  pub node_alive : (n : ℕ) → node_is_killed n log ≡ true → ⊥
  unfolding node_is_killed
  node_alive n h = let g : list_any (kills_node n) (accepted_events log) ≡ false = any_none (kills_node n) (node_none n) (accepted_events log) calm in cc

  pub worker_alive : (w : ℕ) → is_killed w log ≡ true → ⊥
  unfolding is_killed
  worker_alive w h = by_node (node_of w log) h
    where
      by_node : (o : Option ℕ) → on_node o false (λ n. list_any (kills w n) (accepted_events log)) ≡ true → ⊥
      by_node None g = cc
      by_node (Some n) g = let f : list_any (kills w n) (accepted_events log) ≡ false = any_none (kills w n) (kills_none w n) (accepted_events log) calm in cc

  pub opened_lives : (w n : ℕ) → node_of w log ≡ Some n → is_live w log ≡ true
  unfolding is_live
  opened_lives w n e =
      ap (λ o. on_node o false (λ m. not (list_any (kills w m) (accepted_events log)))) e ∙ ap not (any_none (kills w n) (kills_none w n) (accepted_events log) calm)

part_calm : (before after : List Entry) → IsCalm (before ++ after) → IsCalm after
part_calm [] after calm = calm
part_calm (x ∷ before) after calm = part_calm before after (tail_calm x (before ++ after) calm)

pub none_lost_put : (log : List Entry) → IsCalm log → (before after : List Entry) (n : ℕ) (o : Id) → log ≡ before ++ after → was_lost n o after ≡ true → ⊥
unfolding was_lost
none_lost_put log calm before after n o parts lost =
    let g : list_any (loses n o) (accepted_events after) ≡ false = any_none (loses n o) (loses_none n o) (accepted_events after) (part_calm before after (subst IsCalm parts calm)) in cc

pub no_cause : (log : List Entry) → IsCalm log → (kind : FaultKind) (z : Id) → CauseOf kind log z → ⊥
no_cause log calm OwnerDied z c = worker_alive log calm z.owner c
no_cause log calm PutLost z c = none_lost_put log calm c.before c.after c.node z c.parts c.lost
no_cause log calm RetriesUsed z c = by_places c.places c.all c.broken
  where
    by_places : (ks : List ℕ) → length ks ≡ c.retries + 1 → BreakRising log c.part.born.object 0 0 ks → ⊥
    by_places [] e b = absurd (omega (arith, e))
    by_places (k ∷ ks) e b = none_broken log calm (attempt c.part.born.object 0) k b.1

-- ---- what makes an object

-- the task that makes an object, and what is known of both; it stands with the first object
pub record IsMadeBy (p : Past) (y : Id) (x : Worker) (z : Object) : Type 0 where
  pub first : Id
  pub task : OwnTask
  pub place : ℕ
  pub makes : task_by x.objects z.source ≡ Some task
  pub there : task_of (item_at x.objects first.serial) ≡ Some task
  pub owner : first.owner ≡ y.owner
  pub serial : y.serial ≡ first.serial + place
  pub within : place < results_of task.spec
  pub knows : KnowsTask p first x.objects task
  pub part : IsPartOf p.log y first task.spec place
  pub result : KnowsResult p.log y first place z (is_pending_task task)

-- what was put, or a result of a task
pub data Origin (p : Past) (y : Id) (x : Worker) (z : Object) : Type 0 where
  OfPut : KnowsPut p.log x.node y z → Origin p y x z
  OfTask : IsMadeBy p y x z → Origin p y x z

pub origin_of : (p : Past) (y : Id) (x : Worker) (z : Object) → ((k : ℕ) (w : Object) → item_at x.objects k ≡ Some w → KnowsObject p x (object_id y.owner k) w) →
    item_at x.objects y.serial ≡ Some z → Origin p y x z
origin_of p y x z each there = by_source z.source refl (each y.serial z there).source
  where
    by_row : (k : ℕ) (task : OwnTask) → task_of (item_at x.objects k) ≡ Some task → KnowsTask p (object_id y.owner k) x.objects task
    by_row k task e = by_object (item_at x.objects k) refl e
      where
        by_made : (w : Object) (m : ObjectSource) → KnowsSource p x.node x.objects (object_id y.owner k) w m →
            task_in m ≡ Some task → KnowsTask p (object_id y.owner k) x.objects task
        by_made w WasPut q f = absurd (cc)
        by_made w (ByTask other) q f = let same : other ≡ task = cc in subst (KnowsTask p (object_id y.owner k) x.objects) same q.0
        by_made w (Beside j) q f = absurd (cc)

        by_object : (o : Option Object) → item_at x.objects k ≡ o → task_of o ≡ Some task → KnowsTask p (object_id y.owner k) x.objects task
        by_object None i f = absurd (cc)
        by_object (Some w) i f = by_made w w.source (each k w i).source f

    by_source : (m : ObjectSource) → z.source ≡ m → KnowsSource p x.node x.objects y z m → Origin p y x z
    by_source WasPut e q = OfPut q
    by_source (ByTask task) e q = OfTask (record {
      first = y;
      task = task;
      place = q.1.0;
      makes = ap (task_by x.objects) e;
      there = ap task_of there ∙ ap task_in e;
      owner = refl;
      serial = q.1.2;
      within = q.1.1;
      knows = q.0;
      part = q.1.3;
      result = q.1.4;
    })
    by_source (Beside k) e q = OfTask (record {
      first = object_id y.owner k;
      task = q.0;
      place = q.2.0;
      makes = ap (task_by x.objects) e ∙ q.1;
      there = q.1;
      owner = refl;
      serial = q.2.2;
      within = q.2.1;
      knows = by_row k q.0 q.1;
      part = q.2.3;
      result = q.2.4;
    })

-- ---- what an owner's table says

-- no test finds it
none_there : (xs : List ℕ) → ((n : ℕ) → has xs n ≡ true → ⊥) → xs ≡ []
none_there [] h = refl
none_there (x ∷ xs) h = absurd (h x (ap (λ b. b || has xs x) (equal x)))
  where
    equal : (n : ℕ) → (n == n) ≡ true
    equal n = grind (arith, nat_tests)

-- the object has its content, of that number: its owner keeps it, or it has a place at that node
pub record HasContentAt (z : Object) (number n : ℕ) : Type 0 where
  pub settled : z.settled ≡ Some number
  pub unfaulted : z.fault ≡ None
  pub whole : has_content z ≡ true
  pub number_is : settled_number z ≡ number
  pub place : z.kept ≡ None → has z.locations n ≡ true

-- and where the owner doesn't keep it, it isn't small
abbrev pub IsHad : List Entry → Id → Object → ℕ → ℕ → Type 0
IsHad log y z number n = HasContentAt z number n × (z.kept ≡ None → EndsSmall log y number → ⊥)

module _ (s : Setting) (log : List Entry) (c : ClusterState) (b : Between s log c) (calm : IsCalm log) where
  pub all_live : (w : ℕ) (x : Worker) → worker_at c w ≡ Some x → x.is_live ≡ true
  all_live w x at = sym (b.knows.lives w x at) ∙ opened_lives log calm w x.node (locations s log c b w x at)

  pub no_dead_nodes : (w : ℕ) (x : Worker) → worker_at c w ≡ Some x → x.dead_nodes ≡ []
  no_dead_nodes w x at = none_there x.dead_nodes (λ n h. node_alive log calm n ((b.knows.workers w x at (all_live w x at)).dead_nodes n h))

  pub no_dead_workers : (w : ℕ) (x : Worker) → worker_at c w ≡ Some x → (v : ℕ) → has x.dead_workers v ≡ true → ⊥
  no_dead_workers w x at v h = worker_alive log calm v ((b.knows.workers w x at (all_live w x at)).dead v h)

  pub knows_of : (y : Id) (x : Worker) (z : Object) → worker_at c y.owner ≡ Some x → item_at x.objects y.serial ≡ Some z → KnowsObject (past log b.asked) x y z
  knows_of y x z at there = (b.knows.workers y.owner x at (all_live y.owner x at)).objects y.serial z there

  pub no_fault : (y : Id) (x : Worker) (z : Object) → worker_at c y.owner ≡ Some x → item_at x.objects y.serial ≡ Some z → z.fault ≡ None
  no_fault y x z at there = by_fault z.fault refl
    where
      by_fault : (f : Option Fault) → z.fault ≡ f → z.fault ≡ None
      by_fault None e = e
      by_fault (Some f) e = absurd (no_cause log calm f.kind f.object ((knows_of y x z at there).known f e).cause)

  pub released_among : (y : Id) → Among y (releases_of y log) → Among (Released y) log
  released_among y i = let r = flat_among (released_in y) log y i in by_entry r.0 r.2 r.1
    where
      by_entry : (x : Entry) → Among y (released_in y x) → Among x log → Among (Released y) log
      by_entry (Released p) j k = at_test (λ t. same_id p y ≡ t → Among y (if t then p ∷ [] else []) → Among (Released y) log) (same_id p y)
          (λ _ e _. subst (λ q. Among (Released q) log) (same_id-true p y e) k) (λ _ _ h. absurd (nothing_in [] y refl h)) refl j
      by_entry (In e seat) j k = absurd (nothing_in [] y refl j)
      by_entry (Refused code) j k = absurd (nothing_in [] y refl j)
      by_entry (Opened w n) j k = absurd (nothing_in [] y refl j)
      by_entry (Begun a w) j k = absurd (nothing_in [] y refl j)
      by_entry (Born o a d) j k = absurd (nothing_in [] y refl j)
      by_entry (Got a o d) j k = absurd (nothing_in [] y refl j)
      by_entry (Printed v) j k = absurd (nothing_in [] y refl j)
      by_entry (Ended a d) j k = absurd (nothing_in [] y refl j)
      by_entry (Accepted a) j k = absurd (nothing_in [] y refl j)
      by_entry (Faulted a o f) j k = absurd (nothing_in [] y refl j)
      by_entry (Resolved o f) j k = absurd (nothing_in [] y refl j)

  pub not_released : (y : Id) (x : Worker) (z : Object) → worker_at c y.owner ≡ Some x → item_at x.objects y.serial ≡ Some z → (Among (Released y) log → ⊥) → z.is_released ≡ false
  not_released y x z at there unreleased = by_mark z.is_released refl
    where
      by_mark : (t : Bool) → z.is_released ≡ t → z.is_released ≡ false
      by_mark false e = e
      by_mark true e =
          let f : releases_of y log ≡ once true y = (knows_of y x z at there).released ∙ ap (λ t. once t y) e in
          absurd (unreleased (released_among y (subst (λ xs. Among y xs) (sym f) (zero, refl))))

  pub same_contents : (a : Attempt) (cs ds : List Outcome) → Among cs (ends_of a log) → Among ds (ends_of a log) → cs ≡ ds
  same_contents a cs ds i j =
      let sane : Sane log = legal_logs_are_sane (setting_of s c) log b.legal in
      lone (ends_of a log) (let l = sane.one_end a in omega (arith, l)) cs ds i j

  content_there : (z : Object) (number n : ℕ) → z.settled ≡ Some number → z.fault ≡ None → z.is_released ≡ false → (z.kept ≡ None → has z.locations n ≡ true) →
      HasContentAt z number n
  content_there z number n settled unfaulted kept place = record {
    settled = settled;
    unfaulted = unfaulted;
    whole = ap (λ o. is_some o && is_none z.fault && not z.is_released && not (is_nowhere z)) settled ∙
        ap (λ o. true && is_none o && not z.is_released && not (is_nowhere z)) unfaulted ∙
        ap (λ t. true && true && not t && not (is_nowhere z)) kept ∙ ap (λ t. true && true && true && not t) (there_is z.locations n z.kept place);
    number_is = ap (λ o. unwrap_or o 0) settled;
    place = place;
  }

  pub same_node : (m n : ℕ) → ◌≡◌ {A = Option ℕ} (Some m) (Some n) → m ≡ n
  same_node m n e = cc

  below_length : (xs : List ℕ) (k w : ℕ) → slice_get xs k ≡ Some w → k < length xs
  below_length [] k w e = absurd (cc)
  below_length (x ∷ xs) zero w e = omega arith
  below_length (x ∷ xs) (suc k) w e = let r = below_length xs k w e in omega (arith, r)

  pub accepted_among : (a : Attempt) → Among (Accepted a) log → Among a (accepts_of a log)
  accepted_among a i = among_flat (accepted_in a) log (Accepted a) a i (subst (λ t. Among a (if t then a ∷ [] else [])) (sym (same_attempt-refl a)) (zero, refl))

  -- the present attempt is the first one, and no other was begun
  pub begun_first : (y : Id) (task : OwnTask) (w n number v : ℕ) → IsBegun (past log b.asked) y task w n → runs_of y log ≡ task.begun → worker_of (attempt y number) log ≡ Some v →
      (task.number ≡ 0) × (number ≡ 0) × (v ≡ w)
  begun_first y task w n number v begun runs ran =
      let first : task.number ≡ 0 = never_risen log calm y task.number begun.place begun.rising in
      let there : slice_get task.begun number ≡ Some v = ap (λ xs. slice_get xs number) (sym runs) ∙ ran in
      let below : number < length task.begun = below_length task.begun number v there in
      let count = begun.count in
      let none : number ≡ 0 = omega (arith, first, below, count) in
      (first, none, same_node v w (sym there ∙ ap (slice_get task.begun) (none ∙ sym first) ∙ begun.runs))

  pub none_begun : (y : Id) (task : OwnTask) (objects : List Object) (t m number v : ℕ) → KnowsTask (past log b.asked) y objects task →
      task.progress ≡ AskedAt t m → worker_of (attempt y number) log ≡ Some v → ⊥
  none_begun y task objects t m number v knows asked ran =
      let q = subst (KnowsProgress (past log b.asked) y task) asked knows.progress in
      let first : task.number ≡ 0 = never_risen log calm y task.number q.1.0 (q.2 q.1.0 q.1.1) in
      let there : slice_get task.begun number ≡ Some v = ap (λ xs. slice_get xs number) (sym knows.begun) ∙ ran in
      let below = below_length task.begun number v there in
      let count = q.0 in
      omega (arith, first, below, count)

  -- what an object of a table is
  abbrev pub MadeBy : Id → Worker → Object → Type 0
  MadeBy y x z = IsMadeBy (past log b.asked) y x z

  pub origin : (y : Id) (x : Worker) (z : Object) → worker_at c y.owner ≡ Some x → item_at x.objects y.serial ≡ Some z → Origin (past log b.asked) y x z
  origin y x z at there = origin_of (past log b.asked) y x z (λ k w i. knows_of (object_id y.owner k) x w at i) there

  pub same_part : (u v : Part) → ◌≡◌ {A = Option Part} (Some u) (Some v) → u ≡ v
  same_part u v e = cc

  pub put_no_task : (spec : Birth) (v : Value) → IsTask spec → spec ≡ Put v → ⊥
  put_no_task (Put u) v t e = t
  put_no_task (Task g args depth retries others) v t e = cc

  -- what was put is no result of a task
  pub no_result : (y : Id) (x : Worker) (z : Object) → worker_at c y.owner ≡ Some x → item_at x.objects y.serial ≡ Some z → (v : Value) →
      birth_at (births log) y ≡ Some (Put v) → MadeBy y x z → ⊥
  no_result y x z at there v put m =
      let sane : Sane log = legal_logs_are_sane (setting_of s c) log b.legal in
      let same : part_of (record { object = y; birth = Put v }) y ≡ record { born = record { object = m.first; birth = m.task.spec }; place = m.place } =
      same_part _ _ (sym (sane.grouped.whole y y (Put v) put (first_is_made (record { object = y; birth = Put v }))) ∙ m.part) in
      put_no_task m.task.spec v m.knows.is_task (sym (ap (λ (p : Part). p.born.birth) same))

  -- the part of what was put
  pub no_run : (y : Id) (x : Worker) (z : Object) (part : Part) (number w : ℕ) → worker_at c y.owner ≡ Some x → item_at x.objects y.serial ≡ Some z → KnowsPut log x.node y z →
      part_at (births log) y ≡ Some part → worker_of (attempt part.born.object number) log ≡ Some w → ⊥
  no_run y x z part number w at there k born ran =
      let same : part ≡ record { born = record { object = y; birth = Put k.value }; place = 0 } = same_part _ _ (sym born ∙ k.part) in
      nothing_in [] w refl (number, ap (λ xs. slice_get xs number) (sym k.unbegun) ∙ ap (λ (p : Part). worker_of (attempt p.born.object number) log) (sym same) ∙ ran)

  -- of a result it is the part of its task
  pub part_is : (y : Id) (x : Worker) (z : Object) (m : MadeBy y x z) (part : Part) → part_at (births log) y ≡ Some part →
      part ≡ record { born = record { object = m.first; birth = m.task.spec }; place = m.place }
  part_is y x z m part born = same_part _ _ (sym born ∙ m.part)

  -- what was made of a content whose place is known was made there
  pub same_home : (y : Id) (x : Worker) (z : Object) (number n home : ℕ) → worker_at c y.owner ≡ Some x → item_at x.objects y.serial ≡ Some z →
      IsKnownAt log y number n → IsMadeAt log y number home → home ≡ n
  same_home y x z number n home at there (inl p) (inl q) = same_node home n (sym q.home ∙ p.place)
  same_home y x z number n home at there (inr p) (inr q) =
      let same : q.part ≡ p.part = same_part _ _ (sym q.result.born ∙ p.born) in
      let ran : worker_of (attempt p.part.born.object number) log ≡ Some q.worker =
      ap (λ (u : Part). worker_of (attempt u.born.object number) log) (sym same) ∙ q.runs in
      same_node home n (sym q.home ∙ ap (λ w. node_of w log) (same_node q.worker p.worker (sym ran ∙ p.ran)) ∙ p.place)
  same_home y x z number n home at there (inl p) (inr q) = absurd (by_origin (origin y x z at there))
    where
      by_origin : Origin (past log b.asked) y x z → ⊥
      by_origin (OfPut k) = no_run y x z q.part number q.worker at there k q.result.born q.runs
      by_origin (OfTask m) = no_result y x z at there p.value p.put m
  same_home y x z number n home at there (inr p) (inl q) = absurd (by_origin (origin y x z at there))
    where
      by_origin : Origin (past log b.asked) y x z → ⊥
      by_origin (OfPut k) = no_run y x z p.part number p.worker at there k p.born p.ran
      by_origin (OfTask m) = no_result y x z at there q.value q.born m

  -- a result whose content was put in no store, small as it is, is kept by its owner
  pub kept_if_small : (y : Id) (number : ℕ) (part : Part) (content : Outcome) (kept : Option Outcome) → part_at (births log) y ≡ Some part →
      (contents : List Outcome) → Among contents (ends_of (attempt part.born.object number) log) → slice_get contents part.place ≡ Some content →
      kept ≡ if_small content → kept ≡ None → EndsSmall log y number → ⊥
  kept_if_small y number part content kept born contents ended has is none small =
      let same : small.0 ≡ part = same_part _ _ (sym small.2.born ∙ born) in
      let other : Among small.2.contents (ends_of (attempt part.born.object number) log) =
      subst (λ (u : Part). Among small.2.contents (ends_of (attempt u.born.object number) log)) same small.2.ended in
      let all : small.2.contents ≡ contents = same_contents (attempt part.born.object number) _ _ other ended in
      let there : ◌≡◌ {A = Option Outcome} (Some small.1) (Some content) =
      sym small.2.content ∙ ap (λ cs. slice_get cs small.0.place) all ∙ ap (λ (u : Part). slice_get contents u.place) same ∙ has in
      let one : small.1 ≡ content = cc in
      let some : if_small content ≡ Some content = ap (λ t. if t then Some content else None) (ap is_small (sym one) ∙ small.3) in
      absurd (cc)

  pub put_known : (y : Id) (x : Worker) (z : Object) (number n : ℕ) → worker_at c y.owner ≡ Some x → item_at x.objects y.serial ≡ Some z → (Among (Released y) log → ⊥) →
      IsKnownAt log y number n → IsHad log y z number n
  put_known y x z number n at there unreleased known = by_origin (origin y x z at there) known
    where
      unfaulted : z.fault ≡ None
      unfaulted = no_fault y x z at there

      kept : z.is_released ≡ false
      kept = not_released y x z at there unreleased

      put_here : KnowsPut log x.node y z → PutAt log y number n → IsHad log y z number n
      put_here k p =
          let home : x.node ≡ n = same_node x.node n (sym (locations s log c b y.owner x at) ∙ p.place) in
          let where_is : has z.locations n ≡ true = elim (k.placed unfaulted kept) [
            | inl e ↦ subst (λ m. has z.locations m ≡ true) home e
            | inr l ↦ absurd (none_lost_put log calm l.before l.after x.node y l.parts l.lost)
          ] in
          (content_there z number n (k.settled ∙ ap (λ m. Some m) (sym p.first)) unfaulted kept (λ _. where_is), λ _ small. not_run small)
        where
          not_run : EndsSmall log y number → ⊥
          not_run small =
              let sane : Sane log = legal_logs_are_sane (setting_of s c) log b.legal in
              let a : Attempt = attempt small.0.born.object number in
              let r = sane.ended a small.2.ended.0 small.2.contents small.2.ended.1 in
              no_run y x z small.0 number r.0 at there k small.2.born r.1

      -- its task's attempt is the first one, which is accepted: so it is at rest
      rested : (m : MadeBy y x z) → (a : AcceptedAt log y number n) → (q : Progress) → m.task.progress ≡ q → IsHad log y z number n
      rested m a q e =
          let same : a.part ≡ record { born = record { object = m.first; birth = m.task.spec }; place = m.place } = part_is y x z m a.part a.born in
          let ran : worker_of (attempt m.first number) log ≡ Some a.worker =
          ap (λ (u : Part). worker_of (attempt u.born.object number) log) (sym same) ∙ a.ran in
          let accepted : Among (Accepted (attempt m.first number)) log =
          subst (λ (u : Part). Among (Accepted (attempt u.born.object number)) log) same a.accepted in
          by_progress ran accepted q e
        where
          by_place : (settled : IsSettled log m.first m.place z) → (placed : IsPlaced log m.first settled.number z) → number ≡ 0 → placed.node ≡ n → settled.number ≡ 0 →
              IsHad log y z number n
          by_place settled placed none_before node first =
              let same : settled.number ≡ number = first ∙ sym none_before in
              let where_is : z.kept ≡ None → has z.locations n ≡ true = λ none. elim (placed.there none) [
                | inl f ↦ subst (λ i. has z.locations i ≡ true) node f
                | inr l ↦ absurd (none_lost log calm _ l)
              ] in
              let acc = settled.accepted in (
                content_there z number n (settled.settled ∙ ap (λ i. Some i) same) unfaulted kept where_is,
                λ none small. kept_if_small y number (record { born = record { object = m.first; birth = m.task.spec }; place = m.place }) acc.content z.kept m.part acc.contents
                    (subst (λ i. Among acc.contents (ends_of (attempt m.first i) log)) same acc.ended) acc.has (acc.small ∙ ap (λ t. kept_until t acc.content) kept) none small,
              )

          by_progress : worker_of (attempt m.first number) log ≡ Some a.worker → Among (Accepted (attempt m.first number)) log → (q : Progress) → m.task.progress ≡ q →
              IsHad log y z number n
          by_progress ran accepted (AskedAt t i) e = absurd (none_begun m.first m.task x.objects t i number a.worker m.knows e ran)
          by_progress ran accepted (RunsOn w i) e =
              let q = subst (KnowsProgress (past log b.asked) m.first m.task) e m.knows.progress in
              let r = begun_first m.first m.task w i number a.worker q.0 m.knows.begun ran in
              let same : number ≡ m.task.number = r.1 ∙ sym r.0 in
              absurd (nothing_in (accepts_of (attempt m.first m.task.number) log) (attempt m.first m.task.number) q.1
              (accepted_among (attempt m.first m.task.number) (subst (λ j. Among (Accepted (attempt m.first j)) log) same accepted)))
          by_progress ran accepted AtRest e =
              let q = subst (KnowsProgress (past log b.asked) m.first m.task) e m.knows.progress in
              let r = begun_first m.first m.task q.0 q.1 number a.worker q.2 m.knows.begun ran in
              let settled : IsSettled log m.first m.place z = m.result.rests (ap is_under_way e) unfaulted in
              elim (settled.placed kept) [
                | inr spent ↦ absurd (no_cause log calm RetriesUsed spent.object spent.known.cause)
                | inl placed ↦ by_place settled placed r.1
                    (same_node placed.node n (sym placed.home ∙ ap (λ w. node_of w log)
                    ((begun_first m.first m.task q.0 q.1 settled.number placed.worker q.2 m.knows.begun placed.runs).2 ∙ sym r.2) ∙ a.place))
                    (begun_first m.first m.task q.0 q.1 settled.number placed.worker q.2 m.knows.begun placed.runs).1
              ]

      by_origin : Origin (past log b.asked) y x z → IsKnownAt log y number n → IsHad log y z number n
      by_origin (OfPut k) (inl p) = put_here k p
      by_origin (OfPut k) (inr a) = absurd (no_run y x z a.part number a.worker at there k a.born a.ran)
      by_origin (OfTask m) (inl p) = absurd (no_result y x z at there p.value p.put m)
      by_origin (OfTask m) (inr a) = rested m a m.task.progress refl
