-- What each event adds to the workers and objects, in tables and log alike.
use Rattle.std.proofs.Common.{◌≡◌, ◌≤◌, ℕ, zero, suc, ◌+◌, List, [], ◌∷◌, ◌++◌, length, map, Option, Some, None, refl, sym, ap, ◌∙◌, subst, arith, length-append}
use Rattle.std.specs.Prelude.{Bool, true, false, if◌then◌else◌, not, ◌&&◌}
use Rattle.std.specs.List.{flat_map}
use Rattle.sequence.proofs.Places.{and_right}
use Rattle.meaning.specs.Values.{Id, Outcome}
use Rattle.event_log.specs.Entries.{Claim, Commit, Deliver, Entry, Event, Evict, Join, Kill, KillNode, Lose, Notice, NoticeNode, Tick}
use Rattle.event_log.specs.Entries.{Refusal, NoJob, Stale}
use Rattle.event_log.specs.Rules.{Setting}
use Rattle.event_log.specs.Words.{born_in, opened}
use Rattle.step_laws.specs.Opens.{one_if}
use Rattle.step_laws.proofs.Openings.{death_open, reached_open}
use Rattle.step_laws.proofs.Lists.{changed-length}
use Rattle.step_laws.proofs.Committing.{commit_opens}
use Rattle.step_laws.proofs.OneOpens.{claim_opens, notice_node_opens, notice_opens, reached_opens, tick_opens}
use Rattle.step_laws.proofs.Releasing.{release_opens_none}
use Rattle.protocol.specs.Commits.{claim_by, claim_step, commit_step}
use Rattle.protocol.specs.Deliveries.{reached}
use Rattle.protocol.specs.Events.{committed_by, dead, delivered_by, delivered_to, dies_with, happens, is_live_node, is_live_worker, killed_by, with_committed}
use Rattle.protocol.specs.Events.{objects_made, with_delivered}
use Rattle.protocol.specs.Jobs.{JobRecord, CommitInput, Nothing, OfAnother, OfJob}
use Rattle.protocol.specs.Messages.{Ask, At, Back, CopyOf, Elsewhere, Failed, Fetch, Finished, FinishedAck, Give, Gone, Hold, HoldAck, Envelope, Message, Missing}
use Rattle.protocol.specs.Messages.{Endpoint, Push, TheNode, TheWorker, Unhold, Wait, Where}
use Rattle.protocol.specs.Nodes.{Node, NodeContext}
use Rattle.protocol.specs.Notices.{notice_node_step, notice_step}
use Rattle.protocol.specs.Numbered.{changed_at, item_at}
use Rattle.protocol.specs.Refusals.{commit_refusal, is_of_job, is_out_by, or_refusal, refusal, unless}
use Rattle.protocol.specs.Releases.{release_step}
use Rattle.protocol.specs.Sets.{repeated}
use Rattle.protocol.specs.Slots.{ask_key, fetched, forgets, node_reached, node_reached_from, reply_to}
use Rattle.protocol.specs.Steps.{WorkerContext}
use Rattle.protocol.specs.Stores.{copy_in}
use Rattle.protocol.specs.Tables.{Execution, Worker, new_worker}
use Rattle.protocol.specs.Ticks.{tick_step}
use Rattle.protocol.specs.Cluster.{Transition, ClusterState, after_node, after_worker, here, moved, node_at, node_does, node_does_by, there, worker_at, worker_does, worker_does_at}
use Rattle.protocol.specs.Cluster.{worker_does_by}
use Rattle.owed_laws.specs.of_protocol_laws.Sound.{IsSound}
use Rattle.protocol_owed.proofs.CourseAll.{LiveOne, both_passed, live_one, passed}
use Rattle.protocol_owed.proofs.CourseRuns.{OutOf, out_of}
use Rattle.smallest_steps.proofs.SlotMoves as S
use Rattle.owed_laws.proofs.StoreMoves as M
use Rattle.owed_laws.proofs.StoreMoves.{IsKept}
use Rattle.count_laws.specs.Counts.{borne, objects_born}
use Rattle.count_laws.proofs.Added.{Adds, commit_adds, here_adds, there_adds}

-- so many objects more, each of them logged, and as many workers more as are logged, one at most
pub record Grows (c : ClusterState) (k : ℕ) (m : Transition) : Type 0 where
  pub workers : length m.whole.workers ≡ length c.workers + length (opened m.out.entries)
  pub made : m.whole.made ≡ c.made + k
  pub born : objects_born (flat_map born_in m.out.entries) ≡ k
  pub few : length (opened m.out.entries) ≤ 1

long_repeated : (n : ℕ) (z : Worker) → length (repeated n z) ≡ n
long_repeated zero z = refl
long_repeated (suc n) z = ap suc (long_repeated n z)

long_mapped : (f : Worker → Worker) (xs : List Worker) → length (map f xs) ≡ length xs
long_mapped f [] = refl
long_mapped f (x ∷ xs) = ap suc (long_mapped f xs)

one_at_most : (b : Bool) (n : ℕ) → n ≡ 0 + one_if b → n ≤ 1
one_at_most true n e = omega (arith, e)
one_at_most false n e = omega (arith, e)

none_more : (n m : ℕ) → n ≡ m → n ≡ m + 0
none_more n m e = omega (arith, e)

module _ (c : ClusterState) where
  still : (d : ClusterState) → length d.workers ≡ length c.workers → d.made ≡ c.made → Grows c 0 (moved d)
  still d e f = record { workers = none_more _ _ e; made = none_more _ _ f; born = refl; few = omega (arith) }

  put_back : (d : ClusterState) (n k : ℕ) (t : NodeContext) → length d.workers ≡ length c.workers → d.made ≡ c.made + k → Adds k t → t.opened ≤ 1 → Grows c k (after_node d n t)
  put_back d n k t long made p few = record {
    workers = counts (length c.workers) (length d.workers) t.opened (length (repeated t.opened (new_worker n))) (length (opened t.out.entries)) _ long p.opens
        (long_repeated t.opened (new_worker n)) (length-append d.workers (repeated t.opened (new_worker n)));
    made = made;
    born = p.born;
    few = no_more_than (length (opened t.out.entries)) t.opened p.opens few;
  }
    where
      no_more_than : (n m : ℕ) → n ≡ m → m ≤ 1 → n ≤ 1
      no_more_than n m e f = omega (arith, e, f)

      counts : (n m i j k l : ℕ) → m ≡ n → k ≡ i → j ≡ i → l ≡ m + j → l ≡ n + k
      counts n m i j k l e f g h = omega (arith, e, f, g, h)

  begun : (d : ClusterState) (n : ℕ) (node : Node) → Adds 0 (there d n node)
  begun d n node = record { born = refl; opens = refl }

  node_grows : (d : ClusterState) (n : ℕ) (f : NodeContext → NodeContext) → length d.workers ≡ length c.workers → d.made ≡ c.made → ((node : Node) → Adds 0 (f (there d n node))) →
      ((node : Node) → (f (there d n node)).opened ≤ 1) → Grows c 0 (node_does d n f)
  node_grows d n f long made step few = by_node (node_at d n)
    where
      by_node : (o : Option Node) → Grows c 0 (node_does_by d n f o)
      by_node None = still d long made
      by_node (Some node) = put_back d n 0 (f (there d n node)) long (none_more _ _ made) (step node) (few node)

  after_grows : (d : ClusterState) (w n k : ℕ) (h : WorkerContext) → length d.workers ≡ length c.workers → d.made ≡ c.made + k → Adds k h.there → h.there.opened ≤ 1 →
      Grows c k (after_worker d w n h)
  after_grows d w n k h long made p few =
      put_back (record d { workers = changed_at d.workers w (λ _. h.worker) }) n k h.there (changed-length d.workers w (λ _. h.worker) ∙ long) made p few

  released_few : (h : WorkerContext) → h.there.opened ≤ 1 → (release_step h).there.opened ≤ 1
  released_few h few = subst (λ n. n ≤ 1) (sym (release_opens_none h)) few

  worker_grows : (d : ClusterState) (w : ℕ) (f : WorkerContext → WorkerContext) → length d.workers ≡ length c.workers → d.made ≡ c.made →
      ((P : WorkerContext → Type 0) → IsKept P → (h : WorkerContext) → P h → P (f h)) → ((h : WorkerContext) → (f h).there.opened ≤ h.there.opened + 1) → Grows c 0 (worker_does d w f)
  worker_grows d w f long made step few = by_worker (worker_at d w)
    where
      by_home : (x : Worker) (o : Option Node) → Grows c 0 (worker_does_at d w x f o)
      by_home x None = still d long made
      by_home x (Some node) =
          let h : WorkerContext = here d w x node in
          after_grows d w x.node 0 (release_step (f h)) long (none_more _ _ made)
          (M.release_step-kept (λ g. Adds 0 g.there) (here_adds 0) (f h) (step (λ g. Adds 0 g.there) (here_adds 0) h (begun d x.node node)))
          (released_few (f h) (few h))

      by_worker : (o : Option Worker) → Grows c 0 (worker_does_by d w f o)
      by_worker None = still d long made
      by_worker (Some x) = by_home x (node_at d x.node)

  -- ---- deliveries

  module _ (n : ℕ) (d : ClusterState) (node : Node) where
    abbrev t : NodeContext
    t = there d n node

    start : Adds 0 t
    start = begun d n node

    by_fetch : (o : Id) (number w : ℕ) (x : Option Outcome) → Adds 0 (fetched t o number w x)
    by_fetch o number w None = record { born = start.born; opens = start.opens }
    by_fetch o number w (Some x) = record { born = start.born; opens = start.opens }

    by_message : (w : ℕ) (m : Message) → Adds 0 (node_reached_from t w m)
    by_message w (Ask a k) = S.asked_by-kept (Adds 0) (there_adds 0) t (ask_key a k) (reply_to node.scheduler (ask_key a k)) start
    by_message w (Back a) = S.is_back-kept (Adds 0) (there_adds 0) t w a start
    by_message w (Fetch o number) = by_fetch o number w (copy_in node.store o number)
    by_message w (Unhold x o why) = record { born = start.born; opens = start.opens }
    by_message w (Give a k v) = start
    by_message w (Elsewhere a k m) = start
    by_message w (Wait a k) = start
    by_message w (Push a spec) = start
    by_message w (Finished a m rs) = start
    by_message w (FinishedAck a) = start
    by_message w (Failed a g) = start
    by_message w (Where o) = start
    by_message w (At o number ns kept) = start
    by_message w (Gone o g) = start
    by_message w (CopyOf o number x) = start
    by_message w (Missing o number m) = start
    by_message w (Hold x o) = start
    by_message w (HoldAck x o) = start

    by_sender : (p : Endpoint) (m : Message) → Adds 0 (node_reached t p m)
    by_sender (TheWorker w) m = by_message w m
    by_sender (TheNode k) m = start

  if_grows : (b : Bool) (x y : Transition) → Grows c 0 x → Grows c 0 y → Grows c 0 (if b then x else y)
  if_grows true x y p q = p
  if_grows false x y p q = q

  delivered_grows : (d : ClusterState) (l : Envelope) (to : Endpoint) → length d.workers ≡ length c.workers → d.made ≡ c.made → Grows c 0 (delivered_to d l to)
  delivered_grows d l (TheWorker w) long made =
      if_grows (is_live_worker (worker_at d w)) (worker_does d w (λ h. reached h l.sender l.message)) (moved d)
      (worker_grows d w (λ h. reached h l.sender l.message) long made (λ P kept h p. M.reached-kept P kept h l.sender l.message p)
      (λ h. reached_opens h l.sender l.message)) (still d long made)
  delivered_grows d l (TheNode n) long made =
      if_grows (is_live_node (node_at d n)) (node_does d n (λ h. node_reached h l.sender l.message)) (moved d)
      (node_grows d n (λ h. node_reached h l.sender l.message) long made (λ node. by_sender n d node l.sender l.message)
      (λ node. one_at_most _ _ (reached_open (there d n node) l.sender l.message))) (still d long made)

  deliver_grows : (k : ℕ) (o : Option Envelope) → Grows c 0 (delivered_by c k o)
  deliver_grows k None = still c refl refl
  deliver_grows k (Some l) = delivered_grows (with_delivered c k) l l.receiver refl refl

  -- ---- a worker's death

  death_grows : (w : ℕ) (o : Option Worker) → Grows c 0 (killed_by c w o)
  death_grows w None = still c refl refl
  death_grows w (Some x) =
      let d : ClusterState = record c { workers = changed_at c.workers w dead } in
      node_grows d x.node (λ h. forgets h w) (changed-length c.workers w dead) refl
      (λ node. S.forgets-kept (Adds 0) (there_adds 0) (there d x.node node) w (begun d x.node node))
      (λ node. one_at_most _ _ (death_open (there d x.node node) w))

-- ---- a commit, of a live worker

module _ (s : Setting) (log : List Entry) (c : ClusterState) (sound : IsSound s log c) where
  unhanded : (j : ℕ) (k : ℕ) (b d : Bool) (o : Option Refusal) → or_refusal (unless (d && false && b) NoJob) o ≡ None → Grows c k (moved c)
  unhanded j k b true o f = absurd (cc)
  unhanded j k b false o f = absurd (cc)

  commit_grows : (j : ℕ) (handed : CommitInput) (g : Option JobRecord) → commit_refusal c j handed g ≡ None → Grows c (borne (Commit j) handed) (committed_by c j handed g)
  commit_grows j handed None e = absurd (cc)
  commit_grows j Nothing (Some g) e = unhanded j 0 (is_out_by (worker_at c g.worker) j) (not g.is_committed) (unless (is_live_worker (worker_at c g.worker)) Stale) e
  commit_grows j OfAnother (Some g) e = unhanded j 0 (is_out_by (worker_at c g.worker) j) (not g.is_committed) (unless (is_live_worker (worker_at c g.worker)) Stale) e
  commit_grows j (OfJob o) (Some g) e =
      let open_job : Bool = not g.is_committed && is_of_job (OfJob o) in
      let both = both_passed (unless (open_job && is_out_by (worker_at c g.worker) j) NoJob) (unless (is_live_worker (worker_at c g.worker)) Stale) e in
      let out : is_out_by (worker_at c g.worker) j ≡ true =
      and_right open_job (is_out_by (worker_at c g.worker) j) (passed (open_job && is_out_by (worker_at c g.worker) j) NoJob both.0) in
      let x : LiveOne (worker_at c g.worker) = live_one (worker_at c g.worker) (passed (is_live_worker (worker_at c g.worker)) Stale both.1) in
      let n = sound.between.knows.housed g.worker x.worker x.at x.lives in
      let run : OutOf x.worker.run j = out_of x.worker.run j (ap (λ y. is_out_by y j) (sym x.at) ∙ out) in
      let d : ClusterState = with_committed c j (objects_made o.births) in
      let h : WorkerContext = here d g.worker x.worker n.0 in
      let same : worker_does d g.worker (λ i. commit_step i o) ≡ after_worker d g.worker x.worker.node (release_step (commit_step h o)) =
      ap (worker_does_by d g.worker (λ i. commit_step i o)) x.at ∙ ap (worker_does_at d g.worker x.worker (λ i. commit_step i o)) n.1 in
      let k : ℕ = objects_made o.births in
      subst (Grows c k) (sym same)
      (after_grows c d g.worker x.worker.node k (release_step (commit_step h o)) refl refl
      (M.release_step-kept (λ i. Adds k i.there) (here_adds k) (commit_step h o) (commit_adds h o run.run run.at refl refl))
      (released_few c (commit_step h o) (commit_opens h o)))

  -- ---- every event

  pub event_grows : (e : Event) (handed : CommitInput) → refusal c e handed ≡ None → Grows c (borne e handed) (happens c e handed)
  event_grows (Claim w) handed r =
      worker_grows c (record c { jobs = c.jobs ++ record { worker = w; is_committed = false } ∷ [] }) w (λ h. claim_step h (length c.jobs + 1)) refl refl
      (λ P kept h p. M.claim_step-kept P kept h (length c.jobs + 1) p) (λ h. claim_opens h (length c.jobs + 1))
  event_grows (Commit j) handed r = commit_grows j handed (item_at c.jobs j) r
  event_grows (Deliver k) handed r = deliver_grows c k (item_at c.network k)
  event_grows (Tick w) handed r = worker_grows c c w tick_step refl refl (λ P kept h p. M.tick_step-kept P kept h p) tick_opens
  event_grows (Notice w v) handed r = worker_grows c c w (λ h. notice_step h v) refl refl (λ P kept h p. M.notice_step-kept P kept h v p) (λ h. notice_opens h v)
  event_grows (NoticeNode w n) handed r = worker_grows c c w (λ h. notice_node_step h n) refl refl (λ P kept h p. M.notice_node_step-kept P kept h n p) (λ h. notice_node_opens h n)
  event_grows (Evict n o) handed r = still c (happens c (Evict n o) handed).whole refl refl
  event_grows (Lose n o) handed r = still c (happens c (Lose n o) handed).whole refl refl
  event_grows (Kill w) handed r = death_grows c w (worker_at c w)
  event_grows (KillNode n) handed r = still c (happens c (KillNode n) handed).whole (long_mapped (dies_with n) c.workers) refl
  event_grows Join handed r = still c (happens c Join handed).whole refl refl

-- ---- a claim opens nobody

module _ (c : ClusterState) (w : ℕ) where
  abbrev with_job : ClusterState
  with_job = record c { jobs = c.jobs ++ record { worker = w; is_committed = false } ∷ [] }

  abbrev claims : WorkerContext → WorkerContext
  claims h = claim_step h (length c.jobs + 1)

  pub claim_grows_none : (handed : CommitInput) → length (opened (happens c (Claim w) handed).out.entries) ≡ 0
  claim_grows_none handed = by_worker (worker_at c w)
    where
      opens_none : (h : WorkerContext) (r : Option Execution) → (claim_by h (length c.jobs + 1) r).there.opened ≡ h.there.opened
      opens_none h None = refl
      opens_none h (Some run) = refl

      by_home : (x : Worker) (o : Option Node) → length (opened (worker_does_at with_job w x claims o).out.entries) ≡ 0
      by_home x None = refl
      by_home x (Some node) =
          let h : WorkerContext = here with_job w x node in
          let p : Adds 0 (release_step (claims h)).there =
          M.release_step-kept (λ g. Adds 0 g.there) (here_adds 0) (claims h)
          (M.claim_step-kept (λ g. Adds 0 g.there) (here_adds 0) h (length c.jobs + 1) (record { born = refl; opens = refl })) in
          p.opens ∙ release_opens_none (claims h) ∙ opens_none h x.run

      by_worker : (o : Option Worker) → length (opened (worker_does_by with_job w claims o).out.entries) ≡ 0
      by_worker None = refl
      by_worker (Some x) = by_home x (node_at c x.node)
