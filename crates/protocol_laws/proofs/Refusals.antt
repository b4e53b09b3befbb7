-- Each refusal of the protocol has its cause in the log, or is of what only tables, stores and limits know.
use Rattle.std.proofs.Common.{◌≡◌, ℕ, zero, suc, ◌+◌, ◌<◌, Bool, true, false, List, [], ◌∷◌, ◌++◌, ◌⊎◌, inl, inr, Option, Some, None, refl, sym, ap, ◌∙◌, subst, length, arith}
use Rattle.std.specs.Prelude.{◌&&◌, not, nat_lt, is_some, if◌then◌else◌}
use Rattle.std.specs.List.{list_any}
use Rattle.std.proofs.lemmas.Bool.Decides.{nat_tests}
use Rattle.std.proofs.lemmas.Bool.{and_parts, not-true}
use Rattle.meaning.specs.Values.{Id}
use Rattle.meaning.proofs.BirthLaws.{at_test}
use Rattle.event_log.specs.Breaks.{Among}
use Rattle.event_log.specs.Causes.{IsRefusal, shown, unseen}
use Rattle.event_log.specs.Causes as causes
use Rattle.event_log.specs.Entries.{Event, Claim, Commit, Deliver, Tick, Notice, NoticeNode, Evict, Lose, Kill, KillNode, Join, Entry}
use Rattle.event_log.specs.Entries.{Refusal, Pinned, NoCopy, NoWorker, NotReady, NoJob, Stale, NoMessage, NotDead, NoNode, Limit}
use Rattle.event_log.specs.Events.{accepted_events, from_one, has_job_out, is_committed, is_killed, is_live, joins, kills, node_is_killed, node_lives, node_of, on_node, worker_of_job, worker_lives}
use Rattle.event_log.specs.Rules.{Setting}
use Rattle.event_log.proofs.CauseLaws.{as_shown, as_unseen, no_job, no_worker, not_ready}
use Rattle.holding_steps.specs.of_protocol.Jobs.{JobRecord, CommitInput}
use Rattle.holding_steps.specs.of_protocol.Messages.{Envelope, goes_to_by}
use Rattle.holding_steps.specs.of_protocol.Nodes.{Node}
use Rattle.holding_steps.specs.of_protocol.Numbered.{item_at}
use Rattle.holding_steps.specs.of_protocol.Stores.{Store, evict_refusal, is_of, lose_refusal}
use Rattle.holding_steps.specs.of_protocol.Tables.{Worker}
use Rattle.holding_steps.specs.of_protocol.Cluster.{ClusterState, node_at, worker_at}
use Rattle.holding_steps.specs.of_protocol.Events.{is_live_node, is_live_worker}
use Rattle.holding_steps.specs.of_protocol.Refusals as tables
use Rattle.holding_steps.specs.of_protocol.Refusals.{commit_refusal, is_dead_node, is_dead_worker, is_of_job, is_out_by, is_ready, is_ready_on, or_refusal, refusal, store_refusal}
use Rattle.protocol_legal.specs.Whole.{Between, committed_in, setting_of}
use Rattle.protocol_legal.proofs.FrameDeaths.{killed_if_dead}
use Rattle.protocol_legal.proofs.FrameEnters.{node_lives_log}
use Rattle.protocol_legal.proofs.FrameLists.{from_one_of}
use Rattle.protocol_legal.proofs.FrameNodesChange.{from_one_from}
use Rattle.protocol_legal.proofs.FrameWorker.{home_of_worker}
use Rattle.protocol_legal.proofs.Heard.{home_of_live}
use Rattle.protocol_laws.proofs.Tests.{or_none, unless_none}

-- ---- words of one worker or node

-- who was killed was opened, and doesn't live
killed_home : (log : List Entry) (v : ℕ) → is_killed v log ≡ true → (n : ℕ) × (node_of v log ≡ Some n)
unfolding is_killed
killed_home log v h = go (node_of v log) refl h
  where
    go : (o : Option ℕ) → node_of v log ≡ o → on_node o false (λ n. list_any (kills v n) (accepted_events log)) ≡ true → (n : ℕ) × (node_of v log ≡ Some n)
    go None e k = absurd (cc)
    go (Some n) e k = (n, e)

live_unkilled : (log : List Entry) (v n : ℕ) → node_of v log ≡ Some n → is_live v log ≡ true → is_killed v log ≡ false
unfolding is_live is_killed
live_unkilled log v n h l =
    ap (λ o. on_node o false (λ m. list_any (kills v m) (accepted_events log))) h
    ∙ not-true (list_any (kills v n) (accepted_events log)) (sym (ap (λ o. on_node o false (λ m. not (list_any (kills v m) (accepted_events log)))) h) ∙ l)

dead_if_killed : (first n : ℕ) (log : List Entry) → node_is_killed n log ≡ true → node_lives first n log ≡ false
unfolding node_lives
dead_if_killed first n log h = ap (λ b. (nat_lt 0 n && nat_lt n (first + length (joins log) + 1)) && not b) h ∙ and_none (nat_lt 0 n && nat_lt n (first + length (joins log) + 1))
  where
    and_none : (b : Bool) → (b && not true) ≡ false
    and_none true = refl
    and_none false = refl

no_node_there : (first n count : ℕ) (log : List Entry) → count ≡ first + length (joins log) → (0 < n → n < count + 1 → ⊥) → node_lives first n log ≡ false
unfolding node_lives
no_node_there first n count log many out = at_test (λ b. ((b && nat_lt n (first + length (joins log) + 1)) && not (node_is_killed n log)) ≡ false) (nat_lt 0 n) above (λ e. refl)
  where
    above : nat_lt 0 n ≡ true → ((true && nat_lt n (first + length (joins log) + 1)) && not (node_is_killed n log)) ≡ false
    above low = at_test (λ b. ((true && b) && not (node_is_killed n log)) ≡ false) (nat_lt n (first + length (joins log) + 1))
        (λ high. absurd (out (less 0 n low) (let i = less n (first + length (joins log) + 1) high in omega (arith, i, many)))) (λ e. refl)
      where
        less : (i k : ℕ) → nat_lt i k ≡ true → i < k
        less i k h = grind (arith, nat_tests)

pub item_some : {X : Type 0} (xs : List X) (n : ℕ) → 0 < n → n < length xs + 1 → (x : X) × (item_at xs n ≡ Some x)
item_some xs zero h k = absurd (omega (arith, h))
item_some [] (suc i) h k = absurd (omega (arith, k))
item_some (x ∷ xs) (suc zero) h k = (x, refl)
item_some (x ∷ xs) (suc (suc i)) h k = item_some xs (suc i) (omega arith) (omega (arith, k))

-- ---- what the tables say of the living and the dead is what the log says

module _ (s : Setting) (log : List Entry) (c : ClusterState) (b : Between s log c) where
  abbrev pub S : Setting
  S = setting_of s c

  there_by_log : (w n : ℕ) → node_of w log ≡ Some n → worker_at c w ≡ None → ⊥
  there_by_log w n home none =
      let r = from_one_from (λ (x : Worker). x.node) c.workers w n (sym (ap (λ ns. from_one ns w) b.knows.opened) ∙ home) in
      clash r.item (sym r.at ∙ none)
    where
      clash : (x : Worker) → Some x ≡ None → ⊥
      clash x e = cc

  flips : (t u : Bool) → (t ≡ true → u ≡ true → ⊥) → u ≡ true → t ≡ false
  flips true u h k = absurd (h refl k)
  flips false u h k = refl

  false_if : (t : Bool) → (t ≡ true → ⊥) → t ≡ false
  false_if true h = absurd (h refl)
  false_if false h = refl

  pub lives_as : (w : ℕ) → is_live w log ≡ is_live_worker (worker_at c w)
  lives_as w = go (worker_at c w) refl
    where
      go : (o : Option Worker) → worker_at c w ≡ o → is_live w log ≡ is_live_worker o
      go (Some x) e = b.knows.lives w x e
      go None e = false_if (is_live w log) (λ h. let k = home_of_live log w h in there_by_log w k.0 k.1 e)

  pub killed_as : (v : ℕ) → is_killed v log ≡ is_dead_worker (worker_at c v)
  killed_as v = go (worker_at c v) refl
    where
      by_life : (x : Worker) → worker_at c v ≡ Some x → (t : Bool) → x.is_live ≡ t → is_killed v log ≡ not t
      by_life x e true l = live_unkilled log v x.node (home_of_worker s log c b v x e) (b.knows.lives v x e ∙ l)
      by_life x e false l = killed_if_dead log v x.node (home_of_worker s log c b v x e) (b.knows.lives v x e ∙ l)

      go : (o : Option Worker) → worker_at c v ≡ o → is_killed v log ≡ is_dead_worker o
      go (Some x) e = by_life x e x.is_live refl
      go None e = false_if (is_killed v log) (λ h. let k = killed_home log v h in there_by_log v k.0 k.1 e)

  pub node_lives_as : (n : ℕ) → node_lives s.nodes n log ≡ is_live_node (node_at c n)
  node_lives_as n = go (node_at c n) refl
    where
      by_life : (x : Node) → node_at c n ≡ Some x → (t : Bool) → x.is_live ≡ t → node_lives s.nodes n log ≡ t
      by_life x e true l = node_lives_log s log c b Join 0 n x e l
      by_life x e false l = dead_if_killed s.nodes n log (b.knows.node_lives n x e ∙ ap not l)

      clash : (x : Node) → Some x ≡ None → ⊥
      clash x e = cc

      go : (o : Option Node) → node_at c n ≡ o → node_lives s.nodes n log ≡ is_live_node o
      go (Some x) e = by_life x e x.is_live refl
      go None e = no_node_there s.nodes n (length c.nodes) log b.knows.nodes (λ low high. let r = item_some c.nodes n low high in clash r.0 (sym r.1 ∙ e))

  pub node_killed_as : (n : ℕ) → node_is_killed n log ≡ is_dead_node (node_at c n)
  node_killed_as n = go (node_at c n) refl
    where
      clash : (x : Node) → Some x ≡ None → ⊥
      clash x e = cc

      absent : (m : ℕ) → node_at c m ≡ None → (nat_lt m (length c.nodes + 1) ≡ true → node_is_killed m log ≡ false) → node_is_killed m log ≡ false
      absent m e inside = at_test (λ t. nat_lt m (length c.nodes + 1) ≡ t → node_is_killed m log ≡ false) (nat_lt m (length c.nodes + 1)) (λ t i. inside i)
          (λ t i. b.knows.unkilled m (far m (length c.nodes) i)) refl
        where
          far : (m k : ℕ) → nat_lt m (k + 1) ≡ false → k < m
          far m k h = grind (arith, nat_tests)

      none : (m : ℕ) → node_at c m ≡ None → node_is_killed m log ≡ false
      none zero e = b.knows.no_zero
      none (suc i) e = absent (suc i) e (λ t. let r = item_some c.nodes (suc i) (omega arith) (near (suc i) (length c.nodes + 1) t) in absurd (clash r.0 (sym r.1 ∙ e)))
        where
          near : (m k : ℕ) → nat_lt m k ≡ true → m < k
          near m k h = grind (arith, nat_tests)

      go : (o : Option Node) → node_at c n ≡ o → node_is_killed n log ≡ is_dead_node o
      go (Some x) e = b.knows.node_lives n x e
      go None e = none n e

  -- ---- what an event shows, by the tables

  shown_tick : (w : ℕ) (handed : Bool) → shown S log handed (Tick w) ≡ causes.unless (is_live_worker (worker_at c w)) NoWorker None
  shown_tick w handed = ap (λ t. causes.unless t NoWorker None) (lives_as w)

  -- a refusal by a test, else none
  first : (t : Bool) (code other : Refusal) (o : Option Refusal) → or_refusal (tables.unless t code) o ≡ Some other → ((t ≡ false) × (other ≡ code)) ⊎ ((t ≡ true) × (o ≡ Some other))
  first true code other o h = inr (refl, h)
  first false code other o h = inl (refl, cc)

  one : (t : Bool) (code other : Refusal) → tables.unless t code ≡ Some other → (t ≡ false) × (other ≡ code)
  one true code other h = absurd (cc)
  one false code other h = (refl, cc)

  is_code : (e : Event) (code other : Refusal) → other ≡ code → IsRefusal S log e code → IsRefusal S log e other
  is_code e code other h r = subst (IsRefusal S log e) (sym h) r

  no_live : (e : Event) (w : ℕ) (rest : Option Refusal) → shown S log false e ≡ causes.unless (is_live w log) NoWorker rest → is_live_worker (worker_at c w) ≡ false → IsRefusal S log e NoWorker
  no_live e w rest h dead = as_shown S log e NoWorker false (h ∙ ap (λ t. causes.unless t NoWorker rest) (lives_as w ∙ dead))

  then_shown : (w : ℕ) (rest : Option Refusal) → is_live_worker (worker_at c w) ≡ true → causes.unless (is_live w log) NoWorker rest ≡ rest
  then_shown w rest live = ap (λ t. causes.unless t NoWorker rest) (lives_as w ∙ live)

  claim_refused : (w : ℕ) (code : Refusal) → or_refusal (tables.no_worker c w) (tables.unless (is_ready c w) NotReady) ≡ Some code → IsRefusal S log (Claim w) code
  claim_refused w code h = elim (first (is_live_worker (worker_at c w)) NoWorker code (tables.unless (is_ready c w) NotReady) h) [
    | inl k ↦ is_code (Claim w) NoWorker code k.1 (no_worker S log w (lives_as w ∙ k.0))
    | inr k ↦ is_code (Claim w) NotReady code (one (is_ready c w) NotReady code k.1).1 (not_ready S log w (lives_as w ∙ k.0))
  ]

  tick_refused : (w : ℕ) (code : Refusal) → tables.no_worker c w ≡ Some code → IsRefusal S log (Tick w) code
  tick_refused w code h = let k = one (is_live_worker (worker_at c w)) NoWorker code h in is_code (Tick w) NoWorker code k.1 (no_live (Tick w) w None refl k.0)

  kill_refused : (w : ℕ) (code : Refusal) → tables.no_worker c w ≡ Some code → IsRefusal S log (Kill w) code
  kill_refused w code h = let k = one (is_live_worker (worker_at c w)) NoWorker code h in is_code (Kill w) NoWorker code k.1 (no_live (Kill w) w None refl k.0)

  notice_refused : (w v : ℕ) (code : Refusal) → or_refusal (tables.no_worker c w) (tables.unless (is_dead_worker (worker_at c v)) NotDead) ≡ Some code → IsRefusal S log (Notice w v) code
  notice_refused w v code h = elim (first (is_live_worker (worker_at c w)) NoWorker code (tables.unless (is_dead_worker (worker_at c v)) NotDead) h) [
    | inl k ↦ is_code (Notice w v) NoWorker code k.1 (no_live (Notice w v) w (causes.unless (is_killed v log) NotDead None) refl k.0)
    | inr k ↦ let r = one (is_dead_worker (worker_at c v)) NotDead code k.1 in
        is_code (Notice w v) NotDead code r.1 (as_shown S log (Notice w v) NotDead false (then_shown w (causes.unless (is_killed v log) NotDead None) k.0 ∙ ap (λ t. causes.unless t NotDead None) (killed_as v ∙ r.0)))
  ]

  node_notice_refused : (w n : ℕ) (code : Refusal) → or_refusal (tables.no_worker c w) (tables.unless (is_dead_node (node_at c n)) NotDead) ≡ Some code → IsRefusal S log (NoticeNode w n) code
  node_notice_refused w n code h = elim (first (is_live_worker (worker_at c w)) NoWorker code (tables.unless (is_dead_node (node_at c n)) NotDead) h) [
    | inl k ↦ is_code (NoticeNode w n) NoWorker code k.1 (no_live (NoticeNode w n) w (causes.unless (node_is_killed n log) NotDead None) refl k.0)
    | inr k ↦ let r = one (is_dead_node (node_at c n)) NotDead code k.1 in
        is_code (NoticeNode w n) NotDead code r.1 (as_shown S log (NoticeNode w n) NotDead false (then_shown w (causes.unless (node_is_killed n log) NotDead None) k.0 ∙ ap (λ t. causes.unless t NotDead None) (node_killed_as n ∙ r.0)))
  ]

  deliver_refused : (m : ℕ) (code : Refusal) → tables.unless (is_some (item_at c.network m)) NoMessage ≡ Some code → IsRefusal S log (Deliver m) code
  deliver_refused m code h = let k = one (is_some (item_at c.network m)) NoMessage code h in
      is_code (Deliver m) NoMessage code k.1 (as_shown S log (Deliver m) NoMessage false (ap (λ t. causes.unless t NoMessage None) (none (item_at c.network m) k.0)))
    where
      none : (o : Option Envelope) → is_some o ≡ false → is_some (goes_to_by o) ≡ false
      none None e = refl
      none (Some l) e = absurd (cc)

  kill_node_refused : (n : ℕ) (code : Refusal) → tables.unless (is_live_node (node_at c n)) NoNode ≡ Some code → IsRefusal S log (KillNode n) code
  kill_node_refused n code h = let k = one (is_live_node (node_at c n)) NoNode code h in
      is_code (KillNode n) NoNode code k.1 (as_shown S log (KillNode n) NoNode false (ap (λ t. causes.unless t NoNode None) (node_lives_as n ∙ k.0)))

  -- ---- copies that are lost or evicted

  evict_code : (o : Id) (st : Store) (code : Refusal) → evict_refusal o st ≡ Some code → Among code (Pinned ∷ NoCopy ∷ Limit ∷ [])
  evict_code o st code h = by (list_any (is_of o) st.secondaries) (list_any (is_of o) st.primaries) h
    where
      by : (t u : Bool) → (if t then None else if u then Some Pinned else Some NoCopy) ≡ Some code → Among code (Pinned ∷ NoCopy ∷ Limit ∷ [])
      by true u k = absurd (cc)
      by false true k = (0, k)
      by false false k = (1, k)

  lose_code : (o : Id) (st : Store) (code : Refusal) → lose_refusal o st ≡ Some code → Among code (NoCopy ∷ Limit ∷ [])
  lose_code o st code h = by (list_any (is_of o) (st.primaries ++ st.secondaries)) h
    where
      by : (t : Bool) → (if t then None else Some NoCopy) ≡ Some code → Among code (NoCopy ∷ Limit ∷ [])
      by true k = absurd (cc)
      by false k = (0, k)

  stores_refused : (e : Event) (n : ℕ) (code : Refusal) (f : Store → Option Refusal) → shown S log false e ≡ causes.unless (node_lives s.nodes n log) NoNode None → ((st : Store) → f st ≡ Some code → Among code (unseen e)) → store_refusal f (node_at c n) ≡ Some code → IsRefusal S log e code
  stores_refused e n code f is codes h = go (node_at c n) refl h
    where
      dead : is_live_node (node_at c n) ≡ false → IsRefusal S log e NoNode
      dead d = as_shown S log e NoNode false (is ∙ ap (λ t. causes.unless t NoNode None) (node_lives_as n ∙ d))

      number : Some NoNode ≡ Some code → code ≡ NoNode
      number i = cc

      by_life : (x : Node) → node_at c n ≡ Some x → (t : Bool) → x.is_live ≡ t → (if t then f x.store else Some NoNode) ≡ Some code → IsRefusal S log e code
      by_life x i true l k = as_unseen S log e code false (is ∙ ap (λ t. causes.unless t NoNode None) (node_lives_as n ∙ ap is_live_node i ∙ l)) (codes x.store k)
      by_life x i false l k = is_code e NoNode code (number k) (dead (ap is_live_node i ∙ l))

      go : (o : Option Node) → node_at c n ≡ o → store_refusal f o ≡ Some code → IsRefusal S log e code
      go None i k = is_code e NoNode code (number k) (dead (ap is_live_node i))
      go (Some x) i k = by_life x i x.is_live refl k

  -- ---- commits

  -- what the log says of a job of the table
  pub claimed_as : (j : ℕ) (g : JobRecord) → item_at c.jobs j ≡ Some g → worker_of_job j log ≡ Some g.worker
  claimed_as j g e = ap (λ (ws : List ℕ). from_one ws j) b.knows.claims ∙ from_one_of (λ (i : JobRecord). i.worker) c.jobs j g e

  shown_job : (j : ℕ) (g : JobRecord) → item_at c.jobs j ≡ Some g → g.is_committed ≡ false → shown S log true (Commit j) ≡ causes.unless (is_live_worker (worker_at c g.worker)) Stale None
  shown_job j g e fresh =
      ap (λ o. causes.unless (is_some o) NoJob (causes.unless (not (is_committed j log)) NoJob (causes.unless (worker_lives o log) Stale None))) (claimed_as j g e)
      ∙ ap (λ t. causes.unless (not t) NoJob (causes.unless (is_live g.worker log) Stale None)) (b.knows.commits j ∙ ap committed_in e ∙ fresh)
      ∙ ap (λ t. causes.unless t Stale None) (lives_as g.worker)

  commit_refused : (j : ℕ) (code : Refusal) (handed : CommitInput) (o : Option JobRecord) → item_at c.jobs j ≡ o → commit_refusal c j handed o ≡ Some code → IsRefusal S log (Commit j) code
  commit_refused j code handed None e h = is_code (Commit j) NoJob code (number h) (no_job S log j)
    where
      number : Some NoJob ≡ Some code → code ≡ NoJob
      number i = cc
  commit_refused j code handed (Some g) e h =
      elim (first (not g.is_committed && is_of_job handed && is_out_by (worker_at c g.worker) j) NoJob code (tables.unless (is_live_worker (worker_at c g.worker)) Stale) h) [
        | inl k ↦ is_code (Commit j) NoJob code k.1 (no_job S log j)
        | inr k ↦
            let a = and_parts (not g.is_committed && is_of_job handed) (is_out_by (worker_at c g.worker) j) k.0 in
            let fresh = not-true g.is_committed (and_parts (not g.is_committed) (is_of_job handed) a.0).0 in
            let r = one (is_live_worker (worker_at c g.worker)) Stale code k.1 in
            is_code (Commit j) Stale code r.1 (as_shown S log (Commit j) Stale true (shown_job j g e fresh ∙ ap (λ t. causes.unless t Stale None) r.0))
      ]

  -- ---- any event

  pub refused_for_cause : (e : Event) (handed : CommitInput) (code : Refusal) → refusal c e handed ≡ Some code → IsRefusal S log e code
  refused_for_cause (Claim w) handed code h = claim_refused w code h
  refused_for_cause (Commit j) handed code h = commit_refused j code handed (item_at c.jobs j) refl h
  refused_for_cause (Deliver m) handed code h = deliver_refused m code h
  refused_for_cause (Tick w) handed code h = tick_refused w code h
  refused_for_cause (Notice w v) handed code h = notice_refused w v code h
  refused_for_cause (NoticeNode w n) handed code h = node_notice_refused w n code h
  refused_for_cause (Evict n o) handed code h = stores_refused (Evict n o) n code (evict_refusal o) refl (λ st k. evict_code o st code k) h
  refused_for_cause (Lose n o) handed code h = stores_refused (Lose n o) n code (lose_refusal o) refl (λ st k. lose_code o st code k) h
  refused_for_cause (Kill w) handed code h = kill_refused w code h
  refused_for_cause (KillNode n) handed code h = kill_node_refused n code h
  refused_for_cause Join handed code h = absurd (cc)

  -- ---- limits

  live_there : (w : ℕ) → tables.no_worker c w ≡ None → is_live w log ≡ true
  live_there w h = lives_as w ∙ unless_none (is_live_worker (worker_at c w)) NoWorker h

  commit_limited : (j : ℕ) (handed : CommitInput) (o : Option JobRecord) → item_at c.jobs j ≡ o → commit_refusal c j handed o ≡ None → IsRefusal S log (Commit j) Limit
  commit_limited j handed None e h = absurd (cc)
  commit_limited j handed (Some g) e h =
      let p = or_none (tables.unless (not g.is_committed && is_of_job handed && is_out_by (worker_at c g.worker) j) NoJob) (tables.unless (is_live_worker (worker_at c g.worker)) Stale) h in
      let a = and_parts (not g.is_committed && is_of_job handed) (is_out_by (worker_at c g.worker) j) (unless_none _ NoJob p.0) in
      let fresh = not-true g.is_committed (and_parts (not g.is_committed) (is_of_job handed) a.0).0 in
      as_unseen S log (Commit j) Limit true (shown_job j g e fresh ∙ ap (λ t. causes.unless t Stale None) (unless_none (is_live_worker (worker_at c g.worker)) Stale p.1)) (0, refl)

  store_lives : (n : ℕ) (f : Store → Option Refusal) → store_refusal f (node_at c n) ≡ None → is_live_node (node_at c n) ≡ true
  store_lives n f h = go (node_at c n) h
    where
      by_life : (x : Node) (t : Bool) → x.is_live ≡ t → (if t then f x.store else Some NoNode) ≡ None → x.is_live ≡ true
      by_life x true l k = l
      by_life x false l k = absurd (cc)

      go : (o : Option Node) → store_refusal f o ≡ None → is_live_node o ≡ true
      go None k = absurd (cc)
      go (Some x) k = by_life x x.is_live refl k

  pub store_node_lives : (n : ℕ) (f : Store → Option Refusal) → store_refusal f (node_at c n) ≡ None → node_lives s.nodes n log ≡ true
  store_node_lives n f h = node_lives_as n ∙ store_lives n f h

  -- an event that nothing refuses, but that would pass a limit; a claimer has no job that is out
  pub limited_for_cause : (e : Event) (handed : CommitInput) → refusal c e handed ≡ None → ((w : ℕ) → e ≡ Claim w → has_job_out w log ≡ false) → IsRefusal S log e Limit
  limited_for_cause (Claim w) handed h idle =
      let p = or_none (tables.no_worker c w) (tables.unless (is_ready c w) NotReady) h in
      as_unseen S log (Claim w) Limit false (ap (λ t. causes.unless t NoWorker (causes.unless (not (has_job_out w log)) NotReady None)) (live_there w p.0) ∙ ap (λ t. causes.unless (not t) NotReady None) (idle w refl)) (1, refl)
  limited_for_cause (Commit j) handed h idle = commit_limited j handed (item_at c.jobs j) refl h
  limited_for_cause (Deliver m) handed h idle = as_unseen S log (Deliver m) Limit false (ap (λ t. causes.unless t NoMessage None) (some (item_at c.network m) (unless_none (is_some (item_at c.network m)) NoMessage h))) (1, refl)
    where
      some : (o : Option Envelope) → is_some o ≡ true → is_some (goes_to_by o) ≡ true
      some None e = absurd (cc)
      some (Some l) e = refl
  limited_for_cause (Tick w) handed h idle = as_unseen S log (Tick w) Limit false (ap (λ t. causes.unless t NoWorker None) (live_there w h)) (0, refl)
  limited_for_cause (Notice w v) handed h idle =
      let p = or_none (tables.no_worker c w) (tables.unless (is_dead_worker (worker_at c v)) NotDead) h in
      as_unseen S log (Notice w v) Limit false (ap (λ t. causes.unless t NoWorker (causes.unless (is_killed v log) NotDead None)) (live_there w p.0) ∙ ap (λ t. causes.unless t NotDead None) (killed_as v ∙ unless_none (is_dead_worker (worker_at c v)) NotDead p.1)) (0, refl)
  limited_for_cause (NoticeNode w n) handed h idle =
      let p = or_none (tables.no_worker c w) (tables.unless (is_dead_node (node_at c n)) NotDead) h in
      as_unseen S log (NoticeNode w n) Limit false (ap (λ t. causes.unless t NoWorker (causes.unless (node_is_killed n log) NotDead None)) (live_there w p.0) ∙ ap (λ t. causes.unless t NotDead None) (node_killed_as n ∙ unless_none (is_dead_node (node_at c n)) NotDead p.1)) (0, refl)
  limited_for_cause (Evict n o) handed h idle = as_unseen S log (Evict n o) Limit false (ap (λ t. causes.unless t NoNode None) (store_node_lives n (evict_refusal o) h)) (2, refl)
  limited_for_cause (Lose n o) handed h idle = as_unseen S log (Lose n o) Limit false (ap (λ t. causes.unless t NoNode None) (store_node_lives n (lose_refusal o) h)) (1, refl)
  limited_for_cause (Kill w) handed h idle = as_unseen S log (Kill w) Limit false (ap (λ t. causes.unless t NoWorker None) (live_there w h)) (0, refl)
  limited_for_cause (KillNode n) handed h idle = as_unseen S log (KillNode n) Limit false (ap (λ t. causes.unless t NoNode None) (node_lives_as n ∙ unless_none (is_live_node (node_at c n)) NoNode h)) (0, refl)
  limited_for_cause Join handed h idle = as_unseen S log Join Limit false refl (0, refl)
