-- An event of a sound run is refused with the number that the log shows, or for what it doesn't show.
use Rattle.std.proofs.Common.{◌≡◌, ℕ, zero, suc, ◌++◌, Bool, true, false, List, [], ◌∷◌, Option, Some, None, refl, sym, ap, ◌∙◌, subst}
use Rattle.std.specs.Prelude.{◌&&◌, not, if◌then◌else◌, is_some, slice_get}
use Rattle.std.specs.List.{AllByRecursion, list_any}
use Rattle.std.proofs.lemmas.Bool.{and_parts, eq-eqb, true≢false}
use Rattle.std.proofs.lemmas.Option.{same_Some}
use Rattle.meaning.specs.Values.{Id}
use Rattle.event_log.specs.Breaks.{Among}
use Rattle.event_log.specs.Causes.{shown}
use Rattle.event_log.specs.Causes as causes
use Rattle.event_log.specs.Entries.{Event, Claim, Commit, Deliver, Tick, Notice, NoticeNode, Evict, Lose, Kill, KillNode, Join, Entry}
use Rattle.event_log.specs.Entries.{Refusal, Pinned, NoCopy, NoWorker, NotReady, NoJob, Stale, NoMessage, NotDead, NoNode, Limit}
use Rattle.event_log.specs.Events.{from_one, has_job_out, is_committed, is_killed, is_live, node_is_killed, node_lives, worker_of_job, worker_lives}
use Rattle.event_log.specs.Rules.{Setting}
use Rattle.holding_steps.specs.of_protocol.Answers.{Refuses, answer, decided, given_out, takes}
use Rattle.holding_steps.specs.of_protocol.Events.{happens, is_live_node, is_live_worker}
use Rattle.holding_steps.specs.of_protocol.Jobs.{JobRecord, CommitInput}
use Rattle.holding_steps.specs.of_protocol.Messages.{Envelope, goes_to_by}
use Rattle.holding_steps.specs.of_protocol.Nodes.{Node}
use Rattle.holding_steps.specs.of_protocol.Numbered.{item_at}
use Rattle.holding_steps.specs.of_protocol.Refusals as tables
use Rattle.holding_steps.specs.of_protocol.Refusals.{commit_refusal, has_slot, is_dead_node, is_dead_worker, is_job, is_of_job, is_out_by, is_ready, is_ready_on, is_ready_run, is_within_limits, job_in_phase, job_in_run, or_refusal, refusal, store_refusal}
use Rattle.holding_steps.specs.of_protocol.Stores.{Store, evict_refusal, is_of, lose_refusal}
use Rattle.holding_steps.specs.of_protocol.Tables.{Worker}
use Rattle.holding_steps.specs.of_protocol.Cluster.{ClusterState, node_at, worker_at}
use Rattle.protocol_legal.specs.Whole.{Between, committed_in, setting_of}
use Rattle.protocol_legal.proofs.FrameNodesChange.{from_one_from}
use Rattle.protocol_laws.specs.Shown.{AreAlike, IsAsShown, IsHidden, RefusalsAreAsShown, RefusalsAreShown, hidden, in_the_log, refusal_of}
use Rattle.protocol_laws.specs.Sound.{IsOutAs, IsSound}
use Rattle.protocol_laws.proofs.JobsOut.{ready_has_none}
use Rattle.protocol_laws.proofs.Refusals.{claimed_as, item_some, killed_as, lives_as, node_killed_as, node_lives_as}
use Rattle.protocol_laws.proofs.Tests.{live_worker, ready_run}

-- ---- one test of the log and the same of the tables

one : (e : Event) (t u : Bool) (code : Refusal) → t ≡ u → IsAsShown e (causes.unless t code None) (tables.unless u code)
one e true true code h = tt
one e false false code h = refl
one e true false code h = absurd (cc)
one e false true code h = absurd (cc)

first : (e : Event) (t u : Bool) (code : Refusal) (s r : Option Refusal) → t ≡ u → (u ≡ true → IsAsShown e s r) → IsAsShown e (causes.unless t code s) (or_refusal (tables.unless u code) r)
first e true true code s r h k = k refl
first e false false code s r h k = refl
first e true false code s r h k = absurd (cc)
first e false true code s r h k = absurd (cc)

-- who is ready has no job out
claim_by : (w : ℕ) (t u : Bool) → (u ≡ true → t ≡ false) → IsAsShown (Claim w) (causes.unless (not t) NotReady None) (tables.unless u NotReady)
claim_by w true true h = absurd (true≢false (h refl))
claim_by w true false h = refl
claim_by w false true h = tt
claim_by w false false h = (1, refl)

-- a job that isn't committed is out
commit_by : (e : Event) (t h o a b : Bool) → (t ≡ false → o ≡ true) → a ≡ b →
    IsAsShown e (causes.unless (not t) NoJob (causes.unless h NoJob (causes.unless a Stale None))) (or_refusal (tables.unless (not t && h && o) NoJob) (tables.unless b Stale))
commit_by e true h o a b out same = refl
commit_by e false false o a b out same = refl
commit_by e false true true a b out same = one e a b Stale same
commit_by e false true false a b out same = absurd (true≢false (sym (out refl)))

store_by : (e : Event) (t : Bool) (o : Option Node) (f : Store → Option Refusal) → t ≡ is_live_node o → ((st : Store) (code : Refusal) → f st ≡ Some code → Among code (hidden e)) →
    IsAsShown e (causes.unless t NoNode None) (store_refusal f o)
store_by e t o f same codes = go t o same
  where
    left : (st : Store) (r : Option Refusal) → f st ≡ r → IsHidden e r
    left st None h = tt
    left st (Some code) h = codes st code h

    by_life : (t l : Bool) (st : Store) → t ≡ l → IsAsShown e (causes.unless t NoNode None) (if l then f st else Some NoNode)
    by_life true true st h = left st (f st) refl
    by_life false false st h = refl
    by_life true false st h = absurd (cc)
    by_life false true st h = absurd (cc)

    go : (t : Bool) (o : Option Node) → t ≡ is_live_node o → IsAsShown e (causes.unless t NoNode None) (store_refusal f o)
    go true None h = absurd (cc)
    go false None h = refl
    go t (Some x) h = by_life t x.is_live x.store h

evict_codes : (n : ℕ) (o : Id) (st : Store) (code : Refusal) → evict_refusal o st ≡ Some code → Among code (hidden (Evict n o))
evict_codes n o st code h = by_copy (list_any (is_of o) st.secondaries) (list_any (is_of o) st.primaries) h
  where
    by_copy : (t u : Bool) → (if t then None else if u then Some Pinned else Some NoCopy) ≡ Some code → Among code (Limit ∷ Pinned ∷ NoCopy ∷ [])
    by_copy true u k = absurd (cc)
    by_copy false true k = (1, k)
    by_copy false false k = (2, k)

lose_codes : (n : ℕ) (o : Id) (st : Store) (code : Refusal) → lose_refusal o st ≡ Some code → Among code (hidden (Lose n o))
lose_codes n o st code h = by_copy (list_any (is_of o) (st.primaries ++ st.secondaries)) h
  where
    by_copy : (t : Bool) → (if t then None else Some NoCopy) ≡ Some code → Among code (Limit ∷ NoCopy ∷ [])
    by_copy true k = absurd (cc)
    by_copy false k = (1, k)

is_sent : (o : Option Envelope) → is_some (goes_to_by o) ≡ is_some o
is_sent None = refl
is_sent (Some l) = refl

-- ---- a sound run

module _ (s : Setting) (log : List Entry) (c : ClusterState) (sound : IsSound s log c) where
  abbrev S : Setting
  S = setting_of s c

  b : Between s log c
  b = sound.between

  lives : (w : ℕ) → is_live w log ≡ is_live_worker (worker_at c w)
  lives w = lives_as s log c b w

  idle : (w : ℕ) → is_live_worker (worker_at c w) ≡ true → is_ready c w ≡ true → has_job_out w log ≡ false
  idle w live r =
      let l = live_worker c w live in
      let ready : is_ready_on c w (Some l.worker) ≡ true = ap (is_ready_on c w) (sym l.at) ∙ r in
      let two = and_parts (l.worker.is_live && is_ready_run l.worker.run) (has_slot w (node_at c l.worker.node)) ready in
      let run = ready_run l.worker.run (and_parts l.worker.is_live (is_ready_run l.worker.run) two.0).1 in
      ready_has_none c sound.jobs w l.worker l.at log b.knows.claims (λ j g e. b.knows.commits j ∙ ap committed_in e) run.0 run.1 run.2

  out_by : (j : ℕ) (x : Worker) → IsOutAs j x → is_out_by (Some x) j ≡ true
  out_by j x p = ap (λ r. is_job (job_in_run r) j) p.1 ∙ ap (λ q. is_job (job_in_phase q) j) p.2 ∙ eq-eqb j j refl

  out_there : (j : ℕ) (g : JobRecord) → item_at c.jobs j ≡ Some g → g.is_committed ≡ false → is_out_by (worker_at c g.worker) j ≡ true
  out_there j g e fresh =
      let x = item_some c.workers g.worker (sound.jobs.named j g e) (sound.jobs.given j g e) in
      ap (λ o. is_out_by o j) x.1 ∙ out_by j x.0 (sound.jobs.out j g x.0 e fresh x.1)

  never_given : (j : ℕ) → item_at c.jobs j ≡ None → is_some (worker_of_job j log) ≡ false
  never_given j none = go (worker_of_job j log) refl
    where
      clash : (g : JobRecord) → Some g ≡ None → ⊥
      clash g e = cc

      go : (o : Option ℕ) → worker_of_job j log ≡ o → is_some o ≡ false
      go None e = refl
      go (Some w) e =
          let r = from_one_from (λ (g : JobRecord). g.worker) c.jobs j w (sym (ap (λ (ws : List ℕ). from_one ws j) b.knows.claims) ∙ e) in
          absurd (clash r.item (sym r.at ∙ none))

  commit_shown : (j : ℕ) (handed : CommitInput) (o : Option JobRecord) → item_at c.jobs j ≡ o → IsAsShown (Commit j) (shown S log (is_of_job handed) (Commit j)) (commit_refusal c j handed o)
  commit_shown j handed None e =
      subst (λ t. IsAsShown (Commit j) (causes.unless t NoJob (causes.unless (not (is_committed j log)) NoJob (causes.unless (is_of_job handed) NoJob (causes.unless (worker_lives (worker_of_job j log) log) Stale None)))) (Some NoJob))
      (sym (never_given j e)) refl
  commit_shown j handed (Some g) e =
      subst (λ i. IsAsShown (Commit j) i (commit_refusal c j handed (Some g))) (sym by_tables)
      (commit_by (Commit j) g.is_committed (is_of_job handed) (is_out_by (worker_at c g.worker) j) (is_live g.worker log) (is_live_worker (worker_at c g.worker)) (out_there j g e) (lives g.worker))
    where
      by_tables : shown S log (is_of_job handed) (Commit j) ≡ causes.unless (not g.is_committed) NoJob (causes.unless (is_of_job handed) NoJob (causes.unless (is_live g.worker log) Stale None))
      by_tables =
          ap (λ o. causes.unless (is_some o) NoJob (causes.unless (not (is_committed j log)) NoJob (causes.unless (is_of_job handed) NoJob (causes.unless (worker_lives o log) Stale None)))) (claimed_as s log c b j g e)
          ∙ ap (λ t. causes.unless (not t) NoJob (causes.unless (is_of_job handed) NoJob (causes.unless (is_live g.worker log) Stale None))) (b.knows.commits j ∙ ap committed_in e)

  refused_as_shown : (e : Event) (handed : CommitInput) → IsAsShown e (shown S log (is_of_job handed) e) (refusal c e handed)
  refused_as_shown (Claim w) handed = first (Claim w) (is_live w log) (is_live_worker (worker_at c w)) NoWorker _ (tables.unless (is_ready c w) NotReady) (lives w)
      (λ live. claim_by w (has_job_out w log) (is_ready c w) (idle w live))
  refused_as_shown (Commit j) handed = commit_shown j handed (item_at c.jobs j) refl
  refused_as_shown (Deliver k) handed = one (Deliver k) (is_some (S.receiver k)) (is_some (item_at c.network k)) NoMessage (is_sent (item_at c.network k))
  refused_as_shown (Tick w) handed = one (Tick w) (is_live w log) (is_live_worker (worker_at c w)) NoWorker (lives w)
  refused_as_shown (Notice w v) handed = first (Notice w v) (is_live w log) (is_live_worker (worker_at c w)) NoWorker _ (tables.unless (is_dead_worker (worker_at c v)) NotDead) (lives w)
      (λ live. one (Notice w v) (is_killed v log) (is_dead_worker (worker_at c v)) NotDead (killed_as s log c b v))
  refused_as_shown (NoticeNode w n) handed = first (NoticeNode w n) (is_live w log) (is_live_worker (worker_at c w)) NoWorker _ (tables.unless (is_dead_node (node_at c n)) NotDead) (lives w)
      (λ live. one (NoticeNode w n) (node_is_killed n log) (is_dead_node (node_at c n)) NotDead (node_killed_as s log c b n))
  refused_as_shown (Evict n o) handed = store_by (Evict n o) (node_lives s.nodes n log) (node_at c n) (evict_refusal o) (node_lives_as s log c b n) (evict_codes n o)
  refused_as_shown (Lose n o) handed = store_by (Lose n o) (node_lives s.nodes n log) (node_at c n) (lose_refusal o) (node_lives_as s log c b n) (lose_codes n o)
  refused_as_shown (Kill w) handed = one (Kill w) (is_live w log) (is_live_worker (worker_at c w)) NoWorker (lives w)
  refused_as_shown (KillNode n) handed = one (KillNode n) (node_lives s.nodes n log) (is_live_node (node_at c n)) NoNode (node_lives_as s log c b n)
  refused_as_shown Join handed = tt

-- ---- limits are not shown

limit_is_hidden : (e : Event) → Among Limit (hidden e)
limit_is_hidden (Claim w) = (0, refl)
limit_is_hidden (Commit j) = (0, refl)
limit_is_hidden (Deliver k) = (0, refl)
limit_is_hidden (Tick w) = (0, refl)
limit_is_hidden (Notice w v) = (0, refl)
limit_is_hidden (NoticeNode w n) = (0, refl)
limit_is_hidden (Evict n o) = (0, refl)
limit_is_hidden (Lose n o) = (0, refl)
limit_is_hidden (Kill w) = (0, refl)
limit_is_hidden (KillNode n) = (0, refl)
limit_is_hidden Join = (0, refl)

answered : (c : ClusterState) (e : Event) (handed : CommitInput) (shows o : Option Refusal) → IsAsShown e shows o → IsAsShown e shows (refusal_of (decided c e handed o))
answered c e handed shows (Some code) h = h
answered c e handed (Some code) None h = absurd (cc)
answered c e handed None None h = by_limit (is_within_limits (happens c e handed).whole)
  where
    by_limit : (t : Bool) → IsHidden e (refusal_of (if t then takes (happens c e handed) (given_out c e) else Refuses Limit))
    by_limit true = tt
    by_limit false = limit_is_hidden e

pub refusals_are_as_shown : RefusalsAreAsShown
refusals_are_as_shown s log c sound e handed = answered c e handed (shown (setting_of s c) log (is_of_job handed) e) (refusal c e handed) (refused_as_shown s log c sound e handed)

-- ---- the numbers that the log shows

each : (P : Refusal → Type 0) (xs : List Refusal) → AllByRecursion P xs → (k : ℕ) (code : Refusal) → slice_get xs k ≡ Some code → P code
each P [] h k code e = absurd (cc)
each P (x ∷ xs) h zero code e = subst P (same_Some x code e) h.0
each P (x ∷ xs) h (suc k) code e = each P xs h.1 k code e

abbrev in_log : Refusal → Bool
in_log NoWorker = true
in_log NoJob = true
in_log Stale = true
in_log NoMessage = true
in_log NotDead = true
in_log NoNode = true
in_log _ = false

hides : (e : Event) → AllByRecursion (λ n. in_log n ≡ false) (hidden e)
hides (Claim w) = (refl, (refl, tt))
hides (Commit j) = (refl, tt)
hides (Deliver k) = (refl, tt)
hides (Tick w) = (refl, tt)
hides (Notice w v) = (refl, tt)
hides (NoticeNode w n) = (refl, tt)
hides (Evict n o) = (refl, (refl, (refl, tt)))
hides (Lose n o) = (refl, (refl, tt))
hides (Kill w) = (refl, tt)
hides (KillNode n) = (refl, tt)
hides Join = (refl, tt)

-- none of them is hidden
shown_apart : (code : Refusal) → Among code in_the_log → (e : Event) → Among code (hidden e) → ⊥
shown_apart code h e k =
    true≢false (sym (each (λ n. in_log n ≡ true) in_the_log (refl, (refl, (refl, (refl, (refl, (refl, tt)))))) h.0 code h.1)
    ∙ each (λ n. in_log n ≡ false) (hidden e) (hides e) k.0 code k.1)

pub refusals_are_shown : RefusalsAreShown
refusals_are_shown s log c sound e handed code h = alike e (shown (setting_of s c) log (is_of_job handed) e) (refusal_of (answer c e handed)) (refusals_are_as_shown s log c sound e handed)
  where
    alike : (e : Event) (shows number : Option Refusal) → IsAsShown e shows number → AreAlike code number shows
    alike e (Some n) number k = record { there = λ i. sym k ∙ i; back = λ i. k ∙ i }
    alike e None number k = record { there = λ i. absurd (shown_apart code h e (subst (IsHidden e) i k)); back = λ i. absurd (cc) }
