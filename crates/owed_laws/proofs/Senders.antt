-- Whoever says something is there, and a node says that it lacks a copy only to who is there.
use Rattle.std.proofs.Common.{◌≡◌, ℕ, zero, suc, ◌+◌, List, [], ◌∷◌, ◌++◌, length, map, Some, None, Option, refl, ap, sym, subst, inl, inr}
use Rattle.std.specs.Prelude.{false, if◌then◌else◌, slice_get}
use Rattle.meaning.proofs.BirthLaws.{at_test}
use Rattle.meaning.specs.Values.{Id, Outcome}
use Rattle.event_log.specs.Breaks.{Among}
use Rattle.event_log.specs.Entries.{Claim, Commit, Deliver, Event, Evict, Join, Kill, KillNode, Limit, Lose, Notice, NoticeNode, Refusal, Tick}
use Rattle.protocol.specs.Answers.{Refuses, decided, given_out, takes, whole_after}
use Rattle.protocol.specs.Commits.{claim_step, commit_step}
use Rattle.protocol.specs.Deliveries.{reached}
use Rattle.protocol.specs.Events.{committed_by, dead, delivered_by, delivered_to, dies_with, happens, is_live_node, is_live_worker, killed_by, with_committed, with_delivered, objects_made}
use Rattle.protocol.specs.Jobs.{JobRecord, CommitInput, Nothing, OfAnother, OfJob}
use Rattle.protocol.specs.Messages.{Ask, At, Back, CopyOf, Elsewhere, Failed, Fetch, Finished, FinishedAck, Give, Gone, Hold, HoldAck, Envelope, envelope, Message}
use Rattle.protocol.specs.Messages.{Missing, Endpoint, Push, TheNode, TheWorker, Unhold, Wait, Where}
use Rattle.protocol.specs.Nodes.{AskKey, AskReply, Leased, Node, Queued, SentOn, NodeContext}
use Rattle.protocol.specs.Notices.{notice_node_step, notice_step}
use Rattle.protocol.specs.Numbered.{changed_at, item_at}
use Rattle.protocol.specs.Refusals.{is_within_limits, refusal}
use Rattle.protocol.specs.Releases.{release_step}
use Rattle.protocol.specs.Sets.{repeated}
use Rattle.protocol.specs.Slots.{ask_key, fetched, forgets, node_reached, node_reached_from, reply_message, reply_to}
use Rattle.protocol.specs.Steps.{WorkerContext}
use Rattle.protocol.specs.Stores.{copy_in}
use Rattle.protocol.specs.Tables.{Worker, new_worker}
use Rattle.protocol.specs.Ticks.{tick_step}
use Rattle.protocol.specs.Cluster.{ClusterState, after_node, here, moved, node_at, node_does, node_does_by, there, worker_at, worker_does, worker_does_at, worker_does_by}
use Rattle.protocol_owed.proofs.Envelopes.{among-append_cases, among-nothing, among-push_cases}
use Rattle.protocol_owed.proofs.Moves.{IsKept, claim_step-kept, commit_step-kept, notice_node_step-kept, notice_step-kept, reached-kept, release_step-kept, tick_step-kept}
use Rattle.protocol_owed.proofs.Nodes.{there_more, there_still}
use Rattle.protocol_owed.specs.Runs.{Handing, Running, after_event, after_events, opening_run}
use Rattle.owed_asks.proofs.of_lease_discipline.Events.{among_at}
use Rattle.smallest_steps.proofs.SlotMoves as S

-- a worker that says something is there, and one to which a node says that it lacks a copy
pub record IsSaidBy (Who : ℕ → Type 0) (l : Envelope) : Type 0 where
  pub by : (v : ℕ) → l.sender ≡ TheWorker v → Who v
  pub lacking : (n w : ℕ) (y : Id) (number k : ℕ) → l ≡ envelope (TheNode n) (TheWorker w) (Missing y number k) → Who w

abbrev pub AllSaid : (ℕ → Type 0) → List Envelope → Type 0
AllSaid Who ls = (l : Envelope) → Among l ls → IsSaidBy Who l

module _ (Who : ℕ → Type 0) where
  one_more : (ls : List Envelope) (x : Envelope) → IsSaidBy Who x → AllSaid Who ls → AllSaid Who (ls ++ x ∷ [])
  one_more ls x said all l i = elim (among-push_cases ls x l i) [ inl old ↦ all l old | inr new ↦ subst (IsSaidBy Who) (sym new) said ]

  -- what a worker says that is there
  by_worker : (v : ℕ) (to : Endpoint) (m : Message) → Who v → IsSaidBy Who (envelope (TheWorker v) to m)
  by_worker v to m is = record { by = λ u e. subst Who (same v u e) is; lacking = λ n w y number k e. absurd (apart n (ap (λ (l : Envelope). l.sender) e)) }
    where
      same : (v u : ℕ) → TheWorker v ≡ TheWorker u → v ≡ u
      same v u e = cc

      apart : (n : ℕ) → TheWorker v ≡ TheNode n → ⊥
      apart n e = cc

  by_node : (n w : ℕ) (m : Message) → ((y : Id) (number k : ℕ) → m ≡ Missing y number k → Who w) → IsSaidBy Who (envelope (TheNode n) (TheWorker w) m)
  by_node n w m there = record {
    by = λ u e. absurd (cc);
    lacking = λ i v y number k e. subst Who (same_worker w v (ap (λ (l : Envelope). l.receiver) e)) (there y number k (ap (λ (l : Envelope). l.message) e));
  }
    where
      same_worker : (w v : ℕ) → TheWorker w ≡ TheWorker v → w ≡ v
      same_worker w v e = cc

  replied : (k : AskKey) (x : AskReply) (y : Id) (number m : ℕ) → reply_message k x ≡ Missing y number m → ⊥
  replied k (Leased w) y number m e = cc
  replied k (SentOn n) y number m e = cc
  replied k Queued y number m e = cc

  -- ---- a node

  abbrev SaidThere : NodeContext → Type 0
  SaidThere t = AllSaid Who t.out.envelopes

  there_kept : S.KeepsSlots SaidThere
  there_kept = record {
    opens = λ t w p. p;
    replies = λ t k x p. one_more t.out.envelopes _ (by_node t.number k.attempt.object.owner (reply_message k x) (λ y number m e. absurd (replied k x y number m e))) p;
    scheduler = λ t s p. p;
  }

  fetched_said : (t : NodeContext) (o : Id) (number w : ℕ) (c : Option Outcome) → Who w → SaidThere t → SaidThere (fetched t o number w c)
  fetched_said t o number w None is p = one_more t.out.envelopes _ (by_node t.number w (Missing o number t.number) (λ y n k e. is)) p
  fetched_said t o number w (Some c) is p = one_more t.out.envelopes _ (by_node t.number w (CopyOf o number c) (λ y n k e. is)) p

  reached_said : (t : NodeContext) (w : ℕ) (m : Message) → Who w → SaidThere t → SaidThere (node_reached_from t w m)
  reached_said t w (Ask a i) is p = S.asked_by-kept SaidThere there_kept t (ask_key a i) (reply_to t.node.scheduler (ask_key a i)) p
  reached_said t w (Back a) is p = S.is_back-kept SaidThere there_kept t w a p
  reached_said t w (Fetch o number) is p = fetched_said t o number w (copy_in t.node.store o number) is p
  reached_said t w (Unhold e o why) is p = p
  reached_said t w (Give a i v) is p = p
  reached_said t w (Elsewhere a i m) is p = p
  reached_said t w (Wait a i) is p = p
  reached_said t w (Push a spec) is p = p
  reached_said t w (Finished a m rs) is p = p
  reached_said t w (FinishedAck a) is p = p
  reached_said t w (Failed a f) is p = p
  reached_said t w (Where o) is p = p
  reached_said t w (At o number ns kept) is p = p
  reached_said t w (Gone o f) is p = p
  reached_said t w (CopyOf o number c) is p = p
  reached_said t w (Missing o number m) is p = p
  reached_said t w (Hold e o) is p = p
  reached_said t w (HoldAck e o) is p = p

  -- ---- a worker that is there

  module _ (me : ℕ) (is : Who me) where
    abbrev SaidHere : WorkerContext → Type 0
    SaidHere h = (h.me ≡ me) × AllSaid Who h.there.out.envelopes

    here_kept : IsKept SaidHere
    here_kept = record {
      logs = λ h es _ p. p;
      says = λ h w m p. (p.0, one_more h.there.out.envelopes _ (by_worker h.me (TheWorker w) m (subst Who (sym p.0) is)) p.1);
      says_to_node = λ h n m p. (p.0, one_more h.there.out.envelopes _ (by_worker h.me (TheNode n) m (subst Who (sym p.0) is)) p.1);
      worker = λ h x _ _ p. p;
      store = λ h s p. p;
      frees = λ h p. (p.0, S.frees-kept SaidThere there_kept h.there h.me p.1);
      asks = λ h p. (p.0, S.asks_slot-kept SaidThere there_kept h.there h.me p.1);
    }

-- ---- the whole

abbrev pub IsHere : ClusterState → ℕ → Type 0
IsHere c w = (x : Worker) × (worker_at c w ≡ Some x)

abbrev pub KeepsSenders : ClusterState → Type 0
KeepsSenders c = AllSaid (IsHere c) c.network

grown : (P Q : ℕ → Type 0) → ((v : ℕ) → P v → Q v) → (ls : List Envelope) → AllSaid P ls → AllSaid Q ls
grown P Q more ls all l i = record { by = λ v e. more v ((all l i).by v e); lacking = λ n w y number k e. more w ((all l i).lacking n w y number k e) }

both_said : (Who : ℕ → Type 0) (xs ys : List Envelope) → AllSaid Who xs → AllSaid Who ys → AllSaid Who (xs ++ ys)
both_said Who xs ys p q l i = elim (among-append_cases xs ys l i) [ inl old ↦ p l old | inr new ↦ q l new ]

after_node_said : (c : ClusterState) (n : ℕ) (t : NodeContext) → KeepsSenders c → AllSaid (IsHere c) t.out.envelopes → KeepsSenders (after_node c n t).whole
after_node_said c n t k p =
    grown (IsHere c) (IsHere (after_node c n t).whole) (λ v x. (x.0, there_more c.workers (repeated t.opened (new_worker n)) v x.0 x.1)) (c.network ++ t.out.envelopes)
    (both_said (IsHere c) c.network t.out.envelopes k p)

none_said : (Who : ℕ → Type 0) → AllSaid Who []
none_said Who l i = absurd (among-nothing l i)

node_said : (c : ClusterState) (n : ℕ) (f : NodeContext → NodeContext) → ((t : NodeContext) → AllSaid (IsHere c) t.out.envelopes → AllSaid (IsHere c) (f t).out.envelopes) → KeepsSenders c →
    KeepsSenders (node_does c n f).whole
node_said c n f step k = by_item (node_at c n)
  where
    by_item : (o : Option Node) → KeepsSenders (node_does_by c n f o).whole
    by_item None = k
    by_item (Some node) = after_node_said c n (f (there c n node)) k (step (there c n node) (none_said (IsHere c)))

still_here : (c : ClusterState) (w : ℕ) (f : Worker → Worker) (v : ℕ) → IsHere c v → IsHere (record c { workers = changed_at c.workers w f }) v
still_here c w f v (x, e) = there_still c.workers w v f x e

worker_said : (c : ClusterState) (w : ℕ) (f : WorkerContext → WorkerContext) → ((P : WorkerContext → Type 0) → IsKept P → (h : WorkerContext) → P h → P (f h)) → KeepsSenders c →
    KeepsSenders (worker_does c w f).whole
worker_said c w f step k = by_item (worker_at c w) refl
  where
    by_home : (x : Worker) → worker_at c w ≡ Some x → (o : Option Node) → KeepsSenders (worker_does_at c w x f o).whole
    by_home x at None = k
    by_home x at (Some node) =
        let h : WorkerContext = here c w x node in
        let kept = here_kept (IsHere c) w (x, at) in
        let P : WorkerContext → Type 0 = SaidHere (IsHere c) w (x, at) in
        let end : P (release_step (f h)) = release_step-kept P kept (f h) (step P kept h (refl, none_said (IsHere c))) in
        let g : WorkerContext = release_step (f h) in
        let d : ClusterState = record c { workers = changed_at c.workers w (λ _. g.worker) } in
        let more : (v : ℕ) → IsHere c v → IsHere d v = still_here c w (λ _. g.worker) in
        after_node_said d x.node g.there (grown (IsHere c) (IsHere d) more c.network k) (grown (IsHere c) (IsHere d) more g.there.out.envelopes end.1)

    by_item : (o : Option Worker) → worker_at c w ≡ o → KeepsSenders (worker_does_by c w f o).whole
    by_item None at = k
    by_item (Some x) at = by_home x at (node_at c x.node)

-- ---- each event

envelope_said : (c : ClusterState) (i : ℕ) (from to : Endpoint) (m : Message) → Among (envelope from to m) c.network → KeepsSenders c → KeepsSenders (delivered_to c (envelope from to m) to).whole
envelope_said c i from (TheWorker w) m sent k =
    at_test (λ b. KeepsSenders (if b then worker_does c w (λ h. reached h from m) else moved c).whole) (is_live_worker (worker_at c w))
    (λ _. worker_said c w (λ h. reached h from m) (λ P kept h p. reached-kept P kept h from m p) k) (λ _. k)
envelope_said c i from (TheNode n) m sent k =
    at_test (λ b. KeepsSenders (if b then node_does c n (λ h. node_reached h from m) else moved c).whole) (is_live_node (node_at c n))
    (λ _. node_said c n (λ h. node_reached h from m) (by_sender from ((k (envelope from (TheNode n) m) sent).by)) k) (λ _. k)
  where
    by_sender : (p : Endpoint) → ((v : ℕ) → p ≡ TheWorker v → IsHere c v) → (t : NodeContext) → AllSaid (IsHere c) t.out.envelopes → AllSaid (IsHere c) (node_reached t p m).out.envelopes
    by_sender (TheWorker v) by t p = reached_said (IsHere c) t v m (by v refl) p
    by_sender (TheNode j) by t p = p

among_item : (ls : List Envelope) (i : ℕ) (l : Envelope) → item_at ls i ≡ Some l → Among l ls
among_item ls i l e = among_at ls i l e

deliver_said : (c : ClusterState) (i : ℕ) (o : Option Envelope) → item_at c.network i ≡ o → KeepsSenders c → KeepsSenders (delivered_by c i o).whole
deliver_said c i None e k = k
deliver_said c i (Some l) e k = envelope_said (with_delivered c i) i l.sender l.receiver l.message (among_item c.network i l e) k

commit_said : (c : ClusterState) (j : ℕ) (handed : CommitInput) (g : Option JobRecord) → KeepsSenders c → KeepsSenders (committed_by c j handed g).whole
commit_said c j Nothing g k = k
commit_said c j OfAnother g k = k
commit_said c j (OfJob o) None k = k
commit_said c j (OfJob o) (Some g) k = worker_said (with_committed c j (objects_made o.births)) g.worker (λ h. commit_step h o) (λ P kept h p. commit_step-kept P kept h o p) k

kill_said : (c : ClusterState) (w : ℕ) (o : Option Worker) → KeepsSenders c → KeepsSenders (killed_by c w o).whole
kill_said c w None k = k
kill_said c w (Some x) k =
    let d : ClusterState = record c { workers = changed_at c.workers w dead } in
    node_said d x.node (λ h. forgets h w) (λ t p. S.forgets-kept (SaidThere (IsHere d)) (there_kept (IsHere d)) t w p)
    (grown (IsHere c) (IsHere d) (still_here c w dead) c.network k)

still_mapped : (f : Worker → Worker) (xs : List Worker) (w : ℕ) (x : Worker) → item_at xs w ≡ Some x → (y : Worker) × (item_at (map f xs) w ≡ Some y)
still_mapped f xs zero x e = absurd (cc)
still_mapped f xs (suc i) x e = by_place xs i e
  where
    by_place : (ys : List Worker) (j : ℕ) → slice_get ys j ≡ Some x → (y : Worker) × (slice_get (map f ys) j ≡ Some y)
    by_place [] j g = absurd (cc)
    by_place (y ∷ ys) zero g = (f y, refl)
    by_place (y ∷ ys) (suc j) g = by_place ys j g

happens_said : (c : ClusterState) (e : Event) (handed : CommitInput) → KeepsSenders c → KeepsSenders (happens c e handed).whole
happens_said c (Claim w) handed k =
    worker_said (record c { jobs = c.jobs ++ record { worker = w; is_committed = false } ∷ [] }) w (λ h. claim_step h (length c.jobs + 1))
    (λ P kept h p. claim_step-kept P kept h (length c.jobs + 1) p) k
happens_said c (Commit j) handed k = commit_said c j handed (item_at c.jobs j) k
happens_said c (Deliver i) handed k = deliver_said c i (item_at c.network i) refl k
happens_said c (Tick w) handed k = worker_said c w tick_step (λ P kept h p. tick_step-kept P kept h p) k
happens_said c (Notice w v) handed k = worker_said c w (λ h. notice_step h v) (λ P kept h p. notice_step-kept P kept h v p) k
happens_said c (NoticeNode w n) handed k = worker_said c w (λ h. notice_node_step h n) (λ P kept h p. notice_node_step-kept P kept h n p) k
happens_said c (Evict n o) handed k = k
happens_said c (Lose n o) handed k = k
happens_said c (Kill w) handed k = kill_said c w (worker_at c w) k
happens_said c (KillNode n) handed k =
    grown (IsHere c) (IsHere (happens c (KillNode n) handed).whole) (λ v x. still_mapped (dies_with n) c.workers v x.0 x.1) c.network k
happens_said c Join handed k = k

decided_said : (c : ClusterState) (e : Event) (handed : CommitInput) (code : Option Refusal) → KeepsSenders c → KeepsSenders (whole_after c (decided c e handed code))
decided_said c e handed None k =
    at_test (λ b. KeepsSenders (whole_after c (if b then takes (happens c e handed) (given_out c e) else Refuses Limit))) (is_within_limits (happens c e handed).whole)
    (λ _. happens_said c e handed k) (λ _. k)
decided_said c e handed (Some code) k = k

pub senders_stay : (r : Running) (gs : List Handing) → KeepsSenders r.whole → KeepsSenders (after_events r gs).whole
senders_stay r [] k = k
senders_stay r (g ∷ gs) k = senders_stay (after_event r g) gs (decided_said r.whole g.event g.handed (refusal r.whole g.event g.handed) k)

-- in every run whoever said something is there
pub senders_are_there : (nodes slots : ℕ) (gs : List Handing) → KeepsSenders (after_events (opening_run nodes slots) gs).whole
senders_are_there nodes slots gs = senders_stay (opening_run nodes slots) gs (none_said (IsHere (opening_run nodes slots).whole))
