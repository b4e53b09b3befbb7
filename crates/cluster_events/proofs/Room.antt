-- Whether there is room for what a worker's event opens, which is one worker at most.
use Rattle.std.proofs.Common.{◌≡◌, ◌≤◌, ◌<◌, ℕ, ◌+◌, Bool, true, false, List, length, Option, Some, None, refl, ap, ◌∙◌, arith}
use Rattle.std.specs.Prelude.{◌&&◌, nat_lt}
use Rattle.std.proofs.lemmas.Bool.Decides.{nat_tests}
use Rattle.step_laws.specs.Limits.{is_within}
use Rattle.step_laws.specs.Opens.{fits}
use Rattle.step_laws.proofs.Counts.{worker_counts}
use Rattle.step_laws.proofs.Committing.{commit_opens}
use Rattle.step_laws.proofs.OneOpens.{claim_opens, notice_node_opens, notice_opens, reached_opens, tick_opens}
use Rattle.step_laws.proofs.Releasing.{release_opens_none}
use Rattle.protocol.specs.Messages.{Envelope}
use Rattle.protocol.specs.Nodes.{Node}
use Rattle.protocol.specs.Numbered.{item_at}
use Rattle.protocol.specs.Releases.{release_step}
use Rattle.protocol.specs.Steps.{WorkerContext}
use Rattle.protocol.specs.Tables.{Worker}
use Rattle.protocol.specs.Cluster.{ClusterState, here, node_at, worker_at, worker_does, worker_does_at, worker_does_by}
use Rattle.worker_acts.specs.Acts.{act_step, received}
use Rattle.worker_acts.specs.declared.part.Act.{Act}
use Rattle.worker_acts.specs.declared.part.Act.TheVariants.{Claim, Commit, Receive, LearnNodeDied, LearnWorkerDied, Tick}

received_opens : (h : WorkerContext) (o : Option Envelope) → (received h o).there.opened ≤ h.there.opened + 1
received_opens h None = omega arith
received_opens h (Some l) = reached_opens h l.sender l.message

act_opens : (sent : List Envelope) (a : Act) (h : WorkerContext) → (act_step sent a h).there.opened ≤ h.there.opened + 1
act_opens sent (Claim j) h = claim_opens h j
act_opens sent (Commit d) h = commit_opens h d
act_opens sent (Receive k) h = received_opens h (item_at sent k)
act_opens sent Tick h = tick_opens h
act_opens sent (LearnWorkerDied v) h = notice_opens h v
act_opens sent (LearnNodeDied n) h = notice_node_opens h n

same_most : (a b c : ℕ) → a ≡ b → b ≤ c → a ≤ c
same_most a b c e l = omega (arith, e, l)

-- a worker's part in an event opens one worker at most
part_opens : (sent : List Envelope) (a : Act) (h : WorkerContext) → (release_step (act_step sent a h)).there.opened ≤ h.there.opened + 1
part_opens sent a h =
    same_most (release_step (act_step sent a h)).there.opened (act_step sent a h).there.opened (h.there.opened + 1) (release_opens_none (act_step sent a h))
    (act_opens sent a h)

still_no : (a b c d : Bool) → (d ≡ true → b ≡ true) → (a && b) && c ≡ false → (a && d) && c ≡ false
still_no false b c d f e = refl
still_no true b c false f e = refl
still_no true true c true f e = e
still_no true false c true f e = absurd (let g : false ≡ true = f refl in cc)

still_yes : (a b c d : Bool) → d ≡ true → (a && b) && c ≡ true → (a && d) && c ≡ true
still_yes false b c d f e = absurd cc
still_yes true true c true f e = e
still_yes true false c d f e = absurd cc
still_yes true true c false f e = absurd cc

fewer_fit : (w k : ℕ) → nat_lt (w + k) 1025 ≡ true → nat_lt (w + 0) 1025 ≡ true
fewer_fit w k e = grind (arith, nat_tests, e)

one_fits : (w k : ℕ) → w < 1024 → k ≤ 1 → nat_lt (w + k) 1025 ≡ true
one_fits w k l m = grind (arith, nat_tests, l, m)

more_no : (n w k made : ℕ) → fits n (w + 0) made ≡ false → fits n (w + k) made ≡ false
more_no n w k made e = still_no (nat_lt n 65) (nat_lt (w + 0) 1025) (nat_lt made 1000001) (nat_lt (w + k) 1025) (fewer_fit w k) e

one_yes : (n w k made : ℕ) → w < 1024 → k ≤ 1 → fits n (w + 0) made ≡ true → fits n (w + k) made ≡ true
one_yes n w k made l m e = still_yes (nat_lt n 65) (nat_lt (w + 0) 1025) (nat_lt made 1000001) (nat_lt (w + k) 1025) (one_fits w k l m) e

none_more : (n : ℕ) → n ≡ n + 0
none_more n = omega arith

at_most_one : (k : ℕ) → k ≤ 0 + 1 → k ≤ 1
at_most_one k l = omega (arith, l)

as_it_is : (c : ClusterState) (made : ℕ) → is_within made c ≡ fits (length c.nodes) (length c.workers + 0) made
as_it_is c made = ap (λ k. fits (length c.nodes) k made) (none_more (length c.workers))

-- ---- where there is no room for what there is already, there is none for more

no_room_at : (c : ClusterState) (made w : ℕ) (x : Worker) (f : WorkerContext → WorkerContext) (o : Option Node) → fits (length c.nodes) (length c.workers + 0) made ≡ false
    → is_within made (worker_does_at c w x f o).whole ≡ false
no_room_at c made w x f None e = as_it_is c made ∙ e
no_room_at c made w x f (Some node) e =
    let h : WorkerContext = release_step (f (here c w x node)) in
    worker_counts c made w x.node h ∙ more_no (length c.nodes) (length c.workers) h.there.opened made e

no_room_by : (c : ClusterState) (made w : ℕ) (f : WorkerContext → WorkerContext) (o : Option Worker) → fits (length c.nodes) (length c.workers + 0) made ≡ false
    → is_within made (worker_does_by c w f o).whole ≡ false
no_room_by c made w f None e = as_it_is c made ∙ e
no_room_by c made w f (Some x) e = no_room_at c made w x f (node_at c x.node) e

pub no_room : (c : ClusterState) (made w : ℕ) (f : WorkerContext → WorkerContext) → fits (length c.nodes) (length c.workers + 0) made ≡ false
    → is_within made (worker_does c w f).whole ≡ false
no_room c made w f e = no_room_by c made w f (worker_at c w) e

-- ---- with fewer workers than there may be, there is room for one

room_at : (c : ClusterState) (made w : ℕ) (x : Worker) (sent : List Envelope) (a : Act) (o : Option Node) → length c.workers < 1024 → fits (length c.nodes) (length c.workers + 0) made ≡ true
    → is_within made (worker_does_at c w x (act_step sent a) o).whole ≡ true
room_at c made w x sent a None l e = as_it_is c made ∙ e
room_at c made w x sent a (Some node) l e =
    let h : WorkerContext = release_step (act_step sent a (here c w x node)) in
    worker_counts c made w x.node h
    ∙ one_yes (length c.nodes) (length c.workers) h.there.opened made l (at_most_one h.there.opened (part_opens sent a (here c w x node))) e

room_by : (c : ClusterState) (made w : ℕ) (sent : List Envelope) (a : Act) (o : Option Worker) → length c.workers < 1024 → fits (length c.nodes) (length c.workers + 0) made ≡ true
    → is_within made (worker_does_by c w (act_step sent a) o).whole ≡ true
room_by c made w sent a None l e = as_it_is c made ∙ e
room_by c made w sent a (Some x) l e = room_at c made w x sent a (node_at c x.node) l e

pub room : (c : ClusterState) (made w : ℕ) (sent : List Envelope) (a : Act) → length c.workers < 1024 → fits (length c.nodes) (length c.workers + 0) made ≡ true
    → is_within made (worker_does c w (act_step sent a)).whole ≡ true
room c made w sent a l e = room_by c made w sent a (worker_at c w) l e
