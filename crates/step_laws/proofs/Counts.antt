-- What is counted after an event.
use Rattle.std.proofs.Common.{◌≡◌, ℕ, zero, suc, ◌+◌, List, [], ◌∷◌, ◌++◌, length, Option, Some, None, refl, sym, ap, ◌∙◌, arith}
use Rattle.std.specs.Prelude.{slice_get, slice_set}
use Rattle.protocol.specs.Numbered.{changed_at, changed_by, item_at}
use Rattle.protocol.specs.Sets.{repeated}
use Rattle.protocol.specs.Nodes.{Node, NodeContext}
use Rattle.protocol.specs.Tables.{new_worker}
use Rattle.protocol.specs.Steps.{WorkerContext}
use Rattle.protocol.specs.Messages.{Message, Endpoint}
use Rattle.protocol.specs.Slots.{forgets, node_reached}
use Rattle.protocol.specs.Cluster.{ClusterState, after_node, after_worker, node_at, node_does, node_does_by, there}
use Rattle.step_laws.specs.Opens.{death_opens, fits, one_if, opened_at, opened_by_death, reached_opens}
use Rattle.step_laws.specs.Limits.{is_within}
use Rattle.step_laws.proofs.Openings.{death_open, reached_open}

set_length : {X : Type 0} (xs : List X) (i : ℕ) (x : X) → length (slice_set xs i x) ≡ length xs
set_length [] i x = refl
set_length (y ∷ ys) zero x = refl
set_length (y ∷ ys) (suc i) x = ap suc (set_length ys i x)

by_length : {X : Type 0} (xs : List X) (n : ℕ) (f : X → X) (o : Option X) → length (changed_by xs n f o) ≡ length xs
by_length xs zero f o = refl
by_length xs (suc i) f None = refl
by_length xs (suc i) f (Some x) = set_length xs i (f x)

changed_length : {X : Type 0} (xs : List X) (n : ℕ) (f : X → X) → length (changed_at xs n f) ≡ length xs
changed_length xs n f = by_length xs n f (item_at xs n)

repeated_length : {X : Type 0} (k : ℕ) (x : X) → length (repeated k x) ≡ k
repeated_length zero x = refl
repeated_length (suc k) x = ap suc (repeated_length k x)

joined_length : {X : Type 0} (xs ys : List X) → length (xs ++ ys) ≡ length xs + length ys
joined_length [] ys = omega arith
joined_length (x ∷ xs) ys = let e = joined_length xs ys in omega (arith, e)

more_length : {X : Type 0} (xs : List X) (k : ℕ) (x : X) → length (xs ++ repeated k x) ≡ length xs + k
more_length xs k x = joined_length xs (repeated k x) ∙ ap (λ n. length xs + n) (repeated_length k x)

-- whatever a node did, its part of the counts is what it opened
pub node_counts : (c : ClusterState) (made n : ℕ) (h : NodeContext) → is_within made (after_node c n h).whole ≡ fits (length c.nodes) (length c.workers + h.opened) made
node_counts c made n h =
    ap (λ k. fits k (length (c.workers ++ repeated h.opened (new_worker n))) made) (changed_length c.nodes n (λ _. h.node))
    ∙ ap (λ k. fits (length c.nodes) k made) (more_length c.workers h.opened (new_worker n))

-- whatever a worker did, its part of the counts is what its node opened
pub worker_counts : (c : ClusterState) (made w n : ℕ) (h : WorkerContext) → is_within made (after_worker c w n h).whole ≡ fits (length c.nodes) (length c.workers + h.there.opened) made
worker_counts c made w n h =
    node_counts (record c { workers = changed_at c.workers w (λ _. h.worker) }) made n h.there
    ∙ ap (λ k. fits (length c.nodes) (k + h.there.opened) made) (changed_length c.workers w (λ _. h.worker))

none_before : (k : ℕ) → 0 + k ≡ k
none_before k = omega arith

reached_by : (c : ClusterState) (made n : ℕ) (sender : Endpoint) (m : Message) (o : Option Node)
    → is_within made (node_does_by c n (λ h. node_reached h sender m) o).whole ≡ fits (length c.nodes) (length c.workers + opened_at o sender m) made
reached_by c made n sender m None = let e : length c.workers ≡ length c.workers + 0 = omega arith in ap (λ k. fits (length c.nodes) k made) e
reached_by c made n sender m (Some node) =
    node_counts c made n (node_reached (there c n node) sender m)
    ∙ ap (λ k. fits (length c.nodes) (length c.workers + k) made) (reached_open (there c n node) sender m ∙ none_before (one_if (reached_opens node.scheduler sender m)))

-- whether a message to a node would pass a limit is read off before
pub reached_counts : (c : ClusterState) (made n : ℕ) (sender : Endpoint) (m : Message)
    → is_within made (node_does c n (λ h. node_reached h sender m)).whole ≡ fits (length c.nodes) (length c.workers + opened_at (node_at c n) sender m) made
reached_counts c made n sender m = reached_by c made n sender m (node_at c n)

-- whether a death would pass a limit is read off before
died_by : (c : ClusterState) (made n w : ℕ) (o : Option Node) → is_within made (node_does_by c n (λ h. forgets h w) o).whole ≡ fits (length c.nodes) (length c.workers + opened_by_death o w) made
died_by c made n w None = let e : length c.workers ≡ length c.workers + 0 = omega arith in ap (λ k. fits (length c.nodes) k made) e
died_by c made n w (Some node) =
    node_counts c made n (forgets (there c n node) w)
    ∙ ap (λ k. fits (length c.nodes) (length c.workers + k) made) (death_open (there c n node) w ∙ none_before (one_if (death_opens node.scheduler w)))

pub died_counts : (c : ClusterState) (made n w : ℕ) → is_within made (node_does c n (λ h. forgets h w)).whole ≡ fits (length c.nodes) (length c.workers + opened_by_death (node_at c n) w) made
died_counts c made n w = died_by c made n w (node_at c n)

some_is : {X : Type 0} (x y : X) → Some x ≡ Some y → x ≡ y
some_is x y e = cc

-- what was taken out and is put back as it was, while one and then another stood in its place
pub restored : {X : Type 0} (xs : List X) (i : ℕ) (d b x : X) → slice_get xs i ≡ Some x → slice_set (slice_set (slice_set xs i d) i b) i x ≡ xs
restored [] i d b x e = refl
restored (y ∷ ys) zero d b x e = let f : y ≡ x = some_is y x e in ap (λ z. z ∷ ys) (sym f)
restored (y ∷ ys) (suc i) d b x e = ap (λ zs. y ∷ zs) (restored ys i d b x e)
