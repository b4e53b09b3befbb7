-- Events leave the number of objects, but for commits; and what is changed in place.
use Rattle.std.proofs.Common.{◌≡◌, ℕ, zero, suc, ◌+◌, List, [], ◌∷◌, length, Option, Some, None, refl, ap, ◌∙◌, arith}
use Rattle.std.specs.Prelude.{slice_get, slice_set}
use Rattle.step_laws.specs.Limits.{entries_limited, entries_within, whole_limited, whole_within}
use Rattle.step_laws.proofs.Later.{made_kept}
use Rattle.protocol.specs.Nodes.{Node, NodeContext}
use Rattle.protocol.specs.Numbered.{changed_at, changed_by, item_at}
use Rattle.protocol.specs.Steps.{WorkerContext}
use Rattle.protocol.specs.Cluster.{ClusterState, node_at, node_does, node_does_by, worker_does}

made_by : (c : ClusterState) (n : ℕ) (f : NodeContext → NodeContext) (o : Option Node) → (node_does_by c n f o).whole.made ≡ c.made
made_by c n f None = refl
made_by c n f (Some node) = refl

node_made : (c : ClusterState) (n : ℕ) (f : NodeContext → NodeContext) → (node_does c n f).whole.made ≡ c.made
node_made c n f = made_by c n f (node_at c n)

pub node_limited : (b c : ClusterState) (n : ℕ) (f : NodeContext → NodeContext) → whole_limited b (node_does c n f) ≡ whole_within c.made b (node_does c n f)
node_limited b c n f = ap (λ k. whole_within k b (node_does c n f)) (node_made c n f)

pub node_entries : (c : ClusterState) (n : ℕ) (f : NodeContext → NodeContext) → entries_limited (node_does c n f) ≡ entries_within c.made (node_does c n f)
node_entries c n f = ap (λ k. entries_within k (node_does c n f)) (node_made c n f)

pub worker_limited : (c : ClusterState) (w : ℕ) (f : WorkerContext → WorkerContext) → whole_limited c (worker_does c w f) ≡ whole_within c.made c (worker_does c w f)
worker_limited c w f = ap (λ k. whole_within k c (worker_does c w f)) (made_kept c w f)

pub worker_entries : (c : ClusterState) (w : ℕ) (f : WorkerContext → WorkerContext) → entries_limited (worker_does c w f) ≡ entries_within c.made (worker_does c w f)
worker_entries c w f = ap (λ k. entries_within k (worker_does c w f)) (made_kept c w f)

-- the item of a number is changed in its place
pub set_at : {X : Type 0} (xs : List X) (i n : ℕ) (f : X → X) (x : X) → n ≡ 1 + i → slice_get xs i ≡ Some x → changed_at xs n f ≡ slice_set xs i (f x)
set_at xs i n f x e g = let s : n ≡ suc i = omega (arith, e) in ap (λ m. changed_at xs m f) s ∙ ap (changed_by xs (suc i) f) g

set_length : {X : Type 0} (xs : List X) (i : ℕ) (x : X) → length (slice_set xs i x) ≡ length xs
set_length [] i x = refl
set_length (y ∷ ys) zero x = refl
set_length (y ∷ ys) (suc i) x = ap suc (set_length ys i x)

by_length : {X : Type 0} (xs : List X) (n : ℕ) (f : X → X) (o : Option X) → length (changed_by xs n f o) ≡ length xs
by_length xs zero f o = refl
by_length xs (suc i) f None = refl
by_length xs (suc i) f (Some x) = set_length xs i (f x)

-- as many items as before
pub changed_length : {X : Type 0} (xs : List X) (n : ℕ) (f : X → X) → length (changed_at xs n f) ≡ length xs
changed_length xs n f = by_length xs n f (item_at xs n)

nothing_there : {X : Type 0} (xs : List X) (n : ℕ) (f : X → X) (o : Option X) → o ≡ None → changed_by xs n f o ≡ xs
nothing_there xs zero f o e = refl
nothing_there xs (suc i) f o e = ap (changed_by xs (suc i) f) e

-- there is no such item
pub unchanged : {X : Type 0} (xs : List X) (n : ℕ) (f : X → X) → item_at xs n ≡ None → changed_at xs n f ≡ xs
unchanged xs n f e = nothing_there xs n f (item_at xs n) e
