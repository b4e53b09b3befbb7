-- Workers and nodes that die, and nodes that come: whether a limit is passed is read off before.
use Rattle.std.proofs.Common.{◌≡◌, ◌≤◌, ◌<◌, ℕ, ◌+◌, Bool, true, false, List, [], ◌∷◌, ◌++◌, length, map, Some, None, refl, sym, ap, ◌∙◌, arith}
use Rattle.std.specs.Prelude.{◌&&◌, nat_lt, slice_get}
use Rattle.std.proofs.lemmas.Bool.Decides.{nat_tests}
use Rattle.step_laws.specs.Limits.{entries_limited, is_within, whole_limited}
use Rattle.step_laws.specs.Opens.{fits, opened_by_death}
use Rattle.step_laws.proofs.Taken.{died_stays, died_taken, refused_entries, refused_whole, taken_entries, taken_whole}
use Rattle.number_lists.proofs.Places.{item_there}
use Rattle.protocol.specs.Events.{dead, dead_node, dies_with, joined, killed, killed_by, node_killed, store_does}
use Rattle.protocol.specs.Nodes.{new_node}
use Rattle.protocol.specs.Numbered.{changed_at}
use Rattle.protocol.specs.Slots.{forgets}
use Rattle.protocol.specs.Stores.{Store}
use Rattle.protocol.specs.Tables.{Worker}
use Rattle.protocol.specs.Cluster.{Transition, ClusterState, moved, node_at, node_does, worker_at}
use Rattle.cluster_events.proofs.Nodes.{changed_length, node_entries, node_limited, unchanged}

-- ---- a worker dies

abbrev pub with_dead : ClusterState → ℕ → ClusterState
with_dead c w = record c { workers = changed_at c.workers w dead }

-- the node hears of it
abbrev pub death_heard : ClusterState → ℕ → ℕ → Transition
death_heard c w n = node_does (with_dead c w) n (λ h. forgets h w)

killed_there : (c : ClusterState) (i w : ℕ) (x : Worker) → w ≡ 1 + i → slice_get c.workers i ≡ Some x → killed c w ≡ death_heard c w x.node
killed_there c i w x e g = ap (killed_by c w) (item_there c.workers i w x e g)

pub killed_none : (c : ClusterState) (w : ℕ) → worker_at c w ≡ None → killed c w ≡ moved c
killed_none c w e = ap (killed_by c w) e

room_left : (c : ClusterState) (w n : ℕ) (b : Bool) → b ≡ fits (length c.nodes) (length c.workers + opened_by_death (node_at c n) w) c.made
    → fits (length c.nodes) (length (changed_at c.workers w dead) + opened_by_death (node_at c n) w) c.made ≡ b
room_left c w n b e = ap (λ k. fits (length c.nodes) (k + opened_by_death (node_at c n) w) c.made) (changed_length c.workers w dead) ∙ sym e

pub record Dies (c : ClusterState) (w n : ℕ) : Type 0 where
  pub whole : whole_limited c (killed c w) ≡ (death_heard c w n).whole
  pub entries : entries_limited (killed c w) ≡ Some (death_heard c w n).out.entries

pub record Lives (c : ClusterState) (w : ℕ) : Type 0 where
  pub whole : whole_limited c (killed c w) ≡ c
  pub entries : entries_limited (killed c w) ≡ None

-- it is within the limits
pub dies : (c : ClusterState) (i w : ℕ) (x : Worker) → w ≡ 1 + i → slice_get c.workers i ≡ Some x
    → true ≡ fits (length c.nodes) (length c.workers + opened_by_death (node_at c x.node) w) c.made → Dies c w x.node
dies c i w x e g f =
    let t = died_taken c (with_dead c w) c.made x.node w (room_left c w x.node true f) in
    record {
      whole = ap (whole_limited c) (killed_there c i w x e g) ∙ node_limited c (with_dead c w) x.node (λ h. forgets h w) ∙ t.whole;
      entries = ap entries_limited (killed_there c i w x e g) ∙ node_entries (with_dead c w) x.node (λ h. forgets h w) ∙ t.entries;
    }

-- it would pass a limit
pub lives : (c : ClusterState) (i w : ℕ) (x : Worker) → w ≡ 1 + i → slice_get c.workers i ≡ Some x
    → false ≡ fits (length c.nodes) (length c.workers + opened_by_death (node_at c x.node) w) c.made → Lives c w
lives c i w x e g f =
    let t = died_stays c (with_dead c w) c.made x.node w (room_left c w x.node false f) in
    record {
      whole = ap (whole_limited c) (killed_there c i w x e g) ∙ node_limited c (with_dead c w) x.node (λ h. forgets h w) ∙ t.whole;
      entries = ap entries_limited (killed_there c i w x e g) ∙ node_entries (with_dead c w) x.node (λ h. forgets h w) ∙ t.entries;
    }

-- ---- what is changed with as many nodes and workers as there are

none_more : (n : ℕ) → n ≡ n + 0
none_more n = omega arith

as_many : (c d : ClusterState) (b : Bool) → length d.nodes ≡ length c.nodes → length d.workers ≡ length c.workers
    → b ≡ fits (length c.nodes) (length c.workers + 0) c.made
    → is_within c.made d ≡ b
as_many c d b n w e =
    ap (λ k. fits k (length d.workers) c.made) n ∙ ap (λ k. fits (length c.nodes) k c.made) (w ∙ none_more (length c.workers)) ∙ sym e

map_length : {X Y : Type 0} (f : X → Y) (xs : List X) → length (map f xs) ≡ length xs
map_length f [] = refl
map_length f (x ∷ xs) = let e = map_length f xs in omega (arith, e)

node_killed_within : (c : ClusterState) (n : ℕ) (b : Bool) → b ≡ fits (length c.nodes) (length c.workers + 0) c.made → is_within c.made (node_killed c n).whole ≡ b
node_killed_within c n b e = as_many c (node_killed c n).whole b (changed_length c.nodes n dead_node) (map_length (dies_with n) c.workers) e

-- ---- a node dies

pub node_killed_taken : (c : ClusterState) (n : ℕ) → true ≡ fits (length c.nodes) (length c.workers + 0) c.made
    → whole_limited c (node_killed c n) ≡ (node_killed c n).whole
node_killed_taken c n e = taken_whole c c.made (node_killed c n) (node_killed_within c n true e)

pub node_killed_entries : (c : ClusterState) (n : ℕ) → true ≡ fits (length c.nodes) (length c.workers + 0) c.made → entries_limited (node_killed c n) ≡ Some []
node_killed_entries c n e = taken_entries c.made (node_killed c n) (node_killed_within c n true e)

pub node_killed_stays : (c : ClusterState) (n : ℕ) → false ≡ fits (length c.nodes) (length c.workers + 0) c.made → whole_limited c (node_killed c n) ≡ c
node_killed_stays c n e = refused_whole c c.made (node_killed c n) (node_killed_within c n false e)

pub node_killed_none : (c : ClusterState) (n : ℕ) → false ≡ fits (length c.nodes) (length c.workers + 0) c.made → entries_limited (node_killed c n) ≡ None
node_killed_none c n e = refused_entries c.made (node_killed c n) (node_killed_within c n false e)

-- ---- a node comes

one_longer : {X : Type 0} (xs : List X) (x : X) → length (xs ++ x ∷ []) ≡ length xs + 1
one_longer [] x = refl
one_longer (y ∷ xs) x = let e = one_longer xs x in omega (arith, e)

full : (n : ℕ) → 64 ≤ n → nat_lt (n + 1) 65 ≡ false
full n l = grind (arith, nat_tests, l)

not_full : (n : ℕ) → n < 64 → nat_lt (n + 1) 65 ≡ nat_lt n 65
not_full n l = yes ∙ sym no
  where
    yes : nat_lt (n + 1) 65 ≡ true
    yes = grind (arith, nat_tests, l)

    no : nat_lt n 65 ≡ true
    no = grind (arith, nat_tests, l)

joined_full : (c : ClusterState) → 64 ≤ length c.nodes → is_within c.made (joined c).whole ≡ false
joined_full c l =
    let w = nat_lt (length c.workers) 1025 in
    let m = nat_lt c.made 1000001 in
    ap (λ k. (nat_lt k 65 && w) && m) (one_longer c.nodes (new_node c.slots)) ∙ ap (λ b. (b && w) && m) (full (length c.nodes) l)

joined_within : (c : ClusterState) (b : Bool) → length c.nodes < 64 → b ≡ fits (length c.nodes) (length c.workers + 0) c.made → is_within c.made (joined c).whole ≡ b
joined_within c b l e =
    let w = nat_lt (length c.workers) 1025 in
    let m = nat_lt c.made 1000001 in
    ap (λ k. (nat_lt k 65 && w) && m) (one_longer c.nodes (new_node c.slots))
    ∙ ap (λ b. (b && w) && m) (not_full (length c.nodes) l)
    ∙ ap (λ k. fits (length c.nodes) k c.made) (none_more (length c.workers)) ∙ sym e

pub join_full : (c : ClusterState) → 64 ≤ length c.nodes → whole_limited c (joined c) ≡ c
join_full c l = refused_whole c c.made (joined c) (joined_full c l)

pub join_full_none : (c : ClusterState) → 64 ≤ length c.nodes → entries_limited (joined c) ≡ None
join_full_none c l = refused_entries c.made (joined c) (joined_full c l)

pub join_taken : (c : ClusterState) → length c.nodes < 64 → true ≡ fits (length c.nodes) (length c.workers + 0) c.made → whole_limited c (joined c) ≡ (joined c).whole
join_taken c l e = taken_whole c c.made (joined c) (joined_within c true l e)

pub join_entries : (c : ClusterState) → length c.nodes < 64 → true ≡ fits (length c.nodes) (length c.workers + 0) c.made → entries_limited (joined c) ≡ Some []
join_entries c l e = taken_entries c.made (joined c) (joined_within c true l e)

pub join_stays : (c : ClusterState) → length c.nodes < 64 → false ≡ fits (length c.nodes) (length c.workers + 0) c.made → whole_limited c (joined c) ≡ c
join_stays c l e = refused_whole c c.made (joined c) (joined_within c false l e)

pub join_none : (c : ClusterState) → length c.nodes < 64 → false ≡ fits (length c.nodes) (length c.workers + 0) c.made → entries_limited (joined c) ≡ None
join_none c l e = refused_entries c.made (joined c) (joined_within c false l e)

-- ---- stores

stored_within : (c : ClusterState) (n : ℕ) (f : Store → Store) (b : Bool) → b ≡ fits (length c.nodes) (length c.workers + 0) c.made
    → is_within c.made (store_does c n f).whole ≡ b
stored_within c n f b e = as_many c (store_does c n f).whole b (changed_length c.nodes n (λ node. record node { store = f node.store })) refl e

pub stored_taken : (c : ClusterState) (n : ℕ) (f : Store → Store) → true ≡ fits (length c.nodes) (length c.workers + 0) c.made
    → whole_limited c (store_does c n f) ≡ (store_does c n f).whole
stored_taken c n f e = taken_whole c c.made (store_does c n f) (stored_within c n f true e)

pub stored_entries : (c : ClusterState) (n : ℕ) (f : Store → Store) → true ≡ fits (length c.nodes) (length c.workers + 0) c.made
    → entries_limited (store_does c n f) ≡ Some []
stored_entries c n f e = taken_entries c.made (store_does c n f) (stored_within c n f true e)

pub stored_stays : (c : ClusterState) (n : ℕ) (f : Store → Store) → false ≡ fits (length c.nodes) (length c.workers + 0) c.made
    → whole_limited c (store_does c n f) ≡ c
stored_stays c n f e = refused_whole c c.made (store_does c n f) (stored_within c n f false e)

pub stored_none : (c : ClusterState) (n : ℕ) (f : Store → Store) → false ≡ fits (length c.nodes) (length c.workers + 0) c.made
    → entries_limited (store_does c n f) ≡ None
stored_none c n f e = refused_entries c.made (store_does c n f) (stored_within c n f false e)

pub no_store : (c : ClusterState) (n : ℕ) (f : Store → Store) → node_at c n ≡ None → store_does c n f ≡ moved c
no_store c n f e = ap (λ xs. moved (record c { nodes = xs })) (unchanged c.nodes n (λ node. record node { store = f node.store }) e)
