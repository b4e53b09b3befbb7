-- What is told of numbered things, one after the other.
use Rattle.std.specs.Prelude.{List, [], codes, if◌then◌else◌, length, nat_lt, suc, zero, ℕ, ◌++◌}
use Rattle.std.specs.List.{flat_map}
use Rattle.std.specs.Fmt.{decimal}
use Rattle.protocol_data.specs.declared.cluster_state.ClusterState.{ClusterState}

-- of those below that number
unfoldable pub below : (ℕ → List ℕ) → ℕ → List ℕ
below told zero = []
below told (suc n) = below told n ++ told n

-- workers have numbers of 32 bits
abbrev pub worker_count : ClusterState → ℕ
worker_count c = if nat_lt 4294967295 (length c.workers) then 4294967295 else length c.workers

abbrev pub worker_word : ℕ → List ℕ
worker_word w = codes " w" ++ decimal w

abbrev pub node_word : ℕ → List ℕ
node_word n = codes " n" ++ decimal n

-- w1 w2, with a blank before each
abbrev pub worker_words : List ℕ → List ℕ
worker_words ws = flat_map worker_word ws

abbrev pub node_words : List ℕ → List ℕ
node_words ns = flat_map node_word ns
