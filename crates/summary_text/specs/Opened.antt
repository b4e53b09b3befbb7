-- The line of the workers that were opened.
use Rattle.std.specs.Prelude.{Bool, List, [], codes, false, if◌then◌else◌, not, true, ℕ, ◌+◌, ◌++◌, ◌==◌, ◌∷◌}
use Rattle.std.specs.List.{list_any}
use Rattle.std.specs.Fmt.{decimal}
use Rattle.event_log.specs.Entries.{Entry, Opened}
use Rattle.summary_text.specs.Counted.{noun}

abbrev pub is_opened : Entry → Bool
is_opened (Opened w n) = true
is_opened _ = false

abbrev pub opened_count : List Entry → ℕ
opened_count [] = 0
opened_count (x ∷ rest) = (if is_opened x then 1 else 0) + opened_count rest

abbrev pub is_opened_on : ℕ → Entry → Bool
is_opened_on n (Opened w m) = m == n
is_opened_on n _ = false

-- it opens a worker on a node on which none of those behind it does
abbrev pub is_last : Entry → List Entry → Bool
is_last (Opened w n) rest = not (list_any (is_opened_on n) rest)
is_last _ rest = false

-- the nodes on which workers were opened, each counted once
abbrev pub node_count : List Entry → ℕ
node_count [] = 0
node_count (x ∷ rest) = (if is_last x rest then 1 else 0) + node_count rest

-- opened: 3 workers on 2 nodes
unfoldable pub opened_line : List Entry → List ℕ
opened_line log =
    codes "opened: "
    ++ (decimal (opened_count log)
    ++ (codes " "
    ++ (noun (opened_count log) (codes "worker") (codes "workers")
    ++ (codes " on "
    ++ (decimal (node_count log) ++ (codes " " ++ (noun (node_count log) (codes "node") (codes "nodes") ++ codes "\n")))))))
