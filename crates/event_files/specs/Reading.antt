-- Functions on bytes that read lines, part by part.
use Rattle.std.specs.Prelude.{ℕ, ◌^◌, ◌==◌, Bool, true, false, if◌then◌else◌, nat_lt, List, [], ◌∷◌, Option, Some, None, codes}
use Rattle.std.specs.Option.{option_map}
use Rattle.std.specs.Str.{bytes_eq}
use Rattle.std.specs.Str.Parse.{digits_value}
use Rattle.std.specs.Fmt.{decimal}
use Rattle.meaning.specs.Values.{Id}
use Rattle.log_entries.specs.declared.event.Event.{Event}
use Rattle.log_entries.specs.declared.event.Event.TheVariants as events
use Rattle.event_files.specs.declared.line.Line.{Line}
use Rattle.event_files.specs.declared.line.Line.TheVariants as lines

-- the first goes on where there is one, else the other stands
abbrev pub pick : {A B : Type 0} → Option A → (A → B) → B → B
pick None f y = y
pick (Some x) f y = f x

-- goes on where there is one
abbrev pub go_on : {A B : Type 0} → Option A → (A → Option B) → Option B
go_on o f = pick o f None

abbrev pub has : ℕ → List ℕ → Bool
has mark [] = false
has mark (b ∷ bytes) = if b == mark then true else has mark bytes

abbrev pub with_first : ℕ → Option (List ℕ × List ℕ) → Option (List ℕ × List ℕ)
with_first b None = None
with_first b (Some x) = Some (b ∷ x.0, x.1)

-- what stands before the first such byte, and what after it
abbrev pub parted : ℕ → List ℕ → Option (List ℕ × List ℕ)
parted mark [] = None
parted mark (b ∷ bytes) = if b == mark then Some ([], bytes) else with_first b (parted mark bytes)

-- what follows the front
abbrev pub behind : List ℕ → List ℕ → Option (List ℕ)
behind [] bytes = Some bytes
behind (c ∷ front) [] = None
behind (c ∷ front) (b ∷ bytes) = if b == c then behind front bytes else None

-- the number of so many bits that is written so in decimal, with no leading zeros
abbrev pub checked : ℕ → ℕ → List ℕ → Option ℕ
checked bits n bytes = if bytes_eq (decimal n) bytes then (if nat_lt n (2 ^ bits) then Some n else None) else None

unfoldable pub number_in : ℕ → List ℕ → Option ℕ
number_in bits bytes = checked bits (digits_value 10 bytes) bytes

abbrev pub worker_in : List ℕ → Option ℕ
worker_in bytes = number_in 32 bytes

abbrev pub node_in : List ℕ → Option ℕ
node_in bytes = number_in 32 bytes

abbrev pub object_of : ℕ → ℕ → Id
object_of owner serial = record { owner = owner; serial = serial }

-- two parts with a mark between
abbrev pub both : {A B : Type 0} → Option A → Option B → Option (A × B)
both a b = go_on a (λ x. go_on b (λ y. Some (x, y)))

unfoldable pub object_in : List ℕ → Option Id
object_in bytes = go_on (behind (codes "o") bytes) (λ rest. go_on (parted 46 rest) (λ x.
    option_map (λ (y : ℕ × ℕ). object_of y.0 y.1) (both (number_in 32 x.0) (number_in 64 x.1))))

abbrev pub two_workers_in : List ℕ → Option (ℕ × ℕ)
two_workers_in bytes = go_on (parted 32 bytes) (λ x. both (worker_in x.0) (worker_in x.1))

abbrev pub worker_and_node_in : List ℕ → Option (ℕ × ℕ)
worker_and_node_in bytes = go_on (parted 32 bytes) (λ x. both (worker_in x.0) (node_in x.1))

abbrev pub node_and_object_in : List ℕ → Option (ℕ × Id)
node_and_object_in bytes = go_on (parted 32 bytes) (λ x. both (node_in x.0) (object_in x.1))

unfoldable pub event_in : List ℕ → Option Event
event_in bytes =
    pick (behind (codes "claim ") bytes) (λ x. option_map (λ w. events.Claim w) (worker_in x)) (
    pick (behind (codes "commit ") bytes) (λ x. option_map (λ j. events.Commit j) (number_in 64 x)) (
    pick (behind (codes "deliver ") bytes) (λ x. option_map (λ m. events.Deliver m) (number_in 64 x)) (
    pick (behind (codes "tick ") bytes) (λ x. option_map (λ w. events.Tick w) (worker_in x)) (
    pick (behind (codes "notice ") bytes) (λ x. option_map (λ p. events.Notice p.0 p.1) (two_workers_in x)) (
    pick (behind (codes "notice-node ") bytes) (λ x. option_map (λ p. events.NoticeNode p.0 p.1) (worker_and_node_in x)) (
    pick (behind (codes "evict ") bytes) (λ x. option_map (λ p. events.Evict p.0 p.1) (node_and_object_in x)) (
    pick (behind (codes "lose ") bytes) (λ x. option_map (λ p. events.Lose p.0 p.1) (node_and_object_in x)) (
    pick (behind (codes "kill ") bytes) (λ x. option_map (λ w. events.Kill w) (worker_in x)) (
    pick (behind (codes "kill-node ") bytes) (λ x. option_map (λ n. events.KillNode n) (node_in x)) (
    if bytes_eq bytes (codes "join") then Some events.Join else None))))))))))

-- the parts between spaces
abbrev pub before_first : ℕ → List (List ℕ) → List (List ℕ)
before_first b [] = []
before_first b (x ∷ xs) = (b ∷ x) ∷ xs

abbrev pub words_in : List ℕ → List (List ℕ)
words_in [] = [] ∷ []
words_in (b ∷ bytes) = if b == 32 then [] ∷ words_in bytes else before_first b (words_in bytes)

abbrev pub all_workers : List (List ℕ) → Option (List ℕ)
all_workers [] = Some []
all_workers (x ∷ xs) = go_on (worker_in x) (λ w. go_on (all_workers xs) (λ ws. Some (w ∷ ws)))

abbrev pub workers_in : List ℕ → Option (List ℕ)
workers_in bytes = all_workers (words_in bytes)

abbrev pub settle_in : List ℕ → Option Line
settle_in bytes = option_map (λ ws. lines.Settle ws) (workers_in bytes)

-- a settle, or an event
unfoldable pub line_in : List ℕ → Option Line
line_in bytes =
    if bytes_eq bytes (codes "settle") then Some (lines.Settle [])
    else pick (behind (codes "settle but ") bytes) (λ x. settle_in x) (option_map (λ e. lines.Event e) (event_in bytes))
