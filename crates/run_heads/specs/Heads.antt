-- What a recorded history says of its run.
use Rattle.std.specs.Prelude.{ℕ, ◌==◌, if◌then◌else◌, List, [], ◌∷◌, ◌++◌, Option, Some, None, codes}
use Rattle.std.specs.Fmt.{decimal}
use Rattle.hex.specs.Hex.{encode_lower}
use Rattle.sha2.specs.Sha256.{sha256}
use Rattle.event_files.specs.Files.{is_passed}
use Rattle.event_files.specs.Reading.{pick, go_on, behind}
use Rattle.event_files.specs.Recorded.{header}

abbrev pub cluster_text : ℕ → ℕ → List ℕ
cluster_text nodes slots = codes "--nodes " ++ (decimal nodes ++ (codes " --slots " ++ decimal slots))

-- the sum of the script's bytes, in small hexadecimal digits
abbrev pub script_text : List ℕ → List ℕ
script_text script = codes "sha256 " ++ encode_lower (sha256 script)

-- three comment lines, with the words for cluster and script
abbrev pub head_text : List ℕ → ℕ → List ℕ → List ℕ
head_text cluster threads script =
    codes "# cluster: " ++ (cluster ++ (codes "\n# threads: " ++ (decimal threads ++ (codes "\n# script: " ++ (script ++ codes "\n")))))

-- behind the first line of a file of format 2
abbrev pub with_head : List ℕ → List ℕ → List ℕ
with_head head bytes = pick (behind header bytes) (λ rest. header ++ (head ++ rest)) bytes

-- ---- reading

-- a byte before the first line, if there is one
abbrev pub before_line : ℕ → List (List ℕ) → List (List ℕ)
before_line b [] = []
before_line b (line ∷ lines) = (b ∷ line) ∷ lines

-- the lines that end with a line feed, without it
abbrev pub lines_in : List ℕ → List (List ℕ)
lines_in [] = []
lines_in (b ∷ bytes) = if b == 10 then [] ∷ lines_in bytes else before_line b (lines_in bytes)

-- what stands behind the word in the first line that begins with it, of those before one that says an event
abbrev pub said_in : List ℕ → List (List ℕ) → Option (List ℕ)
said_in word [] = None
said_in word (line ∷ lines) = if is_passed line then pick (behind word line) (λ said. Some said) (said_in word lines) else None

abbrev pub said_of : List ℕ → List ℕ → Option (List ℕ)
said_of word bytes = go_on (behind header bytes) (λ rest. said_in word (lines_in rest))
