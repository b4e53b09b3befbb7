-- What is said of a run is passed over by a reader of its events.
use Rattle.std.proofs.Common.{◌≡◌, ◌∙◌, ℕ, zero, suc, ◌<◌, ◌^◌, ◌/◌, ◌%◌, Bool, true, false, List, [], ◌∷◌, ◌++◌, Some, refl, sym, ap, subst, arith}
use Rattle.std.specs.Prelude.{◌==◌, if◌then◌else◌, codes, slice_index}
use Rattle.std.specs.Fmt.{decimal}
use Rattle.std.proofs.lemmas.List.{append_assoc}
use Rattle.hex.specs.Hex.{encode_lower, encode_with, lower_digits}
use Rattle.sha2.specs.Sha256.{sha256}
use Rattle.event_files.specs.declared.recorded.RecordedEvent.{RecordedEvent}
use Rattle.event_files.specs.Files.{Row, Passed, IsFile, rows_text}
use Rattle.event_files.specs.Reading.{behind, has, pick}
use Rattle.event_files.specs.Recorded.{IsRecorded, IsRecordedFile, header, recorded_text}
use Rattle.event_files.proofs.Marks.{behind-append, has-append, no_mark_in_decimal}
use Rattle.run_heads.specs.Heads.{cluster_text, head_text, script_text, with_head}

no_feed-cons : (b : ℕ) (bytes : List ℕ) → (b == 10) ≡ false → has 10 bytes ≡ false → has 10 (b ∷ bytes) ≡ false
no_feed-cons b bytes e h = rw (e, h) refl

-- no item of the table is a line feed
no_feed_at : (table : List ℕ) (i : ℕ) → has 10 table ≡ false → (slice_index table i == 10) ≡ false
no_feed_at [] i h = refl
no_feed_at (b ∷ table) zero h = by_test (b == 10) h
  where
    by_test : (t : Bool) → (if t then true else has 10 table) ≡ false → t ≡ false
    by_test true f = cc
    by_test false f = refl
no_feed_at (b ∷ table) (suc i) h = by_test (b == 10) (no_feed_at table i) h
  where
    by_test : (t : Bool) → (has 10 table ≡ false → (slice_index table i == 10) ≡ false) → (if t then true else has 10 table) ≡ false →
        (slice_index table i == 10) ≡ false
    by_test true r f = cc
    by_test false r f = r f

no_feed_in_hex : (table bytes : List ℕ) → has 10 table ≡ false → has 10 (encode_with table bytes) ≡ false
unfolding encode_with
no_feed_in_hex table [] h = refl
no_feed_in_hex table (b ∷ bytes) h =
    no_feed-cons (slice_index table (b / 16)) (slice_index table (b % 16) ∷ encode_with table bytes) (no_feed_at table (b / 16) h)
    (no_feed-cons (slice_index table (b % 16)) (encode_with table bytes) (no_feed_at table (b % 16) h) (no_feed_in_hex table bytes h))

no_feed_in_number : (n : ℕ) → n < 2 ^ 64 → has 10 (decimal n) ≡ false
no_feed_in_number n h = no_mark_in_decimal 10 n (omega arith) h

no_feed_in_cluster : (nodes slots : ℕ) → nodes < 2 ^ 64 → slots < 2 ^ 64 → has 10 (codes "# cluster: " ++ cluster_text nodes slots) ≡ false
no_feed_in_cluster nodes slots h k =
    has-append 10 (codes "# cluster: ") (cluster_text nodes slots) refl (has-append 10 (codes "--nodes ") (decimal nodes ++ (codes " --slots " ++ decimal slots)) refl
    (has-append 10 (decimal nodes) (codes " --slots " ++ decimal slots) (no_feed_in_number nodes h)
    (has-append 10 (codes " --slots ") (decimal slots) refl (no_feed_in_number slots k))))

no_feed_in_threads : (threads : ℕ) → threads < 2 ^ 64 → has 10 (codes "# threads: " ++ decimal threads) ≡ false
no_feed_in_threads threads h = has-append 10 (codes "# threads: ") (decimal threads) refl (no_feed_in_number threads h)

no_feed_in_script : (script : List ℕ) → has 10 (codes "# script: " ++ script_text script) ≡ false
no_feed_in_script script =
    has-append 10 (codes "# script: ") (script_text script) refl (has-append 10 (codes "sha256 ") (encode_lower (sha256 script)) refl
    (no_feed_in_hex lower_digits (sha256 script) refl))

-- the three lines, with what follows them
abbrev three : List ℕ → List ℕ → List ℕ → List ℕ → List ℕ
three x y z rest = x ++ (10 ∷ (y ++ (10 ∷ (z ++ (10 ∷ rest)))))

as_lines : (nodes slots threads : ℕ) (script rest : List ℕ) → head_text (cluster_text nodes slots) threads (script_text script) ++ rest
    ≡ three (codes "# cluster: " ++ cluster_text nodes slots) (codes "# threads: " ++ decimal threads) (codes "# script: " ++ script_text script) rest
as_lines nodes slots threads script rest =
    let c = cluster_text nodes slots in
    let t = decimal threads in
    let s = script_text script in
    let end : (s ++ codes "\n") ++ rest ≡ s ++ (10 ∷ rest) = append_assoc s (codes "\n") rest in
    let behind_threads : (t ++ (codes "\n# script: " ++ (s ++ codes "\n"))) ++ rest ≡ t ++ (codes "\n# script: " ++ (s ++ (10 ∷ rest))) =
    append_assoc t (codes "\n# script: " ++ (s ++ codes "\n")) rest ∙ ap (λ x. t ++ (codes "\n# script: " ++ x)) end in
    let behind_cluster : (c ++ (codes "\n# threads: " ++ (t ++ (codes "\n# script: " ++ (s ++ codes "\n"))))) ++ rest
    ≡ c ++ (codes "\n# threads: " ++ (t ++ (codes "\n# script: " ++ (s ++ (10 ∷ rest))))) =
    append_assoc c (codes "\n# threads: " ++ (t ++ (codes "\n# script: " ++ (s ++ codes "\n")))) rest
    ∙ ap (λ x. c ++ (codes "\n# threads: " ++ x)) behind_threads in
    ap (λ x. codes "# cluster: " ++ x) behind_cluster

more_lines : (nodes slots threads : ℕ) (script rest : List ℕ) (events : List RecordedEvent) → nodes < 2 ^ 64 → slots < 2 ^ 64 → threads < 2 ^ 64 →
    IsFile IsRecorded recorded_text rest events → IsFile IsRecorded recorded_text (head_text (cluster_text nodes slots) threads (script_text script) ++ rest) events
more_lines nodes slots threads script rest events h k l file = record {
  rows = Passed (codes "# cluster: " ++ cluster_text nodes slots) ∷ Passed (codes "# threads: " ++ decimal threads)
      ∷ Passed (codes "# script: " ++ script_text script) ∷ file.rows;
  are_rows = ((refl, no_feed_in_cluster nodes slots h k), ((refl, no_feed_in_threads threads l), ((refl, no_feed_in_script script), file.are_rows)));
  written = as_lines nodes slots threads script rest
      ∙ ap (λ x. three (codes "# cluster: " ++ cluster_text nodes slots) (codes "# threads: " ++ decimal threads) (codes "# script: " ++ script_text script) x)
      file.written;
  said = file.said;
}

pub passed_over : (nodes slots threads : ℕ) (script bytes : List ℕ) (events : List RecordedEvent) → nodes < 2 ^ 64 → slots < 2 ^ 64 → threads < 2 ^ 64 →
    IsRecordedFile bytes events → IsRecordedFile (with_head (head_text (cluster_text nodes slots) threads (script_text script)) bytes) events
passed_over nodes slots threads script bytes events h k l (rest, e, file) =
    let head = head_text (cluster_text nodes slots) threads (script_text script) in
    let front : behind header bytes ≡ Some rest = ap (behind header) e ∙ behind-append header rest in
    let written : with_head head bytes ≡ header ++ (head ++ rest) = ap (λ o. pick o (λ x. header ++ (head ++ x)) bytes) front in
    (head ++ rest, written, more_lines nodes slots threads script rest events h k l file)
