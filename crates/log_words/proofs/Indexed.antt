-- One more birth is noted, from the end of the log.
use Rattle.std.proofs.Common.{◌≡◌, ℕ, suc, ◌<◌, Bool, true, false, if◌then◌else◌, List, ◌∷◌, length, drop, get_or, slice_get, Option, Some, refl, sym, ap, ◌∙◌}
use Rattle.std.specs.List.{flat_map}
use Rattle.std.proofs.Math.Seq.{drop-cons}
use Rattle.std.proofs.lemmas.Option.{slice_get_read}
use Rattle.meaning.specs.Values.{Id, Birth}
use Rattle.meaning.specs.Births.{same_id, birth_at}
use Rattle.report_text.specs.of_event_log.Words.{born_in}
use Rattle.report_text.specs.of_event_log.Entries.{Entry, Born}
use Rattle.log_words.specs.Index.{birth_in, birth_found, is_born_in}

by_test : (log : List Entry) (k : ℕ) (b : Birth) (r : Option ℕ) (rest : Option Birth) (t : Bool) →
    birth_in (slice_get log k) ≡ Some b → birth_found log r ≡ rest → birth_found log (if t then Some k else r) ≡ (if t then Some b else rest)
by_test log k b r rest true at e = at
by_test log k b r rest false at e = e

by_entry : (log : List Entry) (k : ℕ) (x : Entry) (r : Option ℕ) (rest : List Entry) (o : Id) → slice_get log k ≡ Some x →
    birth_found log r ≡ birth_at (flat_map born_in rest) o →
    birth_found log (if is_born_in o x then Some k else r) ≡ birth_at (flat_map born_in (x ∷ rest)) o
by_entry log k (Born p a b) r rest o at e =
    by_test log k b r (birth_at (flat_map born_in rest) o) (same_id p o) (ap birth_in at) e
by_entry log k _ r rest o at e = e

-- the entry in front of those that are noted is noted too
pub indexed_more : (log : List Entry) (j k : ℕ) (x : Entry) (r : Option ℕ) (o : Id) → j ≡ suc k → k < length log → x ≡ get_or log k x →
    birth_found log r ≡ birth_at (flat_map born_in (drop j log)) o →
    birth_found log (if is_born_in o x then Some k else r) ≡ birth_at (flat_map born_in (drop k log)) o
indexed_more log j k x r o next h is e =
    let rest : List Entry = drop (suc k) log in
    let taken : drop k log ≡ x ∷ rest = drop-cons log k x h ∙ ap (λ y. y ∷ rest) (sym is) in
    by_entry log k x r rest o (slice_get_read log (length log) k x refl h is) (e ∙ ap (λ i. birth_at (flat_map born_in (drop i log)) o) next)
    ∙ ap (λ t. birth_at (flat_map born_in t) o) (sym taken)
