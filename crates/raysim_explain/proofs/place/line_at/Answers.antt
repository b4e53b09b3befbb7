use Rattle.std.proofs.Common.{rules, ◌≢◌, ℕ, ◌+◌, ◌<◌, List, take, length, All, slice_index, sym, subst}
use Rattle.std.proofs.Math.Seq.{take-suc}
use Rattle.std.proofs.Math.Numerals.{suc-eq-add-one}
use Rattle.std.proofs.lemmas.List.Elements.{All-push}
use Rattle.raysim_explain.proofs.place.line_at.Goals as goal

-- one more byte that is no line feed
one_more : (bytes : List ℕ) (n : ℕ) → n < length bytes → slice_index bytes n ≢ 10 → All (λ b. b ≢ 10) (take n bytes) → All (λ b. b ≢ 10) (take (n + 1) bytes)
one_more bytes n less other all =
    subst (λ m. All (λ b. b ≢ 10) (take m bytes)) (suc-eq-add-one n)
    (subst (All (λ b. b ≢ 10)) (sym (take-suc bytes n 0 less)) (All-push (λ b. b ≢ 10) (take n bytes) (slice_index bytes n) all other))

pub loop-end-preserved : goal.loop-end-preserved
loop-end-preserved c =
    let less : c.loop-end.end < _ = c.loop-end-test.true in
    (search rules, one_more _ c.loop-end.end less (search rules) c.loop-end.invariant.1)
