use Rattle.std.proofs.Common.{rules, ◌≡◌, ◌∙◌, ◌+◌, ◌-◌, ◌≤◌, ℕ, List, ◌++◌, Option, None, Some, take, drop, length, append_assoc, sym, ap}
use Rattle.std.proofs.Math.Seq.{take-add, take-length}
use Rattle.std.proofs.lemmas.List.{length-drop}
use Rattle.std.specs.Io.KnownBytes.{Appends}
use Rattle.raysim_streams.proofs.sink.put_all.Goals as goal

appends_more : (o m n : Option (List ℕ)) (bs : List ℕ) (a k : ℕ) → Appends o m (take a bs) → Appends m n (take k (take (length bs - a) (drop a bs))) → Appends o n (take (a + k) bs)
appends_more None m n bs a k h g = tt
appends_more (Some xs) None n bs a k h g = absurd h
appends_more (Some xs) (Some ys) None bs a k h g = absurd g
appends_more (Some xs) (Some ys) (Some zs) bs a k h g =
    let rest : take (length bs - a) (drop a bs) ≡ drop a bs = rw (← length-drop a bs) (take-length (drop a bs)) in
    g ∙ ap (λ l. ys ++ take k l) rest ∙ ap (λ l. l ++ take k (drop a bs)) h ∙ append_assoc xs (take a bs) (take k (drop a bs)) ∙ ap (λ l. xs ++ l) (sym (take-add a k bs))

pub loop-at-preserved : goal.loop-at-preserved
loop-at-preserved g c =
    let within : c.loop-at.at + c.in_ok-at.field-0 ≤ length c.args.bytes.now = search rules in
    (within, appends_more _ _ _ c.args.bytes.now c.loop-at.at c.in_ok-at.field-0 c.loop-at.invariant.1 c.in_ok-at.ensures.bytes, c.in_ok-at.ensures.unfailed ∙ c.loop-at.invariant.2)
