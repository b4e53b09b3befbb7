use Rattle.std.proofs.Common.{◌≡◌, ℕ, suc, ◌-◌, List, sym, ap, ◌∙◌, slice_get, arith}
use Rattle.std.proofs.lemmas.Option.{slice_get-get_or, slice_get_past}
use Rattle.log_words.specs.of_event_log.Events.{from_one}
use Rattle.log_text.proofs.runners.node_of.Goals as goal

counted : (xs : List ℕ) (j p : ℕ) → j ≡ suc p → from_one xs j ≡ slice_get xs p
counted xs j p e = ap (from_one xs) e

pub returns-then-place-nodes : goal.returns-then-place-nodes
returns-then-place-nodes c =
    let place : ℕ = c.args.worker - 1 in
    sym (counted c.args.nodes.now c.args.worker place (omega (arith, c.if-worker-eq0.false)) ∙ slice_get-get_or c.args.nodes.now place 0 c.if-place-nodes.true)

pub returns : goal.returns
returns c =
    let place : ℕ = c.args.worker - 1 in
    sym (counted c.args.nodes.now c.args.worker place (omega (arith, c.if-worker-eq0.false)) ∙ slice_get_past c.args.nodes.now place c.if-place-nodes.false)
