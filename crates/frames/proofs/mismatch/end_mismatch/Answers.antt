use Rattle.std.proofs.Common.{[], map, drop, ap, ◌∙◌, ◌+◌, ◌∷◌}
use Rattle.frames.specs.Machines.{argument_of}
use Rattle.frames.specs.Tasks.{mismatch_end}
use Rattle.frames.specs.Endings.{end_of}
use Rattle.frames.proofs.Doing.{if_ok}
use Rattle.frames.proofs.Stopping.{end_ends, halt_gives, next_of}
use Rattle.frames.proofs.mismatch.end_mismatch.Goals as goal

pub of-requires : goal.of-requires
of-requires c = end_ends c.in-Err.halt (mismatch_end (argument_of c.argument-item.result ∷ [])) (c.in-Err.ensures.halt [])

pub returns-in-Err : goal.returns-in-Err
returns-in-Err c =
    let xs = c.matched-argument-items.result.now in
    let i = c.loop-argument.argument-index in
    let rest = map argument_of (drop (i + 1) xs) in
    if_ok _ _ c.of.result
    (λ e is. c.loop-argument.invariant
    ∙ ap mismatch_end (next_of argument_of xs i c.argument-item.result c.loop-argument-test.true c.argument-item.is)
    ∙ halt_gives c.in-Err.halt (mismatch_end (argument_of c.argument-item.result ∷ rest)) (end_of e) (c.in-Err.ensures.halt rest) is)
    c.of.ensures.value
