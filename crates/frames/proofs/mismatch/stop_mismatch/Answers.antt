use Rattle.std.proofs.Common.{map, drop, ap, ◌∙◌, ◌+◌}
use Rattle.frames.specs.Values.{outcome_of}
use Rattle.frames.specs.Machines.{argument_of}
use Rattle.frames.specs.Tasks.{mismatch_stop}
use Rattle.frames.proofs.Stopping.{next_of}
use Rattle.frames.proofs.mismatch.stop_mismatch.Goals as goal

pub returns-in-Err-clause-stops : goal.returns-in-Err-clause-stops
returns-in-Err-clause-stops c results s e =
    let xs = c.matched-argument-items.result.now in
    let i = c.loop-argument.argument-index in
    let answers = map outcome_of (drop c.loop-argument.used c.args.answers.now) in
    c.loop-argument.invariant results
    ∙ ap (λ args. mismatch_stop results args answers) (next_of argument_of xs i c.argument-item.result c.loop-argument-test.true c.argument-item.is)
    ∙ c.in-Err.ensures.halt results (map argument_of (drop (i + 1) xs)) s e
