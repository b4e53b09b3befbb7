use Rattle.std.proofs.Common.{map, take, sym, ap, ◌∙◌}
use Rattle.std.proofs.lemmas.List.{take-map}
use Rattle.frames.specs.Machines.{argument_of}
use Rattle.frames.proofs.Doing.{take_within}
use Rattle.frames.proofs.mismatch.matched.Goals as goal

pub returns : goal.returns
returns c =
    let xs = c.args.arguments.now in
    ap (map argument_of) (take_within xs c.parameter_count.result c.min-count.result c.min-count.ensures)
    ∙ sym (take-map argument_of c.parameter_count.result xs) ∙ ap (λ n. take n (map argument_of xs)) c.parameter_count.ensures
