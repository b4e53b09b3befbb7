use Rattle.std.proofs.Common.{ap}
use Rattle.std.specs.List.{fold}
use Rattle.clap.specs.Words.{app_of}
use Rattle.raysim_options.specs.Subcommands.{with_entry}
use Rattle.raysim_options.proofs.Folds.{fold_rest}
use Rattle.raysim_options.proofs.commands.with_subcommands.Goals as goal

pub loop-rest-init : goal.loop-rest-init
loop-rest-init c = ap (λ a. fold with_entry a c.args.subcommands.now) c.top-command.ensures

pub loop-rest-preserved : goal.loop-rest-preserved
loop-rest-preserved c =
    fold_rest with_entry (app_of c.loop-rest.command) _ _ c.loop-rest.rest.now _ c.in-len1-up.len_at_least c.in_ok-command.ensures c.loop-rest.invariant
