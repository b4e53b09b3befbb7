use Rattle.std.proofs.Common.{◌≡◌, length}
use Rattle.std.specs.List.{fold}
use Rattle.clap.specs.Words.{app_of}
use Rattle.raysim_options.specs.Subcommands.{table_app, with_entry}
use Rattle.raysim_options.proofs.commands.with_subcommands.Given as goal

-- what is left makes the whole of what there is
abbrev pub invariant-loop-rest : goal.invariant-loop-rest
invariant-loop-rest l = fold with_entry (app_of l.command) l.rest ≡ table_app l.subcommands

abbrev pub decreases-loop-rest : goal.decreases-loop-rest
decreases-loop-rest l = length l.rest
