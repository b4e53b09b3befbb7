use Rattle.std.proofs.Common.{◌≡◌, length}
use Rattle.std.specs.List.{fold}
use Rattle.clap.specs.Words.{app_of}
use Rattle.raysim_options.specs.App.{HasNoGlobals}
use Rattle.raysim_options.specs.Subcommands.{subcommand_app, with_parameter}
use Rattle.raysim_options.proofs.commands.command_of.Given as goal

-- what is left makes the subcommand of what there is
abbrev pub invariant-loop-rest : goal.invariant-loop-rest
invariant-loop-rest l = record {
  app : fold with_parameter (app_of l.command) l.rest ≡ subcommand_app l.subcommand;
  local : HasNoGlobals l.command;
}

abbrev pub decreases-loop-rest : goal.decreases-loop-rest
decreases-loop-rest l = length l.rest
