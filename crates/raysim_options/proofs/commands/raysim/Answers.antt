use Rattle.raysim_options.proofs.commands.raysim.Goals as goal

-- as both compute
pub returns : goal.returns
returns c = c.with_subcommands.ensures
