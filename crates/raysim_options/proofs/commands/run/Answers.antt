use Rattle.raysim_options.proofs.commands.run.Goals as goal

-- as both compute
pub returns : goal.returns
returns c = c.command_of.ensures.app
