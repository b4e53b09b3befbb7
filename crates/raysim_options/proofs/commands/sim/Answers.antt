use Rattle.raysim_options.proofs.commands.sim.Goals as goal

-- as both compute
pub returns : goal.returns
returns c = c.command_of.ensures.app
