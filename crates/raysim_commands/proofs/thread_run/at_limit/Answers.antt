use Rattle.raysim_commands.proofs.thread_run.at_limit.Goals as goal

pub returns : goal.returns
returns g c = λ plan size threads limited seated.
    (c.number.ensures, record { run = c.args.board.now; meant = c.log.ensures.meant; at_limit = limited; seated = seated })
