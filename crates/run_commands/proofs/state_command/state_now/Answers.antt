use Rattle.std.proofs.Common.{◌∙◌, ap}
use Rattle.state_text.specs.Text.{state_text}
use Rattle.run_commands.proofs.state_command.state_now.Goals as goal

pub returns-in-Ok-clause-told : goal.returns-in-Ok-clause-told
returns-in-Ok-clause-told g c = (
  c.in-Ok.ensures ∙ ap (λ l. state_text l c.whole.result.now c.args.all) c.log.ensures.log
      ∙ ap (λ w. state_text c.args.board.now.log w c.args.all) c.whole.ensures,
  c.status.ensures,
)
