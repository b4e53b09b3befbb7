use Rattle.std.proofs.Common.{◌≡◌, ◌∙◌, ap, map, subst, take}
use Rattle.std.specs.Prelude.{IfOk}
use Rattle.run_commands.specs.States.{event_line}
use Rattle.run_commands.proofs.state_command.first_lines.Goals as goal

pub returns : goal.returns
returns c =
    let cut = c.first_events.ensures ∙ ap (take c.args.most) (c.as_slice.ensures ∙ c.in_ok-history.ensures) in
    subst (λ es. IfOk c.lines_of.result (λ all. all ≡ map event_line es)) cut c.lines_of.ensures
