use Rattle.std.proofs.Common.{◌∙◌, ap}
use Rattle.report_text.specs.of_report_lines.Main.{status_of}
use Rattle.fault_runs.specs.of_protocol_board.Cores.{RunState}
use Rattle.run_commands.proofs.Paging.{page_same}
use Rattle.run_commands.proofs.page_command.page_now.Goals as goal

pub returns-clause-made : goal.returns-clause-made
returns-clause-made g c =
    let logged = c.log.ensures.log ∙ ap (λ (r : RunState). r.log) c.board-board.ensures in
    let whole = c.whole.ensures ∙ ap (λ (r : RunState). r.whole) c.board-board.ensures in (
      c.in_ok-page.ensures ∙ page_same c.args.contents _ _ _ _ _ _ _ _ _ _ _ _ c.ascii_text-shown.ensures c.nodes.ensures.nodes c.slots.ensures logged
          (c.as_slice.ensures ∙ c.sent.ensures) whole,
      c.status-status.ensures ∙ ap (λ (r : RunState). status_of r.log) c.board-board.ensures,
    )
