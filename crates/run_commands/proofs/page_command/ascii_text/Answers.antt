use Rattle.run_commands.proofs.Paging.{ascii_utf8}
use Rattle.run_commands.proofs.page_command.ascii_text.Goals as goal

pub unreachable-requires : goal.unreachable-requires
unreachable-requires c = c.in-Err.ensures.cases.0 (ascii_utf8 c.args.bytes.now c.requires)
