use Rattle.script_commands.proofs.Refused.{explains_write, may_be_written}
use Rattle.script_commands.proofs.checking.check.Goals as goal

pub returns-in-Err-clause-refused : goal.returns-in-Err-clause-refused
returns-in-Err-clause-refused g c = c.in-Err.ensures.refused (g.W.Sink.failures c.args.writer.now, g.W.Sink.failures c.args.writer.now)

pub returns-in-Err-put_all-clause-refused : goal.returns-in-Err-put_all-clause-refused
returns-in-Err-put_all-clause-refused g c =
    explains_write (g.R.Source.left c.args.reader.now) _ _ c.in-Err-put_all.failure c.in-Err-put_all.ensures.failed.0 c.in-Err-put_all.ensures.failed.1

pub returns-in-Err-put_all-clause-unwritten : goal.returns-in-Err-put_all-clause-unwritten
returns-in-Err-put_all-clause-unwritten g c = may_be_written c.in-Err-put_all.failure c.in-Err-put_all.ensures.failed.0
