use Rattle.seats.proofs.Books.{end_at}
use Rattle.seats.proofs.threads.run_shared.Goals as goal

pub returns-in-Ok-end : goal.returns-in-Ok-end
returns-in-Ok-end g c =
    end_at g.S.ScriptName.script g.P.RunName.is_open c.in-Ok.back.items c.loop.shared c.args.n g.P.Watching.watched g.P.RunName.plan g.P.RunName.size
    c.in-Ok-end.end c.loop.invariant c.in-Ok-end.ensures.ended
