use Rattle.std.proofs.Common.{◌<◌, Some, length, sym, ap, ◌∙◌, arith}
use Rattle.std.proofs.lemmas.Bool.Decides.{nat_tests}
use Rattle.step_laws.proofs.Taken.{taken_entries, taken_whole}
use Rattle.protocol.specs.Cluster.{worker_does}
use Rattle.worker_acts.specs.Acts.{act_step}
use Rattle.cluster_events.proofs.Room.{room}
use Rattle.cluster_events.proofs.within_limits.let_act.Goals as goal

pub returns-then-len-lt1024-clause-whole : goal.returns-then-len-lt1024-clause-whole
returns-then-len-lt1024-clause-whole c =
    let old = c.args.whole.now in
    let less : length old.workers < 1024 = grind (arith, nat_tests, c.if-len-lt1024.true, c.len.ensures) in
    let e = room old c.args.made c.args.number old.network c.args.what.now less (sym c.if-not-fits.ensures) in
    c.in_ok-act.ensures.whole ∙ sym (taken_whole old c.args.made (worker_does old c.args.number (act_step c.args.whole.now.network c.args.what.now)) e)

pub returns-then-len-lt1024-clause-entries : goal.returns-then-len-lt1024-clause-entries
returns-then-len-lt1024-clause-entries c =
    let old = c.args.whole.now in
    let less : length old.workers < 1024 = grind (arith, nat_tests, c.if-len-lt1024.true, c.len.ensures) in
    let e = room old c.args.made c.args.number old.network c.args.what.now less (sym c.if-not-fits.ensures) in
    ap Some c.in_ok-act.ensures.entries ∙ sym (taken_entries c.args.made (worker_does old c.args.number (act_step c.args.whole.now.network c.args.what.now)) e)
