use Rattle.std.proofs.Common.{sym, ◌∙◌}
use Rattle.protocol_data.proofs.Idle.{none_there}
use Rattle.protocol_data.proofs.idle_workers.is_listed.Goals as goal

pub returns-then-not-may_be_listed : goal.returns-then-not-may_be_listed
returns-then-not-may_be_listed c =
    sym (none_there c.args.marks.now c.args.rows.now c.args.worker c.requires (sym c.may_be_listed.ensures ∙ c.if-not-may_be_listed.true))
