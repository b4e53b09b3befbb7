use Rattle.protocol_data.proofs.Noting.{never_begun}
use Rattle.protocol_data.proofs.attempts.has_bounded.Goals as goal

pub returns-then-not-may_be_noted : goal.returns-then-not-may_be_noted
returns-then-not-may_be_noted c = never_begun _ c.args.rows.now c.args.attempt _ _ c.requires c.made_object-object.ensures c.may_be_noted.ensures c.if-not-may_be_noted.true
