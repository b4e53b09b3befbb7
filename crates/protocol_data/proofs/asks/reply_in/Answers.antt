use Rattle.std.proofs.Common.{sym, ◌∙◌}
use Rattle.protocol_data.proofs.Noting.{is_within, no_reply, reply_at}
use Rattle.protocol_data.specs.Marked.{there}
use Rattle.protocol_data.proofs.asks.reply_in.Goals as goal

pub returns-in_default : goal.returns-in_default
returns-in_default c = sym (no_reply (there c.args.rows.now) c.args.key.now c.in_default.ensures.none)

pub get-requires : goal.get-requires
get-requires c = is_within c.args.rows.now _ c.args.key.now c.in-Some.ensures.found

pub returns : goal.returns
returns c = c.reply_of.ensures ∙ sym (reply_at c.args.rows.now _ c.args.key.now _ c.requires.distinct c.in-Some.ensures.found c.get.ensures)
