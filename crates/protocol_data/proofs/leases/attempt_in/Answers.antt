use Rattle.std.proofs.Common.{sym, ◌∙◌}
use Rattle.protocol_data.proofs.Leasing.{attempt_at, is_within, no_attempt}
use Rattle.protocol_data.proofs.leases.attempt_in.Goals as goal

pub returns-in_default : goal.returns-in_default
returns-in_default c = sym (no_attempt c.args.rows.now c.args.worker c.in_default.ensures.none)

pub get-requires : goal.get-requires
get-requires c = is_within c.args.rows.now _ c.args.worker c.in-Some.ensures.found

pub returns : goal.returns
returns c = c.attempt_of.ensures ∙ sym (attempt_at c.args.rows.now _ c.args.worker _ c.requires.apart c.in-Some.ensures.found c.get.ensures)
