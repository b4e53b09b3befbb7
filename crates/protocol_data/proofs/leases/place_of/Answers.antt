use Rattle.std.proofs.Common.{sym, ◌∙◌}
use Rattle.protocol_data.proofs.Leasing.{none_named}
use Rattle.protocol_data.proofs.leases.place_of.Goals as goal

pub returns-clause-none : goal.returns-clause-none
returns-clause-none c =
    none_named _ c.args.rows.now c.args.worker _ _ c.requires (sym c.has_entry.ensures ∙ c.if-not-has_entry.false) c.entry_of-entry.ensures
    c.named_place.ensures.none
