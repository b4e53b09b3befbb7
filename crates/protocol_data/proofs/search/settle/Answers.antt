use Rattle.std.proofs.Common.{sym, ◌∙◌}
use Rattle.protocol_data.proofs.Searches.{looked_over, settled}
use Rattle.protocol_data.proofs.Serials.{length_of_values}
use Rattle.protocol_data.proofs.search.settle.Goals as goal

pub returns-clause-kept : goal.returns-clause-kept
returns-clause-kept c = record {
  marked = c.look_over.ensures.long ∙ c.requires.marked;
  kept = settled _ _ _ _ _ _ _ (c.look_over.ensures.kept _ c.requires.kept) c.kept_until-seen.ensures.kept c.own_behind-own_from.ensures;
}

pub returns-clause-looked : goal.returns-clause-looked
returns-clause-looked c =
    looked_over _ _ _ _ _ _ _ (c.len.ensures.len ∙ sym (length_of_values c.args.rows.now)) c.own_behind-own_from.ensures c.look_over.ensures.looked
    c.kept_until-seen.ensures.end
