use Rattle.protocol_data.proofs.Searches.{attended}
use Rattle.protocol_data.proofs.search.attend.Goals as goal

pub returns-clause-kept : goal.returns-clause-kept
returns-clause-kept c xs p = record {
  marked = p.marked;
  kept = attended xs _ _ _ _ _ _ p.kept c.least-seen.ensures.other c.least-seen.ensures.one;
}
