use Rattle.protocol_data.proofs.Leasing.{removed_seen, removed_sound}
use Rattle.protocol_data.proofs.leases.Leases.remove.Goals as goal

pub invariant_of-self : goal.invariant_of-self
invariant_of-self c = removed_sound _ _ _ c.args.worker _ c.self.invariant c.place_of-known.ensures.found c.place_of-known.ensures.none c.blank.ensures

pub returns : goal.returns
returns c = removed_seen _ _ _ c.args.worker _ c.self.invariant.0 c.place_of-known.ensures.found c.place_of-known.ensures.none c.self.view_is c.blank.ensures
