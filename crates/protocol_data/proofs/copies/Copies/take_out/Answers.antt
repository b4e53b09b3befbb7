use Rattle.std.specs.Prelude.{not}
use Rattle.protocol_data.specs.Shelves.{is_sought}
use Rattle.protocol_data.proofs.Shelving.{taken_within}
use Rattle.protocol_data.proofs.copies.Copies.take_out.Goals as goal

pub invariant_of-self : goal.invariant_of-self
invariant_of-self c =
    let w = c.self.invariant.1 in (
      c.take_on.ensures.shelved,
      taken_within (λ x. not (is_sought c.args.object c.args.number x)) c.self.inside.last c.take_here.new.shelf c.take_here.ensures.span (c.take_here.ensures.rows w) w,
    )
