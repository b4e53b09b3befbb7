use Rattle.std.proofs.Common.{sym, subst}
use Rattle.protocol_data.proofs.Leasing.{blanked_within, longer_sound, put_seen, put_sound}
use Rattle.protocol_data.specs.Leased.{AreApart, ArePlaced, leases_of}
use Rattle.protocol_data.proofs.leases.Leases.push_with_reply.Goals as goal

-- entries that are added name nothing, where the row can't be or the answer can't be noted
pub invariant_of-self : goal.invariant_of-self
invariant_of-self c = longer_sound _ _ c.self.inside.rows c.self.invariant c.lengthen.ensures.kept

pub invariant_of-self-in_err-push_row_with_reply : goal.invariant_of-self-in_err-push_row_with_reply
invariant_of-self-in_err-push_row_with_reply c =
    subst (λ rows. AreApart (leases_of rows) × ArePlaced c.lengthen.new.places 0 rows) (sym c.in_err-push_row_with_reply.ensures.rows_err)
    (longer_sound _ _ c.self.inside.rows c.self.invariant c.lengthen.ensures.kept)

pub blank-requires : goal.blank-requires
blank-requires c = blanked_within _ _ c.args.worker _ _ c.place_of-known.ensures.found c.in_ok-push_row_with_reply.ensures.rows

pub invariant_of-self-2 : goal.invariant_of-self-2
invariant_of-self-2 c =
    put_sound _ _ _ _ _ _ (record { worker = c.args.worker; attempt = c.args.key.now.attempt }) _ _ c.self.invariant c.place_of-known.ensures.found
    c.place_of-known.ensures.none
    c.lengthen.ensures.kept c.in_ok-lengthen.ensures.long c.in_ok-push_row_with_reply.ensures.rows c.len-entry.ensures c.name.ensures c.blank.ensures

pub returns-clause-leases : goal.returns-clause-leases
returns-clause-leases c =
    put_seen _ _ _ _ (record { worker = c.args.worker; attempt = c.args.key.now.attempt }) _ c.self.invariant.0 c.place_of-known.ensures.found
    c.place_of-known.ensures.none
    c.self.view_is c.in_ok-push_row_with_reply.ensures.rows c.blank.ensures
