use Rattle.std.proofs.Common.{refl, sym, subst}
use Rattle.protocol_data.proofs.Noting.{is_within_pushed, marked_wider, pushed_again, pushed_anew, put_right, put_viewed}
use Rattle.protocol_data.specs.Noted.{AreDistinct}
use Rattle.protocol_data.specs.Marked.{AreMarked, there}
use Rattle.protocol_data.proofs.asks.Asks.put.Goals as goal

-- marks that are added do no harm, where the row can't be
pub invariant_of-self : goal.invariant_of-self
invariant_of-self c = marked_wider _ _ _ c.self.invariant c.mark.ensures.kept

pub invariant_of-self-in_err-push_row : goal.invariant_of-self-in_err-push_row
invariant_of-self-in_err-push_row c =
    subst (λ rows. AreDistinct (there rows) × AreMarked c.mark.new.marks (there rows)) (sym c.in_err-push_row.ensures.err) (marked_wider _ _ _ c.self.invariant c.mark.ensures.kept)

-- an ask that wasn't answered before: its row is new
pub returns-in_default-clause-ok : goal.returns-in_default-clause-ok
returns-in_default-clause-ok c =
    put_viewed c.args.key.now c.args.reply.now _ _ _ c.self.view_is
    (pushed_anew c.args.key.now _ _ _ _ c.in_default.ensures.none c.in_ok-push_row.ensures.ok refl)

pub invariant_of-self-in_default : goal.invariant_of-self-in_default
invariant_of-self-in_default c =
    put_right _ _ c.args.key.now _ c.args.reply.now _ _ c.self.invariant
    (pushed_anew c.args.key.now _ _ _ _ c.in_default.ensures.none c.in_ok-push_row.ensures.ok refl)
    c.mark.ensures.kept c.object_of-object.ensures c.in_ok-mark.ensures.marked

pub set-requires : goal.set-requires
set-requires c = is_within_pushed _ _ _ c.args.key.now _ c.in-Some.ensures.found c.in_ok-push_row.ensures.ok

-- one that was: its new row stands at the end, and the old one is blank
pub returns-clause-ok : goal.returns-clause-ok
returns-clause-ok c =
    put_viewed c.args.key.now c.args.reply.now _ _ _ c.self.view_is
    (pushed_again c.args.key.now _ _ _ _ _ _ c.self.invariant.0 c.in-Some.ensures.found c.in_ok-push_row.ensures.ok refl c.set.ensures)

pub invariant_of-self-2 : goal.invariant_of-self-2
invariant_of-self-2 c =
    put_right _ _ c.args.key.now _ c.args.reply.now _ _ c.self.invariant
    (pushed_again c.args.key.now _ _ _ _ _ _ c.self.invariant.0 c.in-Some.ensures.found c.in_ok-push_row.ensures.ok refl c.set.ensures)
    c.mark.ensures.kept c.object_of-object.ensures c.in_ok-mark.ensures.marked
