use Rattle.std.proofs.Common.{None, ap, subst, sym}
use Rattle.event_log.specs.Books.{Totals}
use Rattle.run_paths.specs.of_protocol_board.Cores.{Size}
use Rattle.seats.proofs.Came.{fresh_came}
use Rattle.seats.proofs.Counted.{fresh_claims, fresh_seat_totals, fresh_totals}
use Rattle.seats.proofs.Held.{none_held_yet}
use Rattle.seats.proofs.Outside.{none_yet}
use Rattle.seats.proofs.Owed.{IsKept, none_out_yet}
use Rattle.seats.proofs.Ruled.{fresh_ruled}
use Rattle.seats.proofs.Seated.{none_came_yet}
use Rattle.seats.proofs.Standing.{none_in}
use Rattle.seats.proofs.turning.Turning.new.Goals as goal

pub invariant_of-result : goal.invariant_of-result
invariant_of-result g c =
    let r = c.args.board in
    let kept : IsKept c.new.result r.log None = subst (λ out. IsKept out r.log None) (sym c.new.ensures) (none_out_yet r.log c.requires.fresh.0) in (
      fresh_claims r c.requires.fresh,
      sym (ap (λ (t : Totals). t.commits) (fresh_totals r c.requires.fresh)),
      c.requires.named.0,
      ap (λ (z : Size). z.nodes) c.requires.named.1,
      (ap (λ (z : Size). z.slots) c.requires.named.1, c.requires.fresh.2),
      none_in r.log,
      none_yet g.P.RunName.is_open r.log c.requires.fresh.0,
      fresh_came c.none_came.ensures c.paths_go_on.ensures.none g.S.ScriptName.script g.P.RunName.size r c.log.ensures.meant.reached c.requires.fresh
          c.requires.named.1,
      kept.jobs,
      kept.within,
      fresh_ruled c.none_came.ensures g.S.ScriptName.script g.P.RunName.is_open g.P.RunName.plan c.args.plan.lines g.P.RunName.size r c.new.result
          c.log.ensures.meant.reached c.requires.fresh c.requires.named.1 c.requires.named.0 c.new.ensures,
      none_held_yet g.P.RunName.is_open g.P.RunName.plan c.new.result r.log c.requires.fresh.0 c.new.ensures,
    )

pub returns-clause-totals : goal.returns-clause-totals
returns-clause-totals g c = fresh_totals c.args.board c.requires.fresh

pub returns-clause-watched : goal.returns-clause-watched
returns-clause-watched g c = fresh_seat_totals g.P.Watching.watched c.args.board c.requires.fresh

pub returns-clause-seated : goal.returns-clause-seated
returns-clause-seated g c = none_came_yet c.args.board.log c.requires.fresh.0
