use Rattle.std.proofs.Common.{◌≡◌, ◌<◌, length, refl, subst, sym}
use Rattle.protocol_data.specs.Going.{AreMarked, may_commit, may_go}
use Rattle.protocol_data.proofs.Going.{lowered}
use Rattle.protocol_data.proofs.workers.Workers.kill.Goals as goal

pub invariant_of-self : goal.invariant_of-self
invariant_of-self c =
    let e : c.self.inside.rows ≡ c.args.self.now = cc in
    let h : c.args.place < length c.self.inside.rows = subst (λ xs. c.args.place < length xs) (sym e) c.requires in (
      subst (λ gs. AreMarked may_go gs c.kill.new.rows) (sym c.set.ensures)
          (lowered may_go (λ x. refl) c.self.inside.going c.self.inside.rows c.kill.new.rows c.args.place c.self.invariant.0 h c.kill.ensures),
      subst (λ gs. AreMarked may_commit gs c.kill.new.rows) (sym c.set-2.ensures)
          (lowered may_commit (λ x. refl) c.self.inside.out c.self.inside.rows c.kill.new.rows c.args.place c.self.invariant.1 h c.kill.ensures),
    )
