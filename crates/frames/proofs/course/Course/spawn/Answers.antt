use Rattle.std.proofs.Common.{sym, subst}
use Rattle.frames.specs.Machines.{made_of}
use Rattle.frames.specs.Courses.{BirthIsMet}
use Rattle.frames.proofs.Doing.{on_ok}
use Rattle.frames.proofs.course.Course.spawn.Goals as goal

-- what it makes is borne as where the machine meets it
pub returns-clause-goes : goal.returns-clause-goes
returns-clause-goes c =
    let m = c.in_ok-made.made in
    on_ok _ _ c.bear.result
    (λ goes script spec base past is_met. goes script c.args.limit spec base past
    (subst (BirthIsMet script c.args.limit spec base past c.args.self.now (made_of m)) (sym c.place-to.ensures) (is_met (made_of m) c.in_ok-made.ensures)))
    c.bear.ensures.goes
