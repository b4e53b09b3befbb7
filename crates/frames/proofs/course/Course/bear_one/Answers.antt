use Rattle.std.proofs.Common.{◌∙◌, [], ◌∷◌, map, sym, ap, subst}
use Rattle.meaning.specs.Values.{Named}
use Rattle.meaning.specs.Runs as runs
use Rattle.frames.specs.Machines.{made_of, state_of}
use Rattle.frames.specs.Courses.{Standing}
use Rattle.frames.proofs.Doing.{on_ok}
use Rattle.frames.proofs.Meeting.{bear_goes, borne}
use Rattle.frames.proofs.course.Course.bear_one.Goals as goal

-- the one reference is to the object whose id is next
pub returns-clause-goes : goal.returns-clause-goes
returns-clause-goes c =
    let first = c.args.self.now.next in
    on_ok _ _ c.put.result
    (λ put script limit spec base past met.
    subst (λ o. Standing script limit spec base past (record c.args.self.now { births = c.push.new.self; next = o; state = c.put.new.self }))
    (sym (c.in_ok-behind.ensures.next ∙ ap (runs.past first) (sym c.requires)))
    (bear_goes script limit spec base past c.args.self.now (made_of c.args.made) c.args.to (Named c.in_ok-new.field-0.value ∷ []) _
    (state_of c.put.new.self) met
    (borne past c.args.self.now c.push.new.self.items c.args.made c.in_ok-push.ensures.items)
    (ap (λ n. map Named (runs.ids_from first n)) c.requires ∙ ap (λ o. Named o ∷ []) (sym c.in_ok-new.ensures.ok))
    put))
    c.put.ensures.put
