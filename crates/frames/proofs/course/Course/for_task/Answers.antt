use Rattle.std.proofs.Common.{List, [], map, sym, ap, ◌∙◌}
use Rattle.frame_laws.specs.Resuming.{Deeds}
use Rattle.meaning.specs.Values as meant
use Rattle.frames.specs.Values.{value_of}
use Rattle.frames.specs.Machines.{made_of, state_of}
use Rattle.frames.proofs.Starting.{frame_starts}
use Rattle.frames.proofs.course.Course.for_task.Goals as goal

abbrev deeds : List meant.Birth → List meant.Value → meant.Id → Deeds
deeds births prints id = record { births = births; prints = prints; next = id; steps = 0 }

pub returns-clause-stands : goal.returns-clause-stands
returns-clause-stands c script g f depth retries others same numbered found count shallow =
    let births = c.new.result.items in
    let prints = c.new-2.result.items in
    let id = c.args.base in
    frame_starts script g f c.args.arguments.now depth (state_of c.in_ok-state.state) found count shallow
    (c.in_ok-state.ensures script g f same numbered count) retries others id (deeds (map made_of births) (map value_of prints) id)
    (sym (ap (λ ms. deeds (map made_of ms) (map value_of prints) id) c.new.ensures.items ∙ ap (λ vs. deeds [] (map value_of vs) id) c.new-2.ensures.items))
