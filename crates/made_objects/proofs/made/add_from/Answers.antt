use Rattle.std.proofs.Common.{◌++◌, ◌∷◌, [], ap, ◌∙◌}
use Rattle.meaning.specs.Runs.{past}
use Rattle.made_objects.proofs.Behind.{one_added}
use Rattle.made_objects.proofs.made.add_from.Goals as goal

pub loop-place-preserved : goal.loop-place-preserved
loop-place-preserved c =
    c.in_ok-push.ensures.items
    ∙ ap (λ o. c.loop-place.objects.items ++ o ∷ []) c.in_ok-object_behind.ensures.object
    ∙ ap (λ ids. ids ++ past c.args.first c.loop-place.place ∷ []) c.loop-place.invariant
    ∙ one_added c.args.objects.now.items c.args.first c.loop-place.place
