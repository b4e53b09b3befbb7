use Rattle.std.proofs.Common.{◌≡◌, ◌∷◌, ◌++◌, [], map, sym, ap, ◌∙◌}
use Rattle.values.specs.Values.{content_of}
use Rattle.kept_frames.specs.Views.{data_of}
use Rattle.kept_frames.proofs.Adding.{map_last}
use Rattle.kept_frames.proofs.Fitting.{next_so}
use Rattle.kept_frames.proofs.waiting.is_next.Goals as goal

pub returns : goal.returns
returns g c shaped =
    let j = c.args.job.now in
    let earlier = c.in-Some.earlier.now in
    let answer = c.in-Some.field-0-0.now in
    let items : map content_of c.as_slice.result.now ≡ j.answers = sym c.as_slice.ensures ∙ c.answers.ensures in
    let ends : j.answers ≡ map content_of earlier ++ content_of answer ∷ [] =
    sym items ∙ ap (map content_of) c.in-Some.ensures.cases.0 ∙ map_last content_of earlier answer in
    next_so (data_of c.args.known.now) j (map content_of earlier) (content_of answer) ends (c.is_shaped.ensures shaped) c.requires
