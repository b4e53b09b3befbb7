use Rattle.std.proofs.Common.{◌∙◌, ap}
use Rattle.std.proofs.lemmas.Result.{IfOk-weaker}
use Rattle.serde_json.specs.Written.{has_float, compact_text}
use Rattle.timeline.proofs.Floats.{timeline_plain}
use Rattle.timeline.proofs.text.compact.Goals as goal

pub returns : goal.returns
returns c =
    let e = c.in_ok-timeline_value.ensures in
    IfOk-weaker c.to_string.result _ _ (λ s h. h (ap has_float e ∙ timeline_plain c.args.contents c.args.log.now c.args.envelopes.now c.args.sent.now) ∙ ap compact_text e) c.to_string.ensures.text
