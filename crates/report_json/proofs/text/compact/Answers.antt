use Rattle.std.proofs.Common.{◌∙◌, ap}
use Rattle.std.proofs.lemmas.Result.{IfOk-weaker}
use Rattle.serde_json.specs.Written.{has_float, compact_text}
use Rattle.report_json.proofs.Floats.{report_plain}
use Rattle.report_json.proofs.text.compact.Goals as goal

pub returns : goal.returns
returns c =
    let e = c.in_ok-report_value.ensures in
    IfOk-weaker c.to_string.result _ _ (λ s h. h (ap has_float e ∙ report_plain c.args.log.now) ∙ ap compact_text e) c.to_string.ensures.text
