use Rattle.std.proofs.Common.{◌++◌, ◌∙◌, ap}
use Rattle.std.specs.List.{flat_map}
use Rattle.std.specs.Prelude.{string_bytes}
use Rattle.kept_lists.specs.Texts.{plan_line}
use Rattle.kept_lists.proofs.Rows.{plan_says}
use Rattle.kept_lists.proofs.texts.plan_text.Goals as goal

pub returns : goal.returns
returns c bytes file =
    plan_says bytes (string_bytes c.write_plan.new.text) c.args.plan.now.lines
    (c.in_ok-write_plan.ensures ∙ ap (λ z. z ++ flat_map plan_line c.as_slice.result.now) c.new-text.ensures.bytes ∙ ap (flat_map plan_line) c.as_slice.ensures) file
