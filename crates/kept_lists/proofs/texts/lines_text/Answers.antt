use Rattle.std.proofs.Common.{◌++◌, ◌∙◌, ap}
use Rattle.std.specs.Prelude.{string_bytes}
use Rattle.event_files.specs.Lines.{line_text}
use Rattle.kept_lists.specs.Texts.{numbered_text}
use Rattle.kept_lists.proofs.Writing.{plain_says}
use Rattle.kept_lists.proofs.texts.lines_text.Goals as goal

pub returns : goal.returns
returns c bytes are =
    plain_says c.lines_are_numbered.ensures c.args.kept.now (string_bytes c.write_lines.new.text) bytes
    (c.in_ok-write_lines.ensures ∙ ap (λ z. z ++ numbered_text line_text 0 c.as_slice.result.now c.as_slice-2.result.now) c.new-text.ensures.bytes
    ∙ ap (λ says. numbered_text line_text 0 says c.as_slice-2.result.now) c.as_slice.ensures
    ∙ ap (numbered_text line_text 0 c.args.kept.now.says) c.as_slice-2.ensures) are
