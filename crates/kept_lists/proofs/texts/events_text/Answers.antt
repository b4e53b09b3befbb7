use Rattle.std.proofs.Common.{◌++◌, ◌∙◌, ap}
use Rattle.std.specs.Prelude.{string_bytes}
use Rattle.kept_lists.specs.Texts.{file_text}
use Rattle.kept_lists.proofs.Writing.{kept_says}
use Rattle.kept_lists.proofs.texts.events_text.Goals as goal

pub returns : goal.returns
returns c bytes are =
    kept_says c.lines_are_numbered.ensures c.events_are_numbered.ensures c.args.kept.now (string_bytes c.write_file.new.text) bytes
    (c.in_ok-write_file.ensures ∙ ap (λ z. z ++ file_text c.args.kept.now.says c.as_slice.result.now) c.new-text.ensures.bytes
    ∙ ap (file_text c.args.kept.now.says) c.as_slice.ensures) are
