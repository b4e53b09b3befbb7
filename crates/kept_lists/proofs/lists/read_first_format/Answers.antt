use Rattle.std.proofs.Common.{ap}
use Rattle.std.specs.Prelude.{string_bytes}
use Rattle.kept_lists.proofs.Reading.{lines_read}
use Rattle.kept_lists.proofs.lists.read_first_format.Goals as goal

pub returns-clause-read : goal.returns-clause-read
returns-clause-read g c =
    lines_read (g.R.Source.left c.args.reader.now) c.in_ok-kept.kept (string_bytes c.in_ok-text.text) c.into_bytes.result.items (ap (λ v. v.items) c.into_bytes.ensures.value)
    c.in_ok-kept.ensures.read c.in_ok-text.ensures
