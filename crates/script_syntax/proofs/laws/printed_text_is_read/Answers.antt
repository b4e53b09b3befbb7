use Rattle.script_syntax.proofs.Limited.{limited_is_read}
use Rattle.script_syntax.proofs.laws.printed_text_is_read.Goals as goal

pub returns : goal.returns
returns c = limited_is_read c.spelled_is_read.ensures
