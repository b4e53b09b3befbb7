use Rattle.script_tokens.proofs.Spans.{word_utf8}
use Rattle.script_tokens.proofs.reader.word_text.Goals as goal

pub unreachable-requires : goal.unreachable-requires
unreachable-requires c = c.in-Err.ensures.cases.0 (word_utf8 c.args.word.now c.requires)
