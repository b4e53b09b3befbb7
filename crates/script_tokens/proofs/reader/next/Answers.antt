use Rattle.script_tokens.specs.Bytes.{in_word}
use Rattle.script_tokens.proofs.Runs.{run_all}
use Rattle.script_tokens.proofs.reader.next.Goals as goal

pub word_token-requires : goal.word_token-requires
word_token-requires c = rw c.word_run.ensures.word (run_all in_word c.args.text.now)
