use Rattle.std.proofs.Common.{◌≡◌, length, ap, arith}
use Rattle.script_tokens.specs.Bytes.{in_run, front}
use Rattle.script_tokens.proofs.Runs.{run_short}
use Rattle.script_tokens.proofs.reader.bad_span.Goals as goal

pub overflow_add-result : goal.overflow_add-result
overflow_add-result c =
    let run : length c.whole_run.result.0.now ≡ length (front in_run c.args.rest.now) = ap length c.whole_run.ensures.run in
    omega (arith, c.max-length.ensures, run, run_short in_run c.args.rest.now, c.requires.some, c.requires.fits)
