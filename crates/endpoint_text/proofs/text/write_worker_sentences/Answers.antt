use Rattle.std.proofs.Common.{string_bytes, arith}
use Rattle.why_text.specs.Moments.{moment_of}
use Rattle.endpoint_text.specs.Workers.{seen_of, worker_sentence}
use Rattle.endpoint_text.proofs.Sentences.{next_told}
use Rattle.endpoint_text.proofs.text.write_worker_sentences.Goals as goal

pub loop-place-preserved : goal.loop-place-preserved
loop-place-preserved c = record {
  written =
      next_told (worker_sentence c.args.contents c.args.log.now c.args.lines.now c.args.envelopes.now (seen_of c.args.subject.now)) c.args.lines.now
      c.args.log.now c.loop-place.place (moment_of c.loop-place.moment) (moment_of c.after-moment.result) c.index-log-place.result
      c.is_refusal_at-is_refused.result (string_bytes c.loop-place.text) (string_bytes c.write_worker_sentence.new.text) _
      c.loop-place-test.true c.index-log-place.is c.after-moment.ensures.moment c.is_refusal_at-is_refused.ensures
      c.loop-place.invariant.written (c.in_ok-write_worker_sentence.ensures c.requires);
  counted = omega (arith, c.after-moment.ensures.counted, c.loop-place.invariant.counted);
}
