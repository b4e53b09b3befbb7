use Rattle.std.proofs.Common.{◌-◌, ◌∙◌, ap, arith}
use Rattle.log_words.specs.Index.{birth_found, found}
use Rattle.log_words.proofs.Indexed.{indexed_more}
use Rattle.log_words.proofs.births.places_of.Goals as goal

pub loop-place-preserved : goal.loop-place-preserved
loop-place-preserved c = record {
  within = omega (arith, c.loop-place.invariant.within);
  indexed = λ o.
      ap (birth_found c.args.log.now) (c.in_ok-note.ensures o)
      ∙ indexed_more c.args.log.now c.loop-place.place (c.loop-place.place - 1) c.index-log-place.result (found c.loop-place.places o) o
      (omega (arith, c.loop-place-test.true)) (omega (arith, c.loop-place-test.true, c.loop-place.invariant.within))
      c.index-log-place.is (c.loop-place.invariant.indexed o);
}
