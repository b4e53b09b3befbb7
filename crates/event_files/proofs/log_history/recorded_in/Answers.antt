use Rattle.std.proofs.Common.{rules, ap, ◌∙◌}
use Rattle.event_files.proofs.Logs.{few_more, fits_more, found_more, found_past}
use Rattle.event_files.proofs.log_history.recorded_in.Goals.{in-In+in_ok-push, in_default}
use Rattle.event_files.proofs.log_history.recorded_in.Goals as goal

pub loop-place-preserved : goal.loop-place-preserved
loop-place-preserved c = elim c.match-log-place.branch [
  | in-In+in_ok-push w ↦
      let are = ap (λ v. v.items) w.events-is ∙ w.in_ok-push.ensures.items in
      let behind = w.claims-is ∙ w.claims_behind-claims.ensures in
      record {
        found = found_more c.args.log.now c.loop-place.place w.in-In.seat c.loop-place.claims c.match-log-place.claims c.index-log-place.result w.in-In.event
            w.is_refused_at-refused.result w.given_by.result c.loop-place.events.items c.match-log-place.events.items c.loop-place-test.true
            c.index-log-place.is w.in-In.is w.is_refused_at-refused.ensures w.given_by.ensures.gives behind are c.loop-place.invariant.found;
        counted = few_more w.in-In.event w.is_refused_at-refused.result c.loop-place.claims c.match-log-place.claims c.loop-place.place behind
            c.loop-place.invariant.counted;
        fit = fits_more c.args.log.now c.loop-place.place w.in-In.seat c.index-log-place.result w.in-In.event w.given_by.result c.loop-place.events.items
            c.match-log-place.events.items c.loop-place-test.true c.index-log-place.is w.in-In.is w.given_by.ensures.fits are c.loop-place.invariant.fit;
      }
  | in_default w ↦
      let are = ap (λ v. v.items) w.events-is in
      record {
        found = found_past c.args.log.now c.loop-place.place c.loop-place.claims c.match-log-place.claims c.index-log-place.result c.loop-place.events.items
            c.match-log-place.events.items c.loop-place-test.true c.index-log-place.is w.in_default.not-In w.claims-is are c.loop-place.invariant.found;
        counted = search rules;
        fit = search rules;
      }
]
