use Rattle.std.proofs.Common.{sym, ◌∙◌, arith}
use Rattle.frame_laws.specs.Compile.{place_in}
use Rattle.frame_code.specs.Views.{names_of}
use Rattle.frame_code.proofs.Places.{further_none, place_later, place_found, place_nowhere}
use Rattle.frame_code.proofs.names.place_in.Goals as goal

pub loop-place-init : goal.loop-place-init
loop-place-init c = record { within = omega arith; left = further_none (place_in (names_of c.args.names.now) c.args.name.now) }

pub returns-then-is_name : goal.returns-then-is_name
returns-then-is_name c =
    sym (place_found c.args.names.now c.loop-place.place _ c.args.name.now c.loop-place-test.true (sym c.is_name.ensures ∙ c.if-is_name.true))
    ∙ c.loop-place.invariant.left

pub loop-place-preserved : goal.loop-place-preserved
loop-place-preserved c = record {
  within = omega arith;
  left = sym (place_later c.args.names.now c.loop-place.place _ c.args.name.now c.loop-place-test.true (sym c.is_name.ensures ∙ c.if-is_name.false))
      ∙ c.loop-place.invariant.left;
}

pub returns : goal.returns
returns c = sym (place_nowhere c.args.names.now c.loop-place.place c.args.name.now c.loop-place-test.false) ∙ c.loop-place.invariant.left
