use Rattle.std.proofs.Common.{◌<◌, length, arith}
use Rattle.values.specs.Values.{content_of}
use Rattle.values.proofs.SameLists.{same_at}
use Rattle.values.proofs.same.are_same_contents.Goals as goal

pub returns-then-not-is_same_content-clause-only : goal.returns-then-not-is_same_content-clause-only
returns-then-not-is_same_content-clause-only c = λ e.
    let here : c.loop-i.i < length c.args.b.now = omega arith in
    c.if-not-is_same_content.ensures.only (same_at content_of c.args.a.now c.args.b.now c.loop-i.i c.index-a-i.result c.index-b-i.result c.loop-i-test.true here e c.index-a-i.is c.index-b-i.is)
