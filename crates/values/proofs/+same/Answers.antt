use Rattle.std.proofs.Common.{◌<◌, length, arith}
use Rattle.values.specs.Values.{value_of}
use Rattle.values.proofs.SameLists.{same_list, only_list, same_at}
use Rattle.values.proofs.+same.Goals as goal

pub value::RunValue::is_same-returns-in-List-other-2-clause-same : goal.value::RunValue::is_same-returns-in-List-other-2-clause-same
value::RunValue::is_same-returns-in-List-other-2-clause-same t c = λ r.
    same_list c.args.self.now c.args.other.now c.in-List.a c.in-List-other-2.b c.deref.result.now c.deref-in-List-other-2.result.now c.in-List.is c.in-List-other-2.is c.deref.ensures.value c.deref-in-List-other-2.ensures.value (c.are_same_values.ensures.same r)

pub value::RunValue::is_same-returns-in-List-other-2-clause-only : goal.value::RunValue::is_same-returns-in-List-other-2-clause-only
value::RunValue::is_same-returns-in-List-other-2-clause-only t c = λ e.
    c.are_same_values.ensures.only (only_list c.args.self.now c.args.other.now c.in-List.a c.in-List-other-2.b c.deref.result.now c.deref-in-List-other-2.result.now c.in-List.is c.in-List-other-2.is c.deref.ensures.value c.deref-in-List-other-2.ensures.value e)

pub same::are_same_values-returns-then-not-is_same-clause-only : goal.same::are_same_values-returns-then-not-is_same-clause-only
same::are_same_values-returns-then-not-is_same-clause-only t c = λ e.
    let here : c.loop-i.i < length c.args.b.now = omega arith in
    c.if-not-is_same.ensures.only (same_at value_of c.args.a.now c.args.b.now c.loop-i.i c.index-a-i.result c.index-b-i.result c.loop-i-test.true here e c.index-a-i.is c.index-b-i.is)
