use Rattle.std.proofs.Common.{arith}
use Rattle.ids.proofs.Objects.{text_has_dot, parts_of_text, same_some, object_parts}
use Rattle.ids.proofs.object.ObjectId.read.Goals as goal

pub returns-in_default-split_at_dot-clause-only : goal.returns-in_default-split_at_dot-clause-only
returns-in_default-split_at_dot-clause-only c o i e = absurd (text_has_dot c.args.text.now o e c.in_default-split_at_dot.ensures.none)

pub returns-in_default-read_number-clause-only : goal.returns-in_default-read_number-clause-only
returns-in_default-read_number-clause-only c o i e =
    let parts = parts_of_text c.args.text.now c.in-Some.owner.now c.in-Some.serial.now o i e c.in-Some.ensures.found.0 c.in-Some.ensures.found.1 in
    absurd (c.in_default-read_number.not-Some o.owner (c.read_number.ensures.only o.owner (omega (arith, i.0)) parts.0))

pub returns-in_default-read_number-2-clause-only : goal.returns-in_default-read_number-2-clause-only
returns-in_default-read_number-2-clause-only c o i e =
    let parts = parts_of_text c.args.text.now c.in-Some.owner.now c.in-Some.serial.now o i e c.in-Some.ensures.found.0 c.in-Some.ensures.found.1 in
    absurd (c.in_default-read_number-2.not-Some o.serial (c.read_number-2.ensures.only o.serial i.1 parts.1))

pub returns-then-owner-gt4294967295-clause-only : goal.returns-then-owner-gt4294967295-clause-only
returns-then-owner-gt4294967295-clause-only c o i e =
    let parts = parts_of_text c.args.text.now c.in-Some.owner.now c.in-Some.serial.now o i e c.in-Some.ensures.found.0 c.in-Some.ensures.found.1 in
    let same = same_some c.in-Some-read_number.owner o.owner c.read_number.result c.in-Some-read_number.is (c.read_number.ensures.only o.owner (omega (arith, i.0)) parts.0) in
    absurd (omega (arith, same, i.0, c.if-owner-gt4294967295.true))

pub returns-clause-only : goal.returns-clause-only
returns-clause-only c o i e =
    let parts = parts_of_text c.args.text.now c.in-Some.owner.now c.in-Some.serial.now o i e c.in-Some.ensures.found.0 c.in-Some.ensures.found.1 in
    let owners = same_some c.in-Some-read_number.owner o.owner c.read_number.result c.in-Some-read_number.is (c.read_number.ensures.only o.owner (omega (arith, i.0)) parts.0) in
    let serials = same_some c.in-Some-read_number-2.serial o.serial c.read_number-2.result c.in-Some-read_number-2.is (c.read_number-2.ensures.only o.serial i.1 parts.1) in
    object_parts c.in-Some-read_number.owner c.in-Some-read_number-2.serial o owners serials
