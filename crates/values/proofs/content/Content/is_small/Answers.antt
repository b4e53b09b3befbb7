use Rattle.std.proofs.Common.{ap, ◌∙◌, sym}
use Rattle.values.specs.Values.{content_of, trap_of, value_of}
use Rattle.values.specs.Cells.{is_small}
use Rattle.values.proofs.Counting.{trap_is_small, value_is_small}
use Rattle.values.proofs.content.Content.is_small.Goals as goal

pub returns-in-Trap : goal.returns-in-Trap
returns-in-Trap c = trap_is_small (trap_of c.in-Trap.field-0) ∙ ap is_small (sym (ap content_of c.in-Trap.is))

pub returns-in-Value : goal.returns-in-Value
returns-in-Value c =
    c.is_some.ensures ∙ value_is_small (value_of c.in-Value.value) c.room_left.result c.room_left.ensures.some c.room_left.ensures.none
    ∙ ap is_small (sym (ap content_of c.in-Value.is))
