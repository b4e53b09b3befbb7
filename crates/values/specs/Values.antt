-- What the code's values stand for.
use Rattle.ids.specs.of_meaning.Values.{
  Value,
  Int as AnInt,
  Items,
  Named,
  Values,
  none,
  more,
  Outcome,
  Val,
  Trapped,
  Trap as ATrap,
  Overflow,
  DivZero,
  Index,
  TooLong,
  Loop,
  TooDeep,
}
use Rattle.values.specs.declared.value.RunValue.{RunValue, Int, List', Id, Row_of-RunValue, end_of-RunValue, more_of-RunValue}
use Rattle.values.specs.declared.content.Trap.{Trap}
use Rattle.values.specs.declared.content.Trap.TheVariants as traps
use Rattle.values.specs.declared.content.Content.{Content}
use Rattle.values.specs.declared.content.Content.TheVariants as contents

abbrev mutual
  pub value_of : RunValue → Value
  value_of (Int n) = AnInt n
  value_of (List' shape all) = Items (values_in all)
  value_of (Id o) = Named o

  pub values_in : {m : _} → Row_of-RunValue m → Values
  values_in end_of-RunValue = none
  values_in (more_of-RunValue v rest) = more (value_of v) (values_in rest)

abbrev pub trap_of : Trap → ATrap
trap_of traps.Overflow = Overflow
trap_of traps.DivZero = DivZero
trap_of traps.Index = Index
trap_of traps.TooLong = TooLong
trap_of traps.Loop = Loop
trap_of traps.TooDeep = TooDeep

abbrev pub content_of : Content → Outcome
content_of (contents.Value v) = Val (value_of v)
content_of (contents.Trap t) = Trapped (trap_of t)
