-- The operators between operands by how tightly they bind, with their marks.
use Rattle.script_tokens.specs.declared.token.Mark.{Mark}
use Rattle.script_tokens.specs.declared.token.Mark.TheVariants as marks
use Rattle.script_syntax.specs.declared.tree.Prefix.{Prefix}
use Rattle.script_syntax.specs.declared.tree.Prefix.TheVariants as prefixes
use Rattle.script_syntax.specs.declared.tree.BinaryOperator.{BinaryOperator}
use Rattle.script_syntax.specs.declared.tree.BinaryOperator.TheVariants as operators

-- "==" | "!=" | "<" | "<="
pub data Comparison : Type 0 where
  equals : Comparison
  differs : Comparison
  is_less : Comparison
  is_at_most : Comparison

-- "+" | "-"
pub data Additive : Type 0 where
  adds : Additive
  subtracts : Additive

-- "*" | "/" | "%"
pub data Multiplicative : Type 0 where
  multiplies : Multiplicative
  divides : Multiplicative
  leaves : Multiplicative

abbrev pub comparison_mark : Comparison → Mark
comparison_mark equals = marks.Equal
comparison_mark differs = marks.NotEqual
comparison_mark is_less = marks.Less
comparison_mark is_at_most = marks.LessEqual

abbrev pub comparison : Comparison → BinaryOperator
comparison equals = operators.Equal
comparison differs = operators.NotEqual
comparison is_less = operators.Less
comparison is_at_most = operators.LessEqual

abbrev pub additive_mark : Additive → Mark
additive_mark adds = marks.Plus
additive_mark subtracts = marks.Minus

abbrev pub additive : Additive → BinaryOperator
additive adds = operators.Add
additive subtracts = operators.Sub

abbrev pub multiplicative_mark : Multiplicative → Mark
multiplicative_mark multiplies = marks.Times
multiplicative_mark divides = marks.Slash
multiplicative_mark leaves = marks.Percent

abbrev pub multiplicative : Multiplicative → BinaryOperator
multiplicative multiplies = operators.Mul
multiplicative divides = operators.Div
multiplicative leaves = operators.Rem

-- "-" | "get" | "put"
abbrev pub prefix_mark : Prefix → Mark
prefix_mark prefixes.Negate = marks.Minus
prefix_mark prefixes.Get = marks.Get
prefix_mark prefixes.Put = marks.Put
