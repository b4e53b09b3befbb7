-- What the code's answers on expressions stand for.
use Rattle.std.specs.Prelude.{Bool, List, [], ◌∷◌, ◌++◌, Option, Some}
use Rattle.meaning.specs.Syntax.{Exprs, also, Block, step, Parameter, Script}
use Rattle.script_check.specs.Trees.{kind_of, expr_of, exprs_of, statement_of, parameter_of, function_of}
use Rattle.script_check.specs.Inference.{◌>>=◌, Typing as ATyping, Marked, Blocked, Declared}
use Rattle.script_check.specs.declared.tree.CheckedExpr.{CheckedExpr}
use Rattle.script_check.specs.declared.tree.CheckedStatement.{CheckedStatement}
use Rattle.script_check.specs.declared.tree.CheckedParameter.{CheckedParameter}
use Rattle.script_check.specs.declared.tree.CheckedFunction.{CheckedFunction}
use Rattle.script_check.specs.declared.typing.Typing.{Typing}
use Rattle.script_check.specs.declared.expressions.MarkedArguments.{MarkedArguments}

abbrev pub typing_of : Typing → ATyping
typing_of x = record { expr = expr_of x.expr; kind = kind_of x.kind }

abbrev pub marked_of : MarkedArguments → Marked
marked_of x = record { marks = x.marks.items; exprs = exprs_of x.exprs.items }

-- these, and then others
abbrev pub joined : List CheckedExpr → Exprs → Exprs
joined [] others = others
joined (e ∷ es) others = also (expr_of e) (joined es others)

abbrev pub onto : List CheckedExpr → Option Exprs → Option Exprs
onto es others = others >>= λ cs. Some (joined es cs)

abbrev pub onto_marked : List Bool → List CheckedExpr → Option Marked → Option Marked
onto_marked ms es others = others >>= λ m. Some (record { marks = ms ++ m.marks; exprs = joined es m.exprs })

abbrev pub joined_steps : List CheckedStatement → Block → Block
joined_steps [] rest = rest
joined_steps (s ∷ ss) rest = step (statement_of s) (joined_steps ss rest)

abbrev pub onto_steps : List CheckedStatement → Option Blocked → Option Blocked
onto_steps ss others = others >>= λ b. Some (record { block = joined_steps ss b.block; after = b.after })

abbrev pub joined_parameters : List CheckedParameter → List Parameter → List Parameter
joined_parameters [] rest = rest
joined_parameters (p ∷ ps) rest = parameter_of p ∷ joined_parameters ps rest

abbrev pub onto_parameters : List CheckedParameter → Option Declared → Option Declared
onto_parameters ps others = others >>= λ d. Some (record { parameters = joined_parameters ps d.parameters; context = d.context })

abbrev pub joined_functions : List CheckedFunction → Script → Script
joined_functions [] rest = rest
joined_functions (f ∷ fs) rest = function_of f ∷ joined_functions fs rest

abbrev pub onto_functions : List CheckedFunction → Option Script → Option Script
onto_functions fs others = others >>= λ gs. Some (joined_functions fs gs)
