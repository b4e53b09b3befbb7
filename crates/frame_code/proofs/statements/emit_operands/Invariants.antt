use Rattle.std.proofs.Common.{◌≡◌, ◌++◌, drop, map}
use Rattle.frame_laws.specs.Compile.{operands_code, operands_of}
use Rattle.script_check.specs.Trees.{exprs_of, script_of}
use Rattle.frame_code.specs.Views.{given_of, codes, names_of}
use Rattle.frame_code.proofs.statements.emit_operands.Given as goal

-- the code and the operands so far, with those that are left
abbrev pub invariant-loop-expr : goal.invariant-loop-expr
invariant-loop-expr l = record {
  code : codes l.code.items ++ operands_code (script_of l.script) (names_of l.names) (exprs_of (drop l.expr-index l.exprs)) l.next
      ≡ codes l.fn.code.items ++ operands_code (script_of l.script) (names_of l.names) (exprs_of l.exprs) l.fn.free;
  operands : map given_of l.operands.items ++ operands_of (script_of l.script) (names_of l.names) (exprs_of (drop l.expr-index l.exprs)) l.next
      ≡ operands_of (script_of l.script) (names_of l.names) (exprs_of l.exprs) l.fn.free;
}
