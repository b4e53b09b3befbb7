use Rattle.std.proofs.Common.{◌≡◌, ◌+◌, ◌++◌, drop, length, map}
use Rattle.frame_laws.specs.Compile.{marked_code}
use Rattle.script_check.specs.Trees.{parameter_of}
use Rattle.frame_code.specs.Views.{codes}
use Rattle.frame_code.proofs.functions.emit_marked.Given as goal

-- the code so far with what is left to write
abbrev pub invariant-loop-argument : goal.invariant-loop-argument
invariant-loop-argument l = record {
  mark : l.mark ≡ length l.parameters + l.argument;
  code : codes l.code.items ++ marked_code l.argument (length l.parameters) (map parameter_of (drop l.argument l.parameters))
      ≡ codes l.fn.code.items ++ marked_code 0 (length l.parameters) (map parameter_of l.parameters);
}
