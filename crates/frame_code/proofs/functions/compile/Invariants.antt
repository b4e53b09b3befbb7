use Rattle.std.proofs.Common.{◌≡◌, ◌++◌, drop, length}
use Rattle.frame_laws.specs.Compile.{all_code, entries_from}
use Rattle.script_check.specs.Trees.{script_of}
use Rattle.frame_code.specs.Views.{codes}
use Rattle.frame_code.proofs.functions.compile.Given as goal

-- the code so far with what is left to write, and where the functions so far begin with where those that are left will begin
abbrev pub invariant-loop-function : goal.invariant-loop-function
invariant-loop-function l = record {
  code : codes l.instructions.items ++ all_code (script_of l.script) (script_of (drop l.function-index l.script)) ≡ all_code (script_of l.script)
      (script_of l.script);
  entries : l.entries.items ++ entries_from (script_of l.script) (length (codes l.instructions.items)) (script_of (drop l.function-index l.script))
      ≡ entries_from (script_of l.script) 0 (script_of l.script);
}
