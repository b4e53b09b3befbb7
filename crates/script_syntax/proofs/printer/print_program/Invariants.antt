use Rattle.std.proofs.Common.{◌≡◌, ◌++◌, drop}
use Rattle.std.specs.String.{string_bytes}
use Rattle.script_tokens.specs.Spelling.{text_of_lines}
use Rattle.script_syntax.specs.Views.{program_of}
use Rattle.script_syntax.specs.Printing.{printed_program}
use Rattle.script_syntax.proofs.printer.print_program.Given as goal

-- what is still to write
abbrev pub invariant-loop-function : goal.invariant-loop-function
invariant-loop-function l =
    string_bytes l.text ++ text_of_lines (printed_program (program_of (drop l.function-index l.program.functions.items))) ≡ text_of_lines (printed_program (program_of l.program.functions.items))
