-- What the parser's calls stand for.
use Rattle.script_syntax.specs.Reading.{Callee as ACallee, AsPart, AsTask}
use Rattle.script_syntax.specs.Views.{name_of, retries_of, trees_of}
use Rattle.script_syntax.specs.declared.expressions.Callee.{Callee}
use Rattle.script_syntax.specs.declared.expressions.Callee.TheVariants as calls

abbrev pub callee_of : Callee → ACallee
callee_of (calls.AsPart g args) = AsPart (name_of g) (trees_of args.items)
callee_of (calls.AsTask r g args) = AsTask (retries_of r) (name_of g) (trees_of args.items)
