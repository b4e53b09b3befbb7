-- What is kept of every checked script.
use Rattle.std.specs.Prelude.{◌≡◌, [], ◌∷◌, ◌++◌, Some, None}
use Rattle.meaning.specs.Syntax.{Number, Function, results, Script}
use Rattle.meaning.specs.Meaning.{find}
use Rattle.meaning.specs.Kinds.{ScriptChecks}
use Rattle.meaning.specs.Mains.{KeepsMainApart}
use Rattle.script_syntax.specs.Trees.{Program}
use Rattle.script_check.specs.Rules.{IsCheckedOf}
use Rattle.meaning.specs.Values.{main_name}

-- none of the functions has the name of one before it
abbrev pub AreApart : Script → Script → Type 0
AreApart before [] = Unit {0}
AreApart before (f ∷ fs) = (find before f.name ≡ None) × AreApart (before ++ f ∷ []) fs

pub record IsWellTyped (script : Script) : Type 0 where
  pub checks : ScriptChecks script script
  pub apart : AreApart [] script
  pub main : (f : Function) × (find script main_name ≡ Some f) × (f.parameters ≡ []) × (results f ≡ Number ∷ [])
  pub main_apart : KeepsMainApart script

-- a program becomes one script at most
abbrev pub OneChecked : Type 0
OneChecked = (program : Program) (a b : Script) → IsCheckedOf program a → IsCheckedOf program b → a ≡ b

-- what the rules allow is well typed
abbrev pub AllWellTyped : Type 0
AllWellTyped = (program : Program) (script : Script) → IsCheckedOf program script → IsWellTyped script
