-- What a text is made of.
use Rattle.std.specs.Prelude.{ℕ, List}
use Rattle.script_tokens.specs.declared.token.Mark.{Mark}

-- a name is its bytes
abbrev pub Name : Type 0
Name = List ℕ

pub data Token : Type 0 where
  number : (n : ℕ) → Token
  name : (x : Name) → Token
  mark : (m : Mark) → Token
