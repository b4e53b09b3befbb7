-- A script whose main calls a function of two results remotely.
use Rattle.std.specs.Prelude.{ℕ, true, false, List, [], ◌∷◌, codes}
use Rattle.meaning.specs.Syntax.{Number, Add, Mul, Var, Binary, GetOf, Let, LetRemote, Script}
use Rattle.meaning.specs.Examples.{number, each, give, parts, script_of}

-- let q, r = remote(0) parts(a, b); let v = get r; return get q * 10 + v;
abbrev pub parts_asked : ℕ → ℕ → Script
parts_asked a b = script_of (parts ∷ [])
    (LetRemote (codes "q") (codes "r" ∷ []) 0 (codes "parts") (false ∷ false ∷ []) (each (number a ∷ number b ∷ []))
    ∷ Let (codes "v") (GetOf Number (Var (codes "r")))
    ∷ give (Binary Add (Binary Mul (GetOf Number (Var (codes "q"))) (number 10)) (Var (codes "v"))) ∷ [])
