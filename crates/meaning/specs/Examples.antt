-- Worked examples of scripts, and what main prints and how it ends.
use Rattle.std.specs.Prelude.{◌≡◌, ℕ, true, false, List, [], ◌∷◌, ◌++◌, pos, codes, map}
use Rattle.meaning.specs.Values.{Name, Value, Int, Items, none, more, Outcome, Val, first_outcome, Birth, Task, Id}
use Rattle.meaning.specs.Syntax.{
  Kind,
  Number,
  ListKind,
  RefKind,
  Add,
  Sub,
  Mul,
  Div,
  Rem,
  Equal,
  ItemAt,
  Push,
  Len,
  Expr,
  Num,
  Var,
  Unary,
  Binary,
  ListOf,
  Empty,
  Call,
  Remote,
  PutOf,
  GetOf,
  Exprs,
  end,
  also,
  Stmt,
  Let,
  LetCall,
  Set,
  Print,
  Return,
  If,
  For,
  Block,
  done,
  step,
  Parameter,
  Function,
  Script,
}
use Rattle.meaning.specs.Runs.{serial_end, serial_trace, Stop, Piece}
use Rattle.meaning.specs.Meaning.{serial_run}
use Rattle.meaning.specs.Law.{prints_of}

-- with every remote call a plain call, main prints this and ends so
pub record MainGives (script : Script) (prints : List Value) (result : Outcome) : Type 0 where
  pub printed : prints_of (serial_trace (serial_run script)) ≡ prints
  pub ended : first_outcome (serial_end (serial_run script)) ≡ result

-- ---- short forms

abbrev pub number : ℕ → Expr
number n = Num (pos n)

abbrev pub value : ℕ → Outcome
value n = Val (Int (pos n))

abbrev pub block : List Stmt → Block
block [] = done
block (s ∷ ss) = step s (block ss)

abbrev pub each : List Expr → Exprs
each [] = end
each (e ∷ es) = also e (each es)

-- return E;
abbrev pub give : Expr → Stmt
give e = Return (also e end)

abbrev pub parameter : Name → Kind → Parameter
parameter x t = record { name = x; kind = t }

-- a function with a first result and others
abbrev pub function_of : Name → List Parameter → Kind → List Kind → List Stmt → Function
function_of g ps t ts body = record { name = g; parameters = ps; result = t; others = ts; body = block body }

abbrev pub function : Name → List Parameter → Kind → List Stmt → Function
function g ps t body = function_of g ps t [] body

-- a script of these functions and main
abbrev pub script_of : List Function → List Stmt → Script
script_of fs body = fs ++ function (codes "main") [] Number body ∷ []

-- a remote call none of whose arguments is dereferenced
abbrev pub remote : Name → List Expr → Expr
remote g args = Remote 3 g (map (λ _. false) args) (each args)

-- one all of whose arguments are
abbrev pub remote_got : Name → List Expr → Expr
remote_got g args = Remote 3 g (map (λ _. true) args) (each args)

-- ---- functions

-- fn sq(x: int) -> int { return x * x; }
abbrev pub sq : Function
sq = function (codes "sq") (parameter (codes "x") Number ∷ []) Number (give (Binary Mul (Var (codes "x")) (Var (codes "x"))) ∷ [])

-- fn div(a: int, b: int) -> int { return a / b; }
abbrev pub div : Function
div = function (codes "div") (parameter (codes "a") Number ∷ parameter (codes "b") Number
    ∷ []) Number (give (Binary Div (Var (codes "a")) (Var (codes "b"))) ∷ [])

-- fn sum(l: [ref int]) -> int { let t = 0; for i in 0 .. len(l) { set t = t + get l[i]; } return t; }
abbrev pub sum : Function
sum = function (codes "sum") (parameter (codes "l") (ListKind (RefKind Number)) ∷ []) Number
    (Let (codes "t") (number 0)
    ∷ For (codes "i") (number 0) (Unary Len (Var (codes "l")))
    (block (Set (codes "t") (Binary Add (Var (codes "t")) (GetOf Number (Binary ItemAt (Var (codes "l")) (Var (codes "i"))))) ∷ []))
    ∷ give (Var (codes "t")) ∷ [])

-- fn long(n: int) -> [int] { let l = empty int; for i in 0 .. n { set l = push(l, i); } return l; }
abbrev pub long : Function
long = function (codes "long") (parameter (codes "n") Number ∷ []) (ListKind Number)
    (Let (codes "l") (Empty Number)
    ∷ For (codes "i") (number 0) (Var (codes "n")) (block (Set (codes "l") (Binary Push (Var (codes "l")) (Var (codes "i"))) ∷ []))
    ∷ give (Var (codes "l")) ∷ [])

-- fn f(l: [int], x: int) -> int { return len(l) + x; }
abbrev pub long_plus : Function
long_plus = function (codes "f") (parameter (codes "l") (ListKind Number) ∷ parameter (codes "x") Number ∷ []) Number
    (give (Binary Add (Unary Len (Var (codes "l"))) (Var (codes "x"))) ∷ [])

-- fn f(n: int) -> int { if n == 0 { return 0; } if n % 2 == 0 { return 1 + f(n - 1); } return 1 + get remote f(n - 1); }
abbrev pub by_turns : Function
by_turns =
    let n = Var (codes "n") in
    let less = Binary Sub n (number 1) in
    function (codes "f") (parameter (codes "n") Number ∷ []) Number
    (If (Binary Equal n (number 0)) (block (give (number 0) ∷ [])) done
    ∷ If (Binary Equal (Binary Rem n (number 2)) (number 0)) (block (give (Binary Add (number 1) (Call (codes "f") (each (less ∷ [])))) ∷ [])) done
    ∷ give (Binary Add (number 1) (GetOf Number (remote (codes "f") (less ∷ [])))) ∷ [])

-- fn leaf() -> int { return 4; }
abbrev pub leaf : Function
leaf = function (codes "leaf") [] Number (give (number 4) ∷ [])

-- fn outer() -> ref int { return remote leaf(); }
abbrev pub outer : Function
outer = function (codes "outer") [] (RefKind Number) (give (remote (codes "leaf") []) ∷ [])

-- fn add(r: ref int) -> int { return 1 + get r; }
abbrev pub add : Function
add = function (codes "add") (parameter (codes "r") (RefKind Number) ∷ []) Number (give (Binary Add (number 1) (GetOf Number (Var (codes "r")))) ∷ [])

-- fn mid(r: ref int) -> int { let c = remote add(r); return 0; }
abbrev pub mid : Function
mid = function (codes "mid") (parameter (codes "r") (RefKind Number) ∷ []) Number (Let (codes "c") (remote (codes "add") (Var (codes "r") ∷ []))
    ∷ give (number 0) ∷ [])

-- fn parts(a: int, b: int) -> (int, int) { return a / b, a % b; }
abbrev pub parts : Function
parts = function_of (codes "parts") (parameter (codes "a") Number ∷ parameter (codes "b") Number ∷ []) Number (Number ∷ [])
    (Return (each (Binary Div (Var (codes "a")) (Var (codes "b")) ∷ Binary Rem (Var (codes "a")) (Var (codes "b")) ∷ [])) ∷ [])

-- fn two(n: int) -> (int, [int]) { return n + 1, [n, n]; }
abbrev pub two : Function
two = function_of (codes "two") (parameter (codes "n") Number ∷ []) Number (ListKind Number ∷ [])
    (Return (each (Binary Add (Var (codes "n")) (number 1) ∷ ListOf (each (Var (codes "n") ∷ Var (codes "n") ∷ [])) ∷ [])) ∷ [])

-- fn mixed(n: int) -> (int, int, int, [int]) { let a, l = two(n); return a, n * 2, 1, l; }
abbrev pub mixed : Function
mixed = function_of (codes "mixed") (parameter (codes "n") Number ∷ []) Number (Number ∷ Number ∷ ListKind Number ∷ [])
    (LetCall (codes "a") (codes "l" ∷ []) (codes "two") (each (Var (codes "n") ∷ []))
    ∷ Return (each (Var (codes "a") ∷ Binary Mul (Var (codes "n")) (number 2) ∷ number 1 ∷ Var (codes "l") ∷ [])) ∷ [])

-- ---- scripts

-- let r = remote sq(7); print get r; return 0;
abbrev pub square : Script
square = script_of (sq ∷ []) (Let (codes "r") (remote (codes "sq") (number 7 ∷ [])) ∷ Print (GetOf Number (Var (codes "r"))) ∷ give (number 0) ∷ [])

-- return get remote sum([remote sq(1), remote sq(2), remote sq(3), remote sq(4)]);
abbrev pub sum_of_squares : Script
sum_of_squares =
    let squared = λ (n : ℕ). remote (codes "sq") (number n ∷ []) in
    script_of (sq ∷ sum ∷ []) (give (GetOf Number (remote (codes "sum") (ListOf (each (squared 1 ∷ squared 2 ∷ squared 3 ∷ squared 4 ∷ []))
    ∷ []))) ∷ [])

-- let r = remote div(1, 0); return 5;
abbrev pub trap_not_got : Script
trap_not_got = script_of (div ∷ []) (Let (codes "r") (remote (codes "div") (number 1 ∷ number 0 ∷ [])) ∷ give (number 5) ∷ [])

-- let r = remote div(1, 0); return get r;
abbrev pub trap_got : Script
trap_got = script_of (div ∷ []) (Let (codes "r") (remote (codes "div") (number 1 ∷ number 0 ∷ [])) ∷ give (GetOf Number (Var (codes "r"))) ∷ [])

-- return get remote f(remote long(n), remote div(1, 0));
abbrev pub first_trap : ℕ → Script
first_trap n =
    script_of (div ∷ long ∷ long_plus ∷ [])
    (give (GetOf Number (remote_got (codes "f") (remote (codes "long") (number n ∷ []) ∷ remote (codes "div") (number 1 ∷ number 0 ∷ []) ∷ [])))
    ∷ [])

-- return f(n);
abbrev pub deep : ℕ → Script
deep n = script_of (by_turns ∷ []) (give (Call (codes "f") (each (number n ∷ []))) ∷ [])

-- let r = get remote outer(); return get r;
abbrev pub reference_got : Script
reference_got = script_of (leaf ∷ outer ∷ []) (Let (codes "r") (GetOf (RefKind Number) (remote (codes "outer") []))
    ∷ give (GetOf Number (Var (codes "r"))) ∷ [])

-- let p = put 6; let m = remote mid(p); return get m;
abbrev pub reference_passed : Script
reference_passed = script_of (add ∷ mid ∷ []) (Let (codes "p") (PutOf (number 6)) ∷ Let (codes "m") (remote (codes "mid") (Var (codes "p") ∷ []))
    ∷ give (GetOf Number (Var (codes "m"))) ∷ [])

-- let s = 0; for i in 0 .. n { set s = s + 1; } return s;
abbrev pub loop : ℕ → Script
loop n = script_of [] (Let (codes "s") (number 0) ∷ For (codes "i") (number 0) (number n) (block (Set (codes "s") (Binary Add (Var (codes "s")) (number 1))
    ∷ [])) ∷ give (Var (codes "s")) ∷ [])

-- return E;
abbrev pub just : Expr → Script
just e = script_of [] (give e ∷ [])

-- 0 - 9223372036854775807 - 1
abbrev pub least : Expr
least = Binary Sub (Binary Sub (number 0) (number 9223372036854775807)) (number 1)

-- let s = 0; for i in 0 .. 3 { set i = i * 10; set s = s + i; } return s;
abbrev pub loop_name_set : Script
loop_name_set = script_of []
    (Let (codes "s") (number 0)
    ∷ For (codes "i") (number 0) (number 3) (block (Set (codes "i") (Binary Mul (Var (codes "i")) (number 10))
    ∷ Set (codes "s") (Binary Add (Var (codes "s")) (Var (codes "i"))) ∷ []))
    ∷ give (Var (codes "s")) ∷ [])

-- ---- several results

-- let q, r = parts(a, b); return q * 10 + r;
abbrev pub parts_called : ℕ → ℕ → Script
parts_called a b = script_of (parts ∷ [])
    (LetCall (codes "q") (codes "r" ∷ []) (codes "parts") (each (number a ∷ number b ∷ []))
    ∷ give (Binary Add (Binary Mul (Var (codes "q")) (number 10)) (Var (codes "r"))) ∷ [])

-- let a, b, c, d = mixed(n); print b; return a + d[c];
abbrev pub mixed_called : ℕ → Script
mixed_called n = script_of (two ∷ mixed ∷ [])
    (LetCall (codes "a") (codes "b" ∷ codes "c" ∷ codes "d" ∷ []) (codes "mixed") (each (number n ∷ []))
    ∷ Print (Var (codes "b"))
    ∷ give (Binary Add (Var (codes "a")) (Binary ItemAt (Var (codes "d")) (Var (codes "c")))) ∷ [])

-- let q, r = parts(17, 5); let p = put q; return get p * 10 + r;
abbrev pub parts_put : Script
parts_put = script_of (parts ∷ [])
    (LetCall (codes "q") (codes "r" ∷ []) (codes "parts") (each (number 17 ∷ number 5 ∷ []))
    ∷ Let (codes "p") (PutOf (Var (codes "q")))
    ∷ give (Binary Add (Binary Mul (GetOf Number (Var (codes "p"))) (number 10)) (Var (codes "r"))) ∷ [])

-- ---- such as no checker allows: main is not apart

-- fn loud() -> int { print 1; return 2; }
abbrev pub loud : Function
loud = function (codes "loud") [] Number (Print (number 1) ∷ give (number 2) ∷ [])

-- return get remote loud();
abbrev pub prints_elsewhere : Script
prints_elsewhere = script_of (loud ∷ []) (give (GetOf Number (remote (codes "loud") [])) ∷ [])

-- return main();
abbrev pub calls_main : Script
calls_main = just (Call (codes "main") (each []))

-- return get remote main();
abbrev pub bears_main : Script
bears_main = just (GetOf Number (remote (codes "main") []))

-- ---- pieces

-- let p = put 1; return get p + get p;
abbrev pub got_twice : Script
got_twice = script_of []
    (Let (codes "p") (PutOf (number 1)) ∷ give (Binary Add (GetOf Number (Var (codes "p"))) (GetOf Number (Var (codes "p")))) ∷ [])

abbrev pub object : ℕ → ℕ → Id
object w n = record { owner = w; serial = n }

-- the task that the square's main makes
abbrev pub squaring : Birth
squaring = Task (codes "sq") (record { value = Int (pos 7); marked = false } ∷ []) 1 3 0

-- a task of two
abbrev pub making_two : Birth
making_two = Task (codes "two") (record { value = Int (pos 4); marked = false } ∷ []) 1 3 1

abbrev pub fours : Outcome
fours = Val (Items (more (Int (pos 4)) (more (Int (pos 4)) none)))

-- a task of parts
abbrev pub parting : ℕ → ℕ → Birth
parting a b = Task (codes "parts") (record { value = Int (pos a); marked = false } ∷ record { value = Int (pos b); marked = false } ∷ []) 1 3 1

-- the task that main makes where another function prints
abbrev pub louder : Birth
louder = Task (codes "loud") [] 1 3 0

abbrev pub this_piece : List Birth → List Value → Stop → Piece
this_piece births prints stop = record { births = births; prints = prints; stop = stop }
