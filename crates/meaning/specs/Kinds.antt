-- What the checker allows, and what has which kind.
use Rattle.std.specs.Prelude.{◌≡◌, ℕ, Bool, true, false, List, [], ◌∷◌, ◌++◌, ◌⊎◌, length, map, Option, Some, None, if◌then◌else◌}
use Rattle.meaning.specs.Values.{
  Name,
  Trap,
  Overflow,
  DivZero,
  Index,
  TooLong,
  Loop,
  TooDeep,
  Broken,
  Value,
  Int,
  Items,
  Named,
  Known,
  Values,
  none,
  more,
  Outcome,
  Val,
  Trapped,
  Completion,
  Returned,
  Aborted,
  Argument,
  Birth,
  Put,
  Task,
  Id,
}
use Rattle.meaning.specs.Syntax.{
  Kind,
  Number,
  ListKind,
  RefKind,
  Operator,
  ItemAt,
  Push,
  Prefix,
  Negate,
  Len,
  Expr,
  Num,
  Var,
  Unary,
  Binary,
  ListOf,
  Empty,
  Call,
  Remote,
  PutOf,
  GetOf,
  Exprs,
  end,
  also,
  Stmt,
  Let,
  LetCall,
  LetRemote,
  Set,
  Print,
  Return,
  If,
  For,
  Block,
  done,
  step,
  Parameter,
  Function,
  results,
  Script,
}
use Rattle.meaning.specs.Meaning.{same_name, find, Scope, run_task}
use Rattle.meaning.specs.Runs.{Run, Ends, Prints, Bears, Gets, Stop, Needs, Over, named, behind, piece, serial_end, serial_trace}
use Rattle.meaning.specs.Law.{prints_of}

-- Values

abbrev pub IsSound : Trap → Type 0
IsSound Overflow = Unit {0}
IsSound DivZero = Unit {0}
IsSound Index = Unit {0}
IsSound TooLong = Unit {0}
IsSound Loop = Unit {0}
IsSound TooDeep = Unit {0}
IsSound Broken = ⊥

abbrev mutual
  -- a value of a kind; an id has each kind of reference
  pub IsOf : Value → Kind → Type 0
  IsOf (Int n) Number = Unit {0}
  IsOf (Int n) (ListKind t) = ⊥
  IsOf (Int n) (RefKind t) = ⊥
  IsOf (Items vs) Number = ⊥
  IsOf (Items vs) (ListKind t) = AreOf vs t
  IsOf (Items vs) (RefKind t) = ⊥
  IsOf (Named o) Number = ⊥
  IsOf (Named o) (ListKind t) = ⊥
  IsOf (Named o) (RefKind t) = Unit {0}
  IsOf (Known c) Number = ⊥
  IsOf (Known c) (ListKind t) = ⊥
  IsOf (Known c) (RefKind t) = EndsIn c t

  pub AreOf : Values → Kind → Type 0
  AreOf none t = Unit {0}
  AreOf (more v vs) t = IsOf v t × AreOf vs t

  -- an outcome of a kind: a value of the kind, or a trap of the script
  pub EndsIn : Outcome → Kind → Type 0
  EndsIn (Val v) t = IsOf v t
  EndsIn (Trapped e) t = IsSound e

-- as many values, each of its kind
abbrev pub EachOf : List Value → List Kind → Type 0
EachOf [] [] = Unit {0}
EachOf [] (t ∷ ts) = ⊥
EachOf (v ∷ vs) [] = ⊥
EachOf (v ∷ vs) (t ∷ ts) = IsOf v t × EachOf vs ts

-- as many outcomes, each of its kind
abbrev pub EachEndsIn : List Outcome → List Kind → Type 0
EachEndsIn [] [] = Unit {0}
EachEndsIn [] (t ∷ ts) = ⊥
EachEndsIn (c ∷ cs) [] = ⊥
EachEndsIn (c ∷ cs) (t ∷ ts) = EndsIn c t × EachEndsIn cs ts

-- ended with results of the kinds, or in a trap of the script
abbrev pub CompletesIn : Completion → List Kind → Type 0
CompletesIn (Returned vs) ts = EachOf vs ts
CompletesIn (Aborted e) ts = IsSound e

-- values of the kind have a reference in them
abbrev pub has_reference : Kind → Bool
has_reference Number = false
has_reference (ListKind t) = has_reference t
has_reference (RefKind t) = true

abbrev mutual
  -- no reference stands in the value
  pub IsPlain : Value → Type 0
  IsPlain (Int n) = Unit {0}
  IsPlain (Items vs) = ArePlain vs
  IsPlain (Named o) = ⊥
  IsPlain (Known c) = ⊥

  pub ArePlain : Values → Type 0
  ArePlain none = Unit {0}
  ArePlain (more v vs) = IsPlain v × ArePlain vs

abbrev pub AllPlain : List Value → Type 0
AllPlain [] = Unit {0}
AllPlain (v ∷ vs) = IsPlain v × AllPlain vs

-- Expressions

pub record Typed : Type 0 where
  pub name : Name
  pub kind : Kind

abbrev pub Context : Type 0
Context = List Typed

abbrev pub kind_in : Context → Name → Option Kind
kind_in [] x = None
kind_in (w ∷ context) x = if same_name w.name x then Some w.kind else kind_in context x

-- what an operator takes and gives
abbrev pub OperatorChecks : Operator → Kind → Kind → Kind → Type 0
OperatorChecks ItemAt s u t = (s ≡ ListKind t) × (u ≡ Number)
OperatorChecks Push s u t = (s ≡ ListKind u) × (t ≡ ListKind u)
OperatorChecks _ s u t = (s ≡ Number) × (u ≡ Number) × (t ≡ Number)

abbrev pub PrefixChecks : Prefix → Kind → Kind → Type 0
PrefixChecks Negate s t = (s ≡ Number) × (t ≡ Number)
PrefixChecks Len s t = (u : Kind) × (s ≡ ListKind u) × (t ≡ Number)

-- what an argument must be, where it is marked and where it isn't
abbrev pub argument_kind : Bool → Kind → Kind
argument_kind true t = RefKind t
argument_kind false t = t

module _ (script : Script) (context : Context) where
  abbrev mutual
    -- the expression is of the kind
    pub Checks : Expr → Kind → Type 0
    Checks (Num n) t = t ≡ Number
    Checks (Var x) t = kind_in context x ≡ Some t
    Checks (Unary op a) t = (s : Kind) × Checks a s × PrefixChecks op s t
    Checks (Binary op a b) t = (s : Kind) × (u : Kind) × Checks a s × Checks b u × OperatorChecks op s u t
    Checks (ListOf es) t = (u : Kind) × EachChecks es u × (t ≡ ListKind u)
    Checks (Empty u) t = t ≡ ListKind u
    Checks (Call g args) t = (f : Function) × (find script g ≡ Some f) × ArgumentsCheck args f.parameters × (results f ≡ t ∷ [])
    Checks (Remote k g marks args) t =
        (f : Function) × (find script g ≡ Some f) × MarkedCheck args marks f.parameters × (u : Kind) × (results f ≡ u ∷ []) × (t ≡ RefKind u)
    Checks (PutOf a) t = (u : Kind) × Checks a u × (t ≡ RefKind u)
    Checks (GetOf u a) t = Checks a (RefKind u) × (t ≡ u)

    pub EachChecks : Exprs → Kind → Type 0
    EachChecks end t = Unit {0}
    EachChecks (also e es) t = Checks e t × EachChecks es t

    pub ArgumentsCheck : Exprs → List Parameter → Type 0
    ArgumentsCheck end [] = Unit {0}
    ArgumentsCheck end (p ∷ ps) = ⊥
    ArgumentsCheck (also e es) [] = ⊥
    ArgumentsCheck (also e es) (p ∷ ps) = Checks e p.kind × ArgumentsCheck es ps

    pub MarkedCheck : Exprs → List Bool → List Parameter → Type 0
    MarkedCheck end [] [] = Unit {0}
    MarkedCheck (also e es) (m ∷ ms) (p ∷ ps) = Checks e (argument_kind m p.kind) × MarkedCheck es ms ps
    MarkedCheck _ _ _ = ⊥

-- as many expressions, each of its kind
abbrev pub ResultsCheck : Script → Context → Exprs → List Kind → Type 0
ResultsCheck script context end [] = Unit {0}
ResultsCheck script context end (t ∷ ts) = ⊥
ResultsCheck script context (also e es) [] = ⊥
ResultsCheck script context (also e es) (t ∷ ts) = Checks script context e t × ResultsCheck script context es ts

-- as many names, which are bound to values of these kinds
abbrev pub Binds : List Name → List Kind → Context → Context → Type 0
Binds [] [] context after = after ≡ context
Binds [] (t ∷ ts) context after = ⊥
Binds (x ∷ xs) [] context after = ⊥
Binds (x ∷ xs) (t ∷ ts) context after = Binds xs ts (context ++ record { name = x; kind = t } ∷ []) after

abbrev mutual
  -- the statement is allowed in a function of these results, and leaves that context
  pub StmtChecks : Stmt → Script → List Kind → Context → Context → Type 0
  StmtChecks (Let x e) script result context after = (t : Kind) × Checks script context e t × (after ≡ context ++ record { name = x; kind = t } ∷ [])
  StmtChecks (LetCall x xs g args) script result context after =
      (f : Function) × (find script g ≡ Some f) × ArgumentsCheck script context args f.parameters × Binds (x ∷ xs) (results f) context after
  StmtChecks (LetRemote x xs k g marks args) script result context after =
      (f : Function) × (find script g ≡ Some f) × MarkedCheck script context args marks f.parameters
      × Binds (x ∷ xs) (map RefKind (results f)) context after
  StmtChecks (Set x e) script result context after = (t : Kind) × (kind_in context x ≡ Some t) × Checks script context e t × (after ≡ context)
  StmtChecks (Print e) script result context after = (t : Kind) × Checks script context e t × (has_reference t ≡ false) × (after ≡ context)
  StmtChecks (Return es) script result context after = ResultsCheck script context es result × (after ≡ context)
  StmtChecks (If e a b) script result context after = Checks script context e Number × BlockChecks a script result context
      × BlockChecks b script result context × (after ≡ context)
  StmtChecks (For x from to body) script result context after =
      Checks script context from Number × Checks script context to Number
      × BlockChecks body script result (context ++ record { name = x; kind = Number } ∷ []) × (after ≡ context)

  pub BlockChecks : Block → Script → List Kind → Context → Type 0
  BlockChecks done script result context = Unit {0}
  BlockChecks (step s rest) script result context = (after : Context) × StmtChecks s script result context after × BlockChecks rest script result after

abbrev mutual
  -- each way through it meets a return
  pub Returns : Stmt → Type 0
  Returns (Return es) = Unit {0}
  Returns (If e a b) = BlockReturns a × BlockReturns b
  Returns (Let x e) = ⊥
  Returns (LetCall x xs g args) = ⊥
  Returns (LetRemote x xs k g marks args) = ⊥
  Returns (Set x e) = ⊥
  Returns (Print e) = ⊥
  Returns (For x from to body) = ⊥

  pub BlockReturns : Block → Type 0
  BlockReturns done = ⊥
  BlockReturns (step s rest) = Returns s ⊎ BlockReturns rest

-- Scopes and arguments

abbrev pub ScopeOf : Scope → Context → Type 0
ScopeOf [] [] = Unit {0}
ScopeOf [] (k ∷ context) = ⊥
ScopeOf (w ∷ scope) [] = ⊥
ScopeOf (w ∷ scope) (k ∷ context) = (w.name ≡ k.name) × IsOf w.value k.kind × ScopeOf scope context

abbrev pub ArgumentsOf : List Value → List Parameter → Type 0
ArgumentsOf [] [] = Unit {0}
ArgumentsOf [] (p ∷ ps) = ⊥
ArgumentsOf (v ∷ vs) [] = ⊥
ArgumentsOf (v ∷ vs) (p ∷ ps) = IsOf v p.kind × ArgumentsOf vs ps

abbrev pub MarkedOf : List Argument → List Parameter → Type 0
MarkedOf [] [] = Unit {0}
MarkedOf [] (p ∷ ps) = ⊥
MarkedOf (a ∷ args) [] = ⊥
MarkedOf (a ∷ args) (p ∷ ps) = IsOf a.value (argument_kind a.marked p.kind) × MarkedOf args ps

abbrev pub context_of : List Parameter → Context
context_of [] = []
context_of (p ∷ ps) = record { name = p.name; kind = p.kind } ∷ context_of ps

pub record FunctionChecks (script : Script) (f : Function) : Type 0 where
  pub body : BlockChecks f.body script (results f) (context_of f.parameters)
  pub returns : BlockReturns f.body

-- each function of the script is allowed
abbrev pub ScriptChecks : Script → Script → Type 0
ScriptChecks script [] = Unit {0}
ScriptChecks script (f ∷ fs) = FunctionChecks script f × ScriptChecks script fs

-- Runs

-- the birth makes objects of these kinds
abbrev pub IsBirthOf : Script → Birth → List Kind → Type 0
IsBirthOf script (Put v) us = EachOf (v ∷ []) us
IsBirthOf script (Task g args depth retries others) us =
    (f : Function) × (find script g ≡ Some f) × MarkedOf args f.parameters × (us ≡ results f) × (length f.others ≡ others)

-- the run never meets an operand of the wrong kind nor prints a reference, whatever of the right kinds its gets get; its
-- births make objects of the kinds of their references, and it ends in the kinds
abbrev pub IsSafe : Script → Run → List Kind → Type 0
IsSafe script (Ends e) ts = CompletesIn e ts
IsSafe script (Prints v next) ts = IsPlain v × IsSafe script next ts
IsSafe script (Bears b made_by next) ts =
    (us : List Kind) × IsBirthOf script b us × IsSafe script made_by us × ((rs : List Value) → EachOf rs (map RefKind us) → IsSafe script (next rs) ts)
IsSafe script (Gets u r next) ts = IsOf r (RefKind u) × ((v : Value) → IsOf v u → IsSafe script (next v) ts)

-- what follows an answer that is of the kind
abbrev pub Answers : List Outcome → Kind → (Value → List Outcome → Type 0) → Type 0
Answers [] u next = Unit {0}
Answers (Val v ∷ answers) u next = IsOf v u × next v answers
Answers (Trapped e ∷ answers) u next = IsSound e

-- the answers are of the kinds asked for
abbrev pub AnswersFit : Run → Id → List Outcome → Type 0
AnswersFit (Ends e) base answers = Unit {0}
AnswersFit (Prints v next) base answers = AnswersFit next base answers
AnswersFit (Bears b made_by next) base answers = AnswersFit (next (named base b)) (behind base b) answers
AnswersFit (Gets u r next) base answers = Answers answers u (λ v left. AnswersFit (next v) base left)

abbrev pub StopIsSound : Stop → List Kind → Type 0
StopIsSound (Needs r) ts = Unit {0}
StopIsSound (Over cs) ts = EachEndsIn cs ts

-- a task never meets an operand of the wrong kind nor prints a reference, in a serial run or in pieces
pub record IsSafeTask (run : Run) (ts : List Kind) (base : Id) (answers : List Outcome) : Type 0 where
  pub serial : CompletesIn (serial_end run) ts
  pub serial_prints : AllPlain (prints_of (serial_trace run))
  pub stop : StopIsSound (piece (length ts) run base answers).stop ts
  pub prints : AllPlain (piece (length ts) run base answers).prints

-- of a checked script each task with arguments and answers of the kinds asked for is safe
abbrev pub AreSafe : Type 0
AreSafe =
    (script : Script) → ScriptChecks script script → (g : Name) (f : Function) (args : List Argument) (depth : ℕ) (base : Id) (answers : List Outcome) →
    find script g ≡ Some f → MarkedOf args f.parameters → AnswersFit (run_task script g args depth) base answers →
    IsSafeTask (run_task script g args depth) (results f) base answers
