-- Statements, functions and programs: what is derived is read, and what is read is derived.
use Rattle.std.proofs.Common.{◌≡◌, ◌≤◌, ◌<◌, ℕ, zero, suc, ◌+◌, List, [], ◌∷◌, ◌++◌, length, Bool, true, false, cond, ltb, Option, Some, None, refl, sym, ap, subst, ◌∙◌, arith, inl, inr, length-append, append_assoc, append-nil}
use Rattle.std.proofs.lemmas.Bool.{ltb-false, le-ltb}
use Rattle.script_tokens.specs.declared.token.Mark.TheVariants as marks
use Rattle.script_tokens.specs.Tokens.{Name, Token, name, mark}
use Rattle.script_syntax.specs.Trees.{Kind, IntType, ListType, RefType, Expr, Exprs, no_expr, also, Stmt, Let, LetCall, LetRemote, Set, If, IfElse, For, Print, Return, Block, no_stmt, stmt, Parameter, Function, Program}
use Rattle.script_syntax.specs.Expressions.{Deeper, kind_before, KindWithin, retries_before, Expression, expression_before, expression_tree, Primary, CallOf, RemoteOf, primary_before, PrimaryWithin, Arguments, arguments_before, argument_trees, MoreArguments, last_argument, argument, more_before, more_trees}
use Rattle.script_syntax.specs.Grammar.{Statement, LetOf, LetCallOf, LetRemoteOf, SetOf, IfOf, IfElseOf, ForOf, PrintOf, ReturnOf, Statements, no_statement, statement as and_statement, FunctionWord, FunctionOf, Functions, no_function, function as and_function}
use Rattle.script_syntax.specs.Grammar.{more_names_before, statement_before, statements_before, block_before, parameter_before, more_parameters_before, parameters_before, more_kinds_before, results_before, function_before, functions_before, statement_tree, statements_tree, function_tree, functions_tree}
use Rattle.script_syntax.specs.Grammar.{OutermostWithin, EachWithin, more_length, CallWithin, AreSeveral, StatementWithin, StatementsWithin, ParametersWithin, KindsWithin, ResultsWithin, FunctionWithin, FunctionsWithin, IsProgram}
use Rattle.script_syntax.specs.Reading.{Reader, ◌>>=◌, after, unless, unless_end, named, chain, kind_at, deeper_kind, no_others, other_kinds, some_results, results, results_at, and_expr, arguments, retries, deeper, expression_at, outermost, Callee, AsPart, AsTask, called, outermost_call, let_called, ended, assigned, other_names, valued, declared, other_values, returned, branches, repeated, statement, and_stmt, statements, block, deeper_statement, block_at, statement_at, parameter, some_parameters, parameters, function, program}
use Rattle.script_syntax.proofs.Counts.{expression_counted, primary_counted, more_counted}
use Rattle.script_syntax.proofs.Loops.{chain_stops, chain_one, and_next, and_later, and_also, all_functions}
use Rattle.script_syntax.proofs.Steps.{Read, kind_reads, retries_read}
use Rattle.script_syntax.proofs.Complete.{EndsExpression, ends_more, expression_reads, arguments_read, appended, appended_none, appended_and}
use Rattle.script_syntax.proofs.Found.{some_is, bind_some, choose_some, Derived, after_is, unless_is, unless_end_is, named_is, ChainWords, chain_found}
use Rattle.script_syntax.proofs.Sound.{kind_at_found, expression_at_found, deeper_found, call_before, arguments_found, retries_found}

-- ---- outermost expressions

outermost_reads : (e : Expression) (levels : ℕ) (rest : List Token) → OutermostWithin e levels → EndsExpression rest → outermost levels (expression_before e rest) ≡ Read (expression_tree e) rest
unfolding outermost
outermost_reads e levels rest w h =
    let few : ltb (length rest + 512) (length (expression_before e rest)) ≡ false = le-ltb _ _ (omega (arith, w.1, expression_counted e [], expression_counted e rest)) in
    rw (expression_reads e levels rest w.0 h, few) refl

guard_some : {A : Type 0} (b : Bool) (r : Option A) (x : A) → cond b None r ≡ Some x → (b ≡ false) × (r ≡ Some x)
guard_some true r x e = absurd cc
guard_some false r x e = (refl, e)

abbrev FoundOutermost : ℕ → List Token → Expr → List Token → Type 0
FoundOutermost levels tokens a rest = Derived expression_before expression_tree (λ w. OutermostWithin w levels) tokens a rest

outermost_found : (levels : ℕ) (tokens : List Token) (a : Expr) (rest : List Token) → outermost levels tokens ≡ Some (a, rest) → FoundOutermost levels tokens a rest
unfolding outermost
outermost_found levels tokens a rest e =
    let b = bind_some (expression_at levels tokens) _ (a, rest) e in
    let g = guard_some (ltb (length b.0.1 + 512) (length tokens)) (Some b.0) (a, rest) b.2 in
    let p : b.0 ≡ (a, rest) = some_is b.0 (a, rest) g.1 in
    let d = expression_at_found levels tokens b.0.0 b.0.1 b.1 in
    let few : length tokens ≤ length b.0.1 + 512 = ltb-false _ _ g.0 in
    record {
      word = d.word;
      spelled = d.spelled ∙ ap (λ (x : Expr × List Token). expression_before d.word x.1) p;
      given = d.given ∙ ap (λ (x : Expr × List Token). x.0) p;
      nesting = (d.nesting, omega (arith, few, ap length d.spelled, expression_counted d.word b.0.1, expression_counted d.word []));
    }

-- ---- the call of a `let` of several names

called_part : (d : Option (Reader Expr)) (g : Name) (more : List Token) (es : Exprs) (rest : List Token) → arguments d more ≡ Read es rest → called d (name g ∷ more) ≡ Read (AsPart g es) rest
unfolding called
called_part d g more es rest h = rw h refl

called_task : (d : Option (Reader Expr)) (r : Option ℕ) (g : Name) (tokens more : List Token) (es : Exprs) (rest : List Token) → retries d tokens ≡ Read r (name g ∷ more) → arguments d more ≡ Read es rest
    → called d (mark marks.Remote ∷ tokens) ≡ Read (AsTask r g es) rest
unfolding called
called_task d r g tokens more es rest first second = rw (first, second) refl

call_counted : (levels : ℕ) (p : Primary) (c : Callee) (rest : List Token) → called (deeper levels) (primary_before p rest) ≡ Read c rest → length (primary_before p []) ≤ 512 → outermost_call levels (primary_before p rest) ≡ Read c rest
unfolding outermost_call
call_counted levels p c rest h few =
    let within : ltb (length rest + 512) (length (primary_before p rest)) ≡ false = le-ltb _ _ (omega (arith, few, primary_counted p [], primary_counted p rest)) in
    rw (h, within) refl

part_reads : (g : Name) (args : Arguments) (levels : ℕ) (rest : List Token) → CallWithin (CallOf g args) levels → outermost_call levels (primary_before (CallOf g args) rest) ≡ Read (AsPart g (argument_trees args)) rest
part_reads g args zero rest w = absurd w.0
part_reads g args (suc levels) rest w = call_counted (suc levels) (CallOf g args) (AsPart g (argument_trees args)) rest (called_part (deeper (suc levels)) g _ (argument_trees args) rest (arguments_read args levels rest w.0)) w.1

task_reads : (r : Option ℕ) (g : Name) (args : Arguments) (levels : ℕ) (rest : List Token) → CallWithin (RemoteOf r g args) levels → outermost_call levels (primary_before (RemoteOf r g args) rest) ≡ Read (AsTask r g (argument_trees args)) rest
task_reads r g args zero rest w = absurd w.0.1
task_reads r g args (suc levels) rest w =
    let more : List Token = mark marks.OpenParenthesis ∷ arguments_before args (mark marks.CloseParenthesis ∷ rest) in
    call_counted (suc levels) (RemoteOf r g args) (AsTask r g (argument_trees args)) rest (called_task (deeper (suc levels)) r g (retries_before r (name g ∷ more)) more (argument_trees args) rest (retries_read r (suc levels) (name g ∷ more) w.0.0 refl) (arguments_read args levels rest w.0.1)) w.1

-- such a call as a word of the grammar
data CallWord : Type 0 where
  Part : (g : Name) (args : Arguments) → CallWord
  Task : (r : Option ℕ) (g : Name) (args : Arguments) → CallWord

abbrev primary_of : CallWord → Primary
primary_of (Part g args) = CallOf g args
primary_of (Task r g args) = RemoteOf r g args

abbrev callee_tree : CallWord → Callee
callee_tree (Part g args) = AsPart g (argument_trees args)
callee_tree (Task r g args) = AsTask r g (argument_trees args)

abbrev callee_before : CallWord → List Token → List Token
callee_before w rest = primary_before (primary_of w) rest

abbrev FoundCallee : ℕ → List Token → Callee → List Token → Type 0
FoundCallee levels tokens a rest = Derived callee_before callee_tree (λ w. PrimaryWithin (primary_of w) levels) tokens a rest

part_found : (levels : ℕ) (tokens : List Token) (a : Callee) (rest : List Token) → (named tokens >>= λ g. arguments (deeper levels) g.1 >>= λ args. Read (AsPart g.0 args.0) args.1) ≡ Some (a, rest) → FoundCallee levels tokens a rest
part_found levels tokens a rest e =
    let b = bind_some (named tokens) _ (a, rest) e in
    let c = bind_some (arguments (deeper levels) b.0.1) _ (a, rest) b.2 in
    let args = arguments_found (deeper levels) levels (deeper_found levels) b.0.1 c.0.0 c.0.1 c.1 in
    let p : (AsPart b.0.0 c.0.0, c.0.1) ≡ (a, rest) = some_is (AsPart b.0.0 c.0.0, c.0.1) (a, rest) c.2 in
    record {
      word = Part b.0.0 args.word;
      spelled = named_is tokens b.0 b.1 ∙ ap (λ (r : List Token). name b.0.0 ∷ r) (args.spelled ∙ ap (λ (y : Callee × List Token). call_before args.word y.1) p);
      given = ap (AsPart b.0.0) args.given ∙ ap (λ (y : Callee × List Token). y.0) p;
      nesting = args.nesting;
    }

task_found : (levels : ℕ) (following : List Token) (a : Callee) (rest : List Token)
    → (retries (deeper levels) following >>= λ r. named r.1 >>= λ g. arguments (deeper levels) g.1 >>= λ args. Read (AsTask r.0 g.0 args.0) args.1) ≡ Some (a, rest) → FoundCallee levels (mark marks.Remote ∷ following) a rest
task_found levels following a rest e =
    let b = bind_some (retries (deeper levels) following) _ (a, rest) e in
    let c = bind_some (named b.0.1) _ (a, rest) b.2 in
    let f = bind_some (arguments (deeper levels) c.0.1) _ (a, rest) c.2 in
    let r = retries_found (deeper levels) levels (deeper_found levels) following b.0.0 b.0.1 b.1 in
    let args = arguments_found (deeper levels) levels (deeper_found levels) c.0.1 f.0.0 f.0.1 f.1 in
    let p : (AsTask b.0.0 c.0.0 f.0.0, f.0.1) ≡ (a, rest) = some_is (AsTask b.0.0 c.0.0 f.0.0, f.0.1) (a, rest) f.2 in
    record {
      word = Task b.0.0 c.0.0 args.word;
      spelled = ap (λ (q : List Token). mark marks.Remote ∷ q) (r.0 ∙ ap (retries_before b.0.0) (named_is b.0.1 c.0 c.1 ∙ ap (λ (q : List Token). name c.0.0 ∷ q) (args.spelled ∙ ap (λ (y : Callee × List Token). call_before args.word y.1) p)));
      given = ap (AsTask b.0.0 c.0.0) args.given ∙ ap (λ (y : Callee × List Token). y.0) p;
      nesting = (r.1, args.nesting);
    }

called_found : (levels : ℕ) (tokens : List Token) (a : Callee) (rest : List Token) → called (deeper levels) tokens ≡ Some (a, rest) → FoundCallee levels tokens a rest
unfolding called
called_found levels tokens a rest e =
    elim (choose_some (after marks.Remote tokens) (named tokens >>= λ g. arguments (deeper levels) g.1 >>= λ args. Some (AsPart g.0 args.0, args.1))
    (λ t. retries (deeper levels) t.1 >>= λ r. named r.1 >>= λ g. arguments (deeper levels) g.1 >>= λ args. Some (AsTask r.0 g.0 args.0, args.1)) (Some (a, rest)) e) [
      | inl h ↦ part_found levels tokens a rest h.1
      | inr h ↦
          (let f = task_found levels h.0.1 a rest h.2 in
          record { word = f.word; spelled = after_is marks.Remote tokens h.0 h.1 ∙ f.spelled; given = f.given; nesting = f.nesting })
    ]

outermost_call_found : (levels : ℕ) (tokens : List Token) (a : Callee) (rest : List Token) → outermost_call levels tokens ≡ Some (a, rest) → Derived callee_before callee_tree (λ w. CallWithin (primary_of w) levels) tokens a rest
unfolding outermost_call
outermost_call_found levels tokens a rest e =
    let b = bind_some (called (deeper levels) tokens) _ (a, rest) e in
    let g = guard_some (ltb (length b.0.1 + 512) (length tokens)) (Some b.0) (a, rest) b.2 in
    let p : b.0 ≡ (a, rest) = some_is b.0 (a, rest) g.1 in
    let d = called_found levels tokens b.0.0 b.0.1 b.1 in
    let few : length tokens ≤ length b.0.1 + 512 = ltb-false _ _ g.0 in
    record {
      word = d.word;
      spelled = d.spelled ∙ ap (λ (x : Callee × List Token). callee_before d.word x.1) p;
      given = d.given ∙ ap (λ (x : Callee × List Token). x.0) p;
      nesting = (d.nesting, omega (arith, few, ap length d.spelled, primary_counted (primary_of d.word) b.0.1, primary_counted (primary_of d.word) []));
    }

-- ---- statements: how each goes on reading

ended_reads : (levels : ℕ) (tokens : List Token) (a : Expr) (rest : List Token) → outermost levels tokens ≡ Read a (mark marks.Semicolon ∷ rest) → ended (outermost levels) tokens ≡ Read a rest
unfolding ended
ended_reads levels tokens a rest h = rw h refl

assigned_reads : (levels : ℕ) (x : Name) (tokens : List Token) (a : Expr) (rest : List Token) → ended (outermost levels) tokens ≡ Read a rest → assigned (outermost levels) (name x ∷ mark marks.Assign ∷ tokens) ≡ Read (x, a) rest
unfolding assigned
assigned_reads levels x tokens a rest h = rw h refl

valued_one : (o : Reader Expr) (c : Reader Callee) (x : Name) (tokens : List Token) (a : Expr) (rest : List Token) → ended o tokens ≡ Read a rest → valued o c x [] tokens ≡ Read (Let x a) rest
unfolding valued
valued_one o c x tokens a rest h = rw h refl

valued_several : (o : Reader Expr) (c : Reader Callee) (x y : Name) (ys : List Name) (tokens : List Token) (a : Callee) (rest : List Token) → c tokens ≡ Read a (mark marks.Semicolon ∷ rest) → valued o c x (y ∷ ys) tokens ≡ Read (let_called x (y ∷ ys) a) rest
unfolding valued
valued_several o c x y ys tokens a rest h = rw h refl

declared_goes : (o : Reader Expr) (c : Reader Callee) (x : Name) (xs : List Name) (tokens more : List Token) (a : Stmt) (rest : List Token) → other_names tokens ≡ Read xs (mark marks.Assign ∷ more) → valued o c x xs more ≡ Read a rest
    → declared o c (name x ∷ tokens) ≡ Read a rest
unfolding declared
declared_goes o c x xs tokens more a rest first second = rw first second

let_reads : (o : Reader Expr) (c : Reader Callee) (b : Reader Block) (a : Stmt) (tokens rest : List Token) → declared o c tokens ≡ Read a rest → statement o c b (mark marks.Let ∷ tokens) ≡ Read a rest
unfolding statement
let_reads o c b a tokens rest h = h

set_reads : (o : Reader Expr) (c : Reader Callee) (b : Reader Block) (x : Name) (a : Expr) (tokens rest : List Token) → assigned o tokens ≡ Read (x, a) rest → statement o c b (mark marks.Set ∷ tokens) ≡ Read (Set x a) rest
unfolding statement
set_reads o c b x a tokens rest h = rw h refl

print_reads : (o : Reader Expr) (c : Reader Callee) (b : Reader Block) (a : Expr) (tokens rest : List Token) → ended o tokens ≡ Read a rest → statement o c b (mark marks.Print ∷ tokens) ≡ Read (Print a) rest
unfolding statement
print_reads o c b a tokens rest h = rw h refl

return_reads : (o : Reader Expr) (c : Reader Callee) (b : Reader Block) (a : Expr) (es : Exprs) (tokens more rest : List Token) → o tokens ≡ Read a more → other_values o more ≡ Read es (mark marks.Semicolon ∷ rest)
    → statement o c b (mark marks.Return ∷ tokens) ≡ Read (Return a es) rest
unfolding statement returned
return_reads o c b a es tokens more rest first others = rw (first, others) refl

if_reads : (o : Reader Expr) (c : Reader Callee) (b : Reader Block) (tokens more : List Token) (e : Expr) (x : Block) (rest : List Token) → o tokens ≡ Read e more → b more ≡ Read x rest → after marks.Else rest ≡ None → statement o c b (mark marks.If ∷ tokens) ≡ Read (If e x) rest
unfolding statement branches
if_reads o c b tokens more e x rest first second ends = rw (first, second, ends) refl

if_else_reads : (o : Reader Expr) (c : Reader Callee) (b : Reader Block) (tokens more other : List Token) (e : Expr) (x y : Block) (rest : List Token) → o tokens ≡ Read e more → b more ≡ Read x (mark marks.Else ∷ other) → b other ≡ Read y rest
    → statement o c b (mark marks.If ∷ tokens) ≡ Read (IfElse e x y) rest
unfolding statement branches
if_else_reads o c b tokens more other e x y rest first second third = rw (first, second, third) refl

for_reads : (o : Reader Expr) (c : Reader Callee) (b : Reader Block) (x : Name) (tokens more body : List Token) (from to : Expr) (all : Block) (rest : List Token) → o tokens ≡ Read from (mark marks.Range ∷ more) → o more ≡ Read to body → b body ≡ Read all rest
    → statement o c b (mark marks.For ∷ name x ∷ mark marks.In ∷ tokens) ≡ Read (For x from to all) rest
unfolding statement repeated
for_reads o c b x tokens more body from to all rest first second third = rw (first, second, third) refl

block_deep : (levels : ℕ) (tokens : List Token) (all : Block) (rest : List Token) → chain (unless marks.CloseBrace) (statement_at levels) and_later (length tokens) no_stmt tokens ≡ Read all (mark marks.CloseBrace ∷ rest)
    → block_at (suc levels) (mark marks.OpenBrace ∷ tokens) ≡ Read all rest
unfolding block statements deeper_statement
block_deep levels tokens all rest h = rw h refl

-- no statement begins with a closing brace or `else`
statement_begins : (s : Statement) (rest : List Token) → (after marks.CloseBrace (statement_before s rest) ≡ None) × (after marks.Else (statement_before s rest) ≡ None)
statement_begins (LetOf x e) rest = (refl, refl)
statement_begins (LetCallOf x xs g args) rest = (refl, refl)
statement_begins (LetRemoteOf x xs r g args) rest = (refl, refl)
statement_begins (SetOf x e) rest = (refl, refl)
statement_begins (IfOf e a) rest = (refl, refl)
statement_begins (IfElseOf e a b) rest = (refl, refl)
statement_begins (ForOf x from to body) rest = (refl, refl)
statement_begins (PrintOf e) rest = (refl, refl)
statement_begins (ReturnOf e others) rest = (refl, refl)

statements_begin : (ss : Statements) (rest : List Token) → after marks.Else rest ≡ None → after marks.Else (statements_before ss rest) ≡ None
statements_begin no_statement rest h = h
statements_begin (and_statement s others) rest h = (statement_begins s (statements_before others rest)).1

unless_reads : (s : Statement) (rest : List Token) → unless marks.CloseBrace (statement_before s rest) ≡ Read tt (statement_before s rest)
unless_reads s rest = rw ((statement_begins s rest).0) refl

-- ---- how many statements there are

abbrev statements_count : Statements → ℕ
statements_count no_statement = 0
statements_count (and_statement s others) = 1 + statements_count others

abbrev joined : Block → Block → Block
joined no_stmt ss = ss
joined (stmt x xs) ss = stmt x (joined xs ss)

joined_none : (ss : Block) → joined ss no_stmt ≡ ss
joined_none no_stmt = refl
joined_none (stmt x xs) = ap (stmt x) (joined_none xs)

joined_and : (left : Block) (s : Stmt) (ss : Block) → joined (and_stmt left s) ss ≡ joined left (stmt s ss)
joined_and no_stmt s ss = refl
joined_and (stmt x xs) s ss = ap (stmt x) (joined_and xs s ss)

names_longer : (xs : List Name) (rest : List Token) → length rest ≤ length (more_names_before xs rest)
names_longer [] rest = omega arith
names_longer (x ∷ xs) rest = omega (arith, names_longer xs rest)

mutual
  statement_longer : (s : Statement) (rest : List Token) → length rest < length (statement_before s rest)
  statement_longer (LetOf x e) rest = omega (arith, expression_counted e (mark marks.Semicolon ∷ rest))
  statement_longer (LetCallOf x xs g args) rest = omega (arith, names_longer xs (mark marks.Assign ∷ primary_before (CallOf g args) (mark marks.Semicolon ∷ rest)), primary_counted (CallOf g args) (mark marks.Semicolon ∷ rest))
  statement_longer (LetRemoteOf x xs r g args) rest = omega (arith, names_longer xs (mark marks.Assign ∷ primary_before (RemoteOf r g args) (mark marks.Semicolon ∷ rest)), primary_counted (RemoteOf r g args) (mark marks.Semicolon ∷ rest))
  statement_longer (SetOf x e) rest = omega (arith, expression_counted e (mark marks.Semicolon ∷ rest))
  statement_longer (IfOf e a) rest = omega (arith, expression_counted e (block_before a rest), statements_longer a (mark marks.CloseBrace ∷ rest))
  statement_longer (IfElseOf e a b) rest = omega (arith, expression_counted e (block_before a (mark marks.Else ∷ block_before b rest)), statements_longer a (mark marks.CloseBrace ∷ mark marks.Else ∷ block_before b rest), statements_longer b (mark marks.CloseBrace ∷ rest))
  statement_longer (ForOf x from to body) rest = omega (arith, expression_counted from (mark marks.Range ∷ expression_before to (block_before body rest)), expression_counted to (block_before body rest), statements_longer body (mark marks.CloseBrace ∷ rest))
  statement_longer (PrintOf e) rest = omega (arith, expression_counted e (mark marks.Semicolon ∷ rest))
  statement_longer (ReturnOf e others) rest = omega (arith, expression_counted e (more_before others (mark marks.Semicolon ∷ rest)), more_counted others (mark marks.Semicolon ∷ rest))

  statements_longer : (ss : Statements) (rest : List Token) → statements_count ss + length rest ≤ length (statements_before ss rest)
  statements_longer no_statement rest = omega arith
  statements_longer (and_statement s others) rest = omega (arith, statement_longer s (statements_before others rest), statements_longer others rest)

-- ---- each statement is read

more_names_read : (xs : List Name) (n : ℕ) (left : List Name) (rest : List Token) → length xs ≤ n → after marks.Comma rest ≡ None → chain (after marks.Comma) named and_also n left (more_names_before xs rest) ≡ Read (left ++ xs) rest
more_names_read [] n left rest len h = chain_stops (after marks.Comma) named and_also n left rest h ∙ ap (λ (ys : List Name). Read ys rest) (sym (append-nil left))
more_names_read (x ∷ xs) zero left rest len h = absurd (omega (arith, len))
more_names_read (x ∷ xs) (suc n) left rest len h =
    let more : List Token = more_names_before xs rest in
    chain_one (after marks.Comma) named and_also n left tt x (more_names_before (x ∷ xs) rest) (name x ∷ more) more refl refl
    ∙ more_names_read xs n (left ++ x ∷ []) rest (omega (arith, len)) h
    ∙ ap (λ (ys : List Name). Read ys rest) (append_assoc left (x ∷ []) xs)

other_names_read : (xs : List Name) (rest : List Token) → length xs ≤ 3 → after marks.Comma rest ≡ None → other_names (more_names_before xs rest) ≡ Read xs rest
unfolding other_names
other_names_read xs rest few h = more_names_read xs 3 [] rest few h

more_values_read : (a : MoreArguments) (n : ℕ) (left : Exprs) (levels : ℕ) (rest : List Token) → more_length a ≤ n → EachWithin a levels → EndsExpression rest → after marks.Comma rest ≡ None
    → chain (after marks.Comma) (outermost levels) and_next n left (more_before a rest) ≡ Read (appended left (more_trees a)) rest
more_values_read last_argument n left levels rest len w h c = chain_stops (after marks.Comma) (outermost levels) and_next n left rest c ∙ ap (λ (es : Exprs). Read es rest) (sym (appended_none left))
more_values_read (argument e others) zero left levels rest len w h c = absurd (omega (arith, len))
more_values_read (argument e others) (suc n) left levels rest len w h c =
    let more : List Token = more_before others rest in
    chain_one (after marks.Comma) (outermost levels) and_next n left tt (expression_tree e) _ (expression_before e more) more refl (outermost_reads e levels more w.0 (ends_more others rest h))
    ∙ more_values_read others n (and_expr left (expression_tree e)) levels rest (omega (arith, len)) w.1 h c
    ∙ ap (λ (es : Exprs). Read es rest) (appended_and left (expression_tree e) (more_trees others))

other_values_read : (a : MoreArguments) (levels : ℕ) (rest : List Token) → more_length a ≤ 3 → EachWithin a levels → other_values (outermost levels) (more_before a (mark marks.Semicolon ∷ rest)) ≡ Read (more_trees a) (mark marks.Semicolon ∷ rest)
unfolding other_values
other_values_read a levels rest few w = more_values_read a 3 no_expr levels (mark marks.Semicolon ∷ rest) few w ((((refl, refl), refl), refl), refl) refl

mutual
  statement_reads : (s : Statement) (levels : ℕ) (rest : List Token) → StatementWithin s levels → after marks.Else rest ≡ None → statement_at levels (statement_before s rest) ≡ Read (statement_tree s) rest
  statement_reads (LetOf x e) levels rest w h =
      let value : List Token = expression_before e (mark marks.Semicolon ∷ rest) in
      let_reads (outermost levels) (outermost_call levels) (block_at levels) (Let x (expression_tree e)) _ rest
      (declared_goes (outermost levels) (outermost_call levels) x [] (mark marks.Assign ∷ value) value (Let x (expression_tree e)) rest (other_names_read [] (mark marks.Assign ∷ value) (omega arith) refl)
      (valued_one (outermost levels) (outermost_call levels) x value (expression_tree e) rest (ended_reads levels value (expression_tree e) rest (outermost_reads e levels (mark marks.Semicolon ∷ rest) w ((((refl, refl), refl), refl), refl)))))
  statement_reads (LetCallOf x [] g args) levels rest w h = absurd (omega (arith, w.0.0))
  statement_reads (LetCallOf x (y ∷ ys) g args) levels rest w h =
      let call : List Token = primary_before (CallOf g args) (mark marks.Semicolon ∷ rest) in
      let_reads (outermost levels) (outermost_call levels) (block_at levels) (LetCall x (y ∷ ys) g (argument_trees args)) _ rest
      (declared_goes (outermost levels) (outermost_call levels) x (y ∷ ys) _ call (LetCall x (y ∷ ys) g (argument_trees args)) rest (other_names_read (y ∷ ys) (mark marks.Assign ∷ call) w.0.1 refl)
      (valued_several (outermost levels) (outermost_call levels) x y ys call (AsPart g (argument_trees args)) rest (part_reads g args levels (mark marks.Semicolon ∷ rest) w.1)))
  statement_reads (LetRemoteOf x [] r g args) levels rest w h = absurd (omega (arith, w.0.0))
  statement_reads (LetRemoteOf x (y ∷ ys) r g args) levels rest w h =
      let call : List Token = primary_before (RemoteOf r g args) (mark marks.Semicolon ∷ rest) in
      let_reads (outermost levels) (outermost_call levels) (block_at levels) (LetRemote x (y ∷ ys) r g (argument_trees args)) _ rest
      (declared_goes (outermost levels) (outermost_call levels) x (y ∷ ys) _ call (LetRemote x (y ∷ ys) r g (argument_trees args)) rest (other_names_read (y ∷ ys) (mark marks.Assign ∷ call) w.0.1 refl)
      (valued_several (outermost levels) (outermost_call levels) x y ys call (AsTask r g (argument_trees args)) rest (task_reads r g args levels (mark marks.Semicolon ∷ rest) w.1)))
  statement_reads (SetOf x e) levels rest w h =
      set_reads (outermost levels) (outermost_call levels) (block_at levels) x (expression_tree e) _ rest (assigned_reads levels x _ (expression_tree e) rest (ended_reads levels _ (expression_tree e) rest (outermost_reads e levels (mark marks.Semicolon ∷ rest) w ((((refl, refl), refl), refl), refl))))
  statement_reads (IfOf e a) zero rest w h = absurd w.1
  statement_reads (IfOf e a) (suc levels) rest w h =
      if_reads (outermost (suc levels)) (outermost_call (suc levels)) (block_at (suc levels)) _ (block_before a rest) (expression_tree e) (statements_tree a) rest
      (outermost_reads e (suc levels) (block_before a rest) w.0 ((((refl, refl), refl), refl), refl)) (block_deep levels (statements_before a (mark marks.CloseBrace ∷ rest)) (statements_tree a) rest (others_read a (length (statements_before a (mark marks.CloseBrace ∷ rest))) no_stmt levels rest (omega (arith, statements_longer a (mark marks.CloseBrace ∷ rest))) w.1)) h
  statement_reads (IfElseOf e a b) zero rest w h = absurd w.1
  statement_reads (IfElseOf e a b) (suc levels) rest w h =
      let other : List Token = block_before b rest in
      if_else_reads (outermost (suc levels)) (outermost_call (suc levels)) (block_at (suc levels)) _ (block_before a (mark marks.Else ∷ other)) other (expression_tree e) (statements_tree a) (statements_tree b) rest
      (outermost_reads e (suc levels) (block_before a (mark marks.Else ∷ other)) w.0 ((((refl, refl), refl), refl), refl)) (block_deep levels (statements_before a (mark marks.CloseBrace ∷ mark marks.Else ∷ other)) (statements_tree a) (mark marks.Else ∷ other) (others_read a (length (statements_before a (mark marks.CloseBrace ∷ mark marks.Else ∷ other))) no_stmt levels (mark marks.Else ∷ other) (omega (arith, statements_longer a (mark marks.CloseBrace ∷ mark marks.Else ∷ other))) w.1)) (block_deep levels (statements_before b (mark marks.CloseBrace ∷ rest)) (statements_tree b) rest (others_read b (length (statements_before b (mark marks.CloseBrace ∷ rest))) no_stmt levels rest (omega (arith, statements_longer b (mark marks.CloseBrace ∷ rest))) w.2))
  statement_reads (ForOf x from to body) zero rest w h = absurd w.2
  statement_reads (ForOf x from to body) (suc levels) rest w h =
      let second : List Token = expression_before to (block_before body rest) in
      for_reads (outermost (suc levels)) (outermost_call (suc levels)) (block_at (suc levels)) x _ second (block_before body rest) (expression_tree from) (expression_tree to) (statements_tree body) rest
      (outermost_reads from (suc levels) (mark marks.Range ∷ second) w.0 ((((refl, refl), refl), refl), refl)) (outermost_reads to (suc levels) (block_before body rest) w.1 ((((refl, refl), refl), refl), refl)) (block_deep levels (statements_before body (mark marks.CloseBrace ∷ rest)) (statements_tree body) rest (others_read body (length (statements_before body (mark marks.CloseBrace ∷ rest))) no_stmt levels rest (omega (arith, statements_longer body (mark marks.CloseBrace ∷ rest))) w.2))
  statement_reads (PrintOf e) levels rest w h =
      print_reads (outermost levels) (outermost_call levels) (block_at levels) (expression_tree e) _ rest (ended_reads levels _ (expression_tree e) rest (outermost_reads e levels (mark marks.Semicolon ∷ rest) w ((((refl, refl), refl), refl), refl)))
  statement_reads (ReturnOf e others) levels rest w h =
      let more : List Token = more_before others (mark marks.Semicolon ∷ rest) in
      return_reads (outermost levels) (outermost_call levels) (block_at levels) (expression_tree e) (more_trees others) _ more rest
      (outermost_reads e levels more w.0 (ends_more others (mark marks.Semicolon ∷ rest) ((((refl, refl), refl), refl), refl))) (other_values_read others levels rest w.2 w.1)

  others_read : (ss : Statements) (n : ℕ) (left : Block) (levels : ℕ) (rest : List Token) → statements_count ss ≤ n → StatementsWithin ss levels
      → chain (unless marks.CloseBrace) (statement_at levels) and_later n left (statements_before ss (mark marks.CloseBrace ∷ rest)) ≡ Read (joined left (statements_tree ss)) (mark marks.CloseBrace ∷ rest)
  others_read no_statement n left levels rest len w =
      chain_stops (unless marks.CloseBrace) (statement_at levels) and_later n left (mark marks.CloseBrace ∷ rest) refl ∙ ap (λ (ss : Block). Read ss (mark marks.CloseBrace ∷ rest)) (sym (joined_none left))
  others_read (and_statement s others) zero left levels rest len w = absurd (omega (arith, len))
  others_read (and_statement s others) (suc n) left levels rest len w =
      let more : List Token = statements_before others (mark marks.CloseBrace ∷ rest) in
      chain_one (unless marks.CloseBrace) (statement_at levels) and_later n left tt (statement_tree s) (statement_before s more) (statement_before s more) more (unless_reads s more) (statement_reads s levels more w.0 (statements_begin others (mark marks.CloseBrace ∷ rest) refl))
      ∙ others_read others n (and_stmt left (statement_tree s)) levels rest (omega (arith, len)) w.1
      ∙ ap (λ (ss : Block). Read ss (mark marks.CloseBrace ∷ rest)) (joined_and left (statement_tree s) (statements_tree others))

-- ---- functions and programs are read

parameter_reads : (k : Reader Kind) (p : Parameter) (rest : List Token) → k (kind_before p.kind rest) ≡ Read p.kind rest → parameter k (parameter_before p rest) ≡ Read p rest
unfolding parameter
parameter_reads k p rest h = rw h refl

more_parameters_read : (ps : List Parameter) (n : ℕ) (left : List Parameter) (levels : ℕ) (rest : List Token) → length ps ≤ n → ParametersWithin ps levels → after marks.Comma rest ≡ None
    → chain (after marks.Comma) (parameter (kind_at levels)) and_also n left (more_parameters_before ps rest) ≡ Read (left ++ ps) rest
more_parameters_read [] n left levels rest len w h = chain_stops (after marks.Comma) (parameter (kind_at levels)) and_also n left rest h ∙ ap (λ (ps : List Parameter). Read ps rest) (sym (append-nil left))
more_parameters_read (p ∷ ps) zero left levels rest len w h = absurd (omega (arith, len))
more_parameters_read (p ∷ ps) (suc n) left levels rest len w h =
    let more : List Token = more_parameters_before ps rest in
    chain_one (after marks.Comma) (parameter (kind_at levels)) and_also n left tt p _ (parameter_before p more) more refl (parameter_reads (kind_at levels) p more (kind_reads p.kind levels more w.0))
    ∙ more_parameters_read ps n (left ++ p ∷ []) levels rest (omega (arith, len)) w.1 h
    ∙ ap (λ (ps : List Parameter). Read ps rest) (append_assoc left (p ∷ []) ps)

some_parameters_go : (k : Reader Kind) (tokens : List Token) (p : Parameter) (rest : List Token) (all : Option (List Parameter × List Token)) → parameter k tokens ≡ Read p rest → chain (after marks.Comma) (parameter k) and_also 15 (p ∷ []) rest ≡ all → some_parameters k tokens ≡ all
unfolding some_parameters
some_parameters_go k tokens p rest all first others = rw first others

parameters_none : (levels : ℕ) (rest : List Token) → parameters (deeper_kind (suc levels)) (mark marks.OpenParenthesis ∷ mark marks.CloseParenthesis ∷ rest) ≡ Read [] rest
unfolding parameters deeper_kind
parameters_none levels rest = refl

parameters_some : (levels : ℕ) (more : List Token) (ps : List Parameter) (rest : List Token) → after marks.CloseParenthesis more ≡ None → some_parameters (kind_at levels) more ≡ Read ps (mark marks.CloseParenthesis ∷ rest)
    → parameters (deeper_kind (suc levels)) (mark marks.OpenParenthesis ∷ more) ≡ Read ps rest
unfolding parameters deeper_kind
parameters_some levels more ps rest begins given = rw (begins, given) refl

parameters_read : (ps : List Parameter) (levels : ℕ) (rest : List Token) → length ps ≤ 16 → ParametersWithin ps levels
    → parameters (deeper_kind (suc levels)) (mark marks.OpenParenthesis ∷ parameters_before ps (mark marks.CloseParenthesis ∷ rest)) ≡ Read ps rest
parameters_read [] levels rest len w = parameters_none levels rest
parameters_read (p ∷ ps) levels rest len w =
    let more : List Token = more_parameters_before ps (mark marks.CloseParenthesis ∷ rest) in
    parameters_some levels (parameter_before p more) (p ∷ ps) rest refl
    (some_parameters_go (kind_at levels) _ p more _ (parameter_reads (kind_at levels) p more (kind_reads p.kind levels more w.0)) (more_parameters_read ps 15 (p ∷ []) levels (mark marks.CloseParenthesis ∷ rest) (omega (arith, len)) w.1 refl))

more_kinds_read : (ts : List Kind) (n : ℕ) (left : List Kind) (levels : ℕ) (rest : List Token) → length ts ≤ n → KindsWithin ts levels → after marks.Comma rest ≡ None
    → chain (after marks.Comma) (kind_at levels) and_also n left (more_kinds_before ts rest) ≡ Read (left ++ ts) rest
more_kinds_read [] n left levels rest len w h = chain_stops (after marks.Comma) (kind_at levels) and_also n left rest h ∙ ap (λ (us : List Kind). Read us rest) (sym (append-nil left))
more_kinds_read (t ∷ ts) zero left levels rest len w h = absurd (omega (arith, len))
more_kinds_read (t ∷ ts) (suc n) left levels rest len w h =
    let more : List Token = more_kinds_before ts rest in
    chain_one (after marks.Comma) (kind_at levels) and_also n left tt t (more_kinds_before (t ∷ ts) rest) (kind_before t more) more refl (kind_reads t levels more w.0)
    ∙ more_kinds_read ts n (left ++ t ∷ []) levels rest (omega (arith, len)) w.1 h
    ∙ ap (λ (us : List Kind). Read us rest) (append_assoc left (t ∷ []) ts)

other_kinds_read : (ts : List Kind) (levels : ℕ) (rest : List Token) → length ts ≤ 3 → KindsWithin ts levels → after marks.Comma rest ≡ None → other_kinds (kind_at levels) (more_kinds_before ts rest) ≡ Read ts rest
unfolding other_kinds
other_kinds_read ts levels rest few w h = more_kinds_read ts 3 [] levels rest few w h

kind_begins : (t : Kind) (rest : List Token) → after marks.OpenParenthesis (kind_before t rest) ≡ None
kind_begins IntType rest = refl
kind_begins (ListType t) rest = refl
kind_begins (RefType t) rest = refl

results_one : (k : Reader Kind) (d : Option (Reader Kind)) (tokens : List Token) (t : Kind) (rest : List Token) → after marks.OpenParenthesis tokens ≡ None → k tokens ≡ Read t rest → results k d tokens ≡ Read (t, []) rest
unfolding results
results_one k d tokens t rest begins given = rw (begins, given) refl

some_results_go : (k : Reader Kind) (tokens : List Token) (t u : Kind) (us : List Kind) (more rest : List Token) → k tokens ≡ Read t more → other_kinds k more ≡ Read (u ∷ us) (mark marks.CloseParenthesis ∷ rest) → some_results k tokens ≡ Read (t, u ∷ us) rest
unfolding some_results
some_results_go k tokens t u us more rest first others = rw (first, others) refl

results_several : (levels : ℕ) (tokens : List Token) (all : Kind × List Kind) (rest : List Token) → some_results (kind_at levels) tokens ≡ Read all rest → results_at (suc levels) (mark marks.OpenParenthesis ∷ tokens) ≡ Read all rest
unfolding results deeper_kind
results_several levels tokens all rest h = h

results_read : (t : Kind) (ts : List Kind) (levels : ℕ) (rest : List Token) → ResultsWithin t ts levels → results_at levels (results_before t ts rest) ≡ Read (t, ts) rest
results_read t [] levels rest w = results_one (kind_at levels) (deeper_kind levels) (kind_before t rest) t rest (kind_begins t rest) (kind_reads t levels rest w)
results_read t (u ∷ us) zero rest w = absurd w.1
results_read t (u ∷ us) (suc levels) rest w =
    let more : List Token = more_kinds_before (u ∷ us) (mark marks.CloseParenthesis ∷ rest) in
    results_several levels (kind_before t more) (t, u ∷ us) rest
    (some_results_go (kind_at levels) (kind_before t more) t u us more rest (kind_reads t levels more w.1) (other_kinds_read (u ∷ us) levels (mark marks.CloseParenthesis ∷ rest) (omega (arith, w.0)) w.2 refl))

function_goes : (x : Name) (ps : List Parameter) (t : Kind) (ts : List Kind) (body : Block) (tokens more inside rest : List Token) → parameters (deeper_kind 32) tokens ≡ Read ps (mark marks.Arrow ∷ more) → results_at 32 more ≡ Read (t, ts) inside → block_at 32 inside ≡ Read body rest
    → function (mark marks.Fn ∷ name x ∷ tokens) ≡ Read (record { name = x; parameters = ps; result = t; others = ts; body = body }) rest
unfolding function
function_goes x ps t ts body tokens more inside rest first second third = rw (first, second, third) refl

function_reads : (g : FunctionWord) (rest : List Token) → FunctionWithin g 32 → function (function_before g rest) ≡ Read (function_tree g) rest
function_reads (FunctionOf x ps t ts body) rest w =
    let inside : List Token = block_before body rest in
    let all : List Token = statements_before body (mark marks.CloseBrace ∷ rest) in
    function_goes x ps t ts (statements_tree body) _ (results_before t ts inside) inside rest
    (parameters_read ps 31 (mark marks.Arrow ∷ results_before t ts inside) w.0 w.1)
    (results_read t ts 32 inside w.2)
    (block_deep 31 all (statements_tree body) rest (others_read body (length all) no_stmt 31 rest (omega (arith, statements_longer body (mark marks.CloseBrace ∷ rest))) w.3))

function_begins : (g : FunctionWord) (rest : List Token) → unless_end (function_before g rest) ≡ Read tt (function_before g rest)
function_begins (FunctionOf x ps t ts body) rest = refl

functions_read : (gs : Functions) (n : ℕ) (left : Program) → length (functions_tree gs) ≤ n → FunctionsWithin gs 32 → chain unless_end function and_also n left (functions_before gs []) ≡ Read (left ++ functions_tree gs) []
functions_read no_function n left len w = chain_stops unless_end function and_also n left [] refl ∙ ap (λ (gs : Program). Read gs []) (sym (append-nil left))
functions_read (and_function g others) zero left len w = absurd (omega (arith, len))
functions_read (and_function g others) (suc n) left len w =
    let more : List Token = functions_before others [] in
    chain_one unless_end function and_also n left tt (function_tree g) (function_before g more) (function_before g more) more (function_begins g more) (function_reads g more w.0)
    ∙ functions_read others n (left ++ function_tree g ∷ []) (omega (arith, len)) w.1
    ∙ ap (λ (gs : Program). Read gs []) (append_assoc left (function_tree g ∷ []) (functions_tree others))

program_goes : (tokens : List Token) (gs : Program) (rest : List Token) → all_functions tokens ≡ Read gs rest → program tokens ≡ Some gs
unfolding program
program_goes tokens gs rest h = rw h refl

pub program_read : (tokens : List Token) (p : Program) → IsProgram tokens p → program tokens ≡ Some p
program_read tokens p h =
    let len : length (functions_tree h.derivation) ≤ 64 = subst (λ (gs : Program). length gs ≤ 64) (sym h.given) h.few in
    ap program h.spelled ∙ program_goes (functions_before h.derivation []) (functions_tree h.derivation) [] (functions_read h.derivation 64 [] len h.nesting) ∙ ap (λ (gs : Program). Some gs) h.given

-- ---- what is read as a statement is derived

abbrev IsSoundBlock : Reader Block → ℕ → Type 0
IsSoundBlock b levels = (tokens : List Token) (a : Block) (rest : List Token) → b tokens ≡ Some (a, rest) → Derived block_before statements_tree (λ w. Deeper levels (StatementsWithin w)) tokens a rest

abbrev ended_before : Expression → List Token → List Token
ended_before e rest = expression_before e (mark marks.Semicolon ∷ rest)

ended_found : (levels : ℕ) (tokens : List Token) (a : Expr) (rest : List Token) → ended (outermost levels) tokens ≡ Some (a, rest) → Derived ended_before expression_tree (λ w. OutermostWithin w levels) tokens a rest
unfolding ended
ended_found levels tokens a rest e =
    let b = bind_some (outermost levels tokens) _ (a, rest) e in
    let c = bind_some (after marks.Semicolon b.0.1) _ (a, rest) b.2 in
    let d = outermost_found levels tokens b.0.0 b.0.1 b.1 in
    let p : (b.0.0, c.0.1) ≡ (a, rest) = some_is (b.0.0, c.0.1) (a, rest) c.2 in
    record {
      word = d.word;
      spelled = d.spelled ∙ ap (expression_before d.word) (after_is marks.Semicolon b.0.1 c.0 c.1 ∙ ap (λ (x : Expr × List Token). mark marks.Semicolon ∷ x.1) p);
      given = d.given ∙ ap (λ (x : Expr × List Token). x.0) p;
      nesting = d.nesting;
    }

-- a chain has no more items than it may
chain_bounded : {X A L : Type 0} (opens : Reader X) (item : Reader A) (join : X → L → A → L) (size : L → ℕ) → ((x : X) (l : L) (a : A) → size (join x l a) ≡ size l + 1) → (n : ℕ) (left : L) (tokens : List Token) (a : L) (rest : List Token)
    → chain opens item join n left tokens ≡ Some (a, rest) → size a ≤ size left + n
unfolding chain
chain_bounded {L = L} opens item join size one zero left tokens a rest e =
    elim (choose_some (opens tokens) (Some (left, tokens)) (λ _. None) (Some (a, rest)) e) [
      | inl h ↦ (let p : size left ≡ size a = ap (λ (x : L × List Token). size x.0) (some_is (left, tokens) (a, rest) h.1) in omega (arith, p))
      | inr h ↦ (let none : (let s : Option (L × List Token) = None in s) ≡ Some (a, rest) = h.2 in absurd cc)
    ]
chain_bounded {L = L} opens item join size one (suc n) left tokens a rest e =
    elim (choose_some (opens tokens) (Some (left, tokens)) (λ op. item op.1 >>= λ a. chain opens item join n (join op.0 left a.0) a.1) (Some (a, rest)) e) [
      | inl h ↦ (let p : size left ≡ size a = ap (λ (x : L × List Token). size x.0) (some_is (left, tokens) (a, rest) h.1) in omega (arith, p))
      | inr h ↦
          (let b = bind_some (item h.0.1) (λ a. chain opens item join n (join h.0.0 left a.0) a.1) (a, rest) h.2 in
          let f = chain_bounded opens item join size one n (join h.0.0 left b.0.0) b.0.1 a rest b.2 in
          omega (arith, f, one h.0.0 left b.0.0))
    ]

one_more : {A : Type 0} (x : Unit {0}) (xs : List A) (a : A) → length (and_also x xs a) ≡ length xs + 1
one_more x xs a = length-append xs (a ∷ [])

-- ---- further names, further values

abbrev listed_names : List Name → List Name → List Name
listed_names w left = left ++ w

name_words : ChainWords (after marks.Comma) named and_also more_names_before listed_names (λ w. Unit {0})
name_words = record {
  none = [];
  none_spelled = λ rest. refl;
  none_given = append-nil;
  none_within = tt;
  more = λ tokens x o y i w h. (
    y.0 ∷ w,
    λ rest s. after_is marks.Comma tokens x o ∙ ap (λ (r : List Token). mark marks.Comma ∷ r) (named_is x.1 y i ∙ ap (λ (r : List Token). name y.0 ∷ r) s),
    λ left. sym (append_assoc left (y.0 ∷ []) w),
    tt,
  );
}

other_names_found : (tokens : List Token) (a : List Name) (rest : List Token) → other_names tokens ≡ Some (a, rest) → (tokens ≡ more_names_before a rest) × (length a ≤ 3)
unfolding other_names
other_names_found tokens a rest e =
    let f = chain_found (after marks.Comma) named and_also more_names_before listed_names (λ w. Unit {0}) name_words 3 [] tokens a rest e in
    let is : f.word ≡ a = f.given in
    (f.spelled ∙ ap (λ (xs : List Name). more_names_before xs rest) is, chain_bounded (after marks.Comma) named and_also length one_more 3 [] tokens a rest e)

abbrev exprs_length : Exprs → ℕ
exprs_length no_expr = 0
exprs_length (also e es) = 1 + exprs_length es

one_expr_more : (x : Unit {0}) (es : Exprs) (a : Expr) → exprs_length (and_next x es a) ≡ exprs_length es + 1
one_expr_more x no_expr a = refl
one_expr_more x (also e es) a = omega (arith, one_expr_more x es a)

more_trees_length : (w : MoreArguments) → exprs_length (more_trees w) ≡ more_length w
more_trees_length last_argument = refl
more_trees_length (argument e others) = omega (arith, more_trees_length others)

abbrev later_values : MoreArguments → Exprs → Exprs
later_values w left = appended left (more_trees w)

value_words : (levels : ℕ) → ChainWords (after marks.Comma) (outermost levels) and_next more_before later_values (λ w. EachWithin w levels)
value_words levels = record {
  none = last_argument;
  none_spelled = λ rest. refl;
  none_given = appended_none;
  none_within = tt;
  more = λ tokens x o y i w h.
      let first = outermost_found levels x.1 y.0 y.1 i in (
        argument first.word w,
        λ rest s. after_is marks.Comma tokens x o ∙ ap (λ (r : List Token). mark marks.Comma ∷ r) (first.spelled ∙ ap (expression_before first.word) s),
        λ left. ap (λ (t : Expr). appended left (also t (more_trees w))) first.given ∙ sym (appended_and left y.0 (more_trees w)),
        (first.nesting, h),
      );
}

other_values_found : (levels : ℕ) (tokens : List Token) (a : Exprs) (rest : List Token) → other_values (outermost levels) tokens ≡ Some (a, rest) → Derived more_before more_trees (λ w. EachWithin w levels × (more_length w ≤ 3)) tokens a rest
unfolding other_values
other_values_found levels tokens a rest e =
    let f = chain_found (after marks.Comma) (outermost levels) and_next more_before later_values (λ w. EachWithin w levels) (value_words levels) 3 no_expr tokens a rest e in
    let is : more_trees f.word ≡ a = f.given in
    let few : exprs_length a ≤ 3 = chain_bounded (after marks.Comma) (outermost levels) and_next exprs_length one_expr_more 3 no_expr tokens a rest e in
    record { word = f.word; spelled = f.spelled; given = is; nesting = (f.nesting, omega (arith, few, more_trees_length f.word, ap exprs_length is)) }

abbrev Assignment : Type 0
Assignment = Name × Expression

abbrev assigned_before : Assignment → List Token → List Token
assigned_before w rest = name w.0 ∷ mark marks.Assign ∷ ended_before w.1 rest

abbrev assigned_tree : Assignment → Name × Expr
assigned_tree w = (w.0, expression_tree w.1)

assigned_found : (levels : ℕ) (tokens : List Token) (a : Name × Expr) (rest : List Token) → assigned (outermost levels) tokens ≡ Some (a, rest) → Derived assigned_before assigned_tree (λ w. OutermostWithin w.1 levels) tokens a rest
unfolding assigned
assigned_found levels tokens a rest e =
    let b = bind_some (named tokens) _ (a, rest) e in
    let c = bind_some (after marks.Assign b.0.1) _ (a, rest) b.2 in
    let d = bind_some (ended (outermost levels) c.0.1) _ (a, rest) c.2 in
    let f = ended_found levels c.0.1 d.0.0 d.0.1 d.1 in
    let p : ((b.0.0, d.0.0), d.0.1) ≡ (a, rest) = some_is ((b.0.0, d.0.0), d.0.1) (a, rest) d.2 in
    record {
      word = (b.0.0, f.word);
      spelled = named_is tokens b.0 b.1 ∙ ap (λ (r : List Token). name b.0.0 ∷ r) (after_is marks.Assign b.0.1 c.0 c.1 ∙ ap (λ (r : List Token). mark marks.Assign ∷ r) (f.spelled ∙ ap (λ (x : (Name × Expr) × List Token). ended_before f.word x.1) p));
      given = ap (λ (t : Expr). (b.0.0, t)) f.given ∙ ap (λ (x : (Name × Expr) × List Token). x.0) p;
      nesting = f.nesting;
    }

abbrev FoundStatement : ℕ → List Token → Stmt → List Token → Type 0
FoundStatement levels tokens a rest = Derived statement_before statement_tree (λ w. StatementWithin w levels) tokens a rest

branches_found : (levels : ℕ) (block : Reader Block) → IsSoundBlock block levels → (tokens : List Token) (a : Stmt) (rest : List Token) → branches (outermost levels) block tokens ≡ Some (a, rest) → FoundStatement levels (mark marks.If ∷ tokens) a rest
unfolding branches
branches_found levels block sound tokens a rest e =
    let b = bind_some (outermost levels tokens) _ (a, rest) e in
    let c = bind_some (block b.0.1) _ (a, rest) b.2 in
    let d = outermost_found levels tokens b.0.0 b.0.1 b.1 in
    let x = sound b.0.1 c.0.0 c.0.1 c.1 in
    elim (choose_some (after marks.Else c.0.1) (Some (If b.0.0 c.0.0, c.0.1)) (λ r. block r.1 >>= λ y. Some (IfElse b.0.0 c.0.0 y.0, y.1)) (Some (a, rest)) c.2) [
      | inl h ↦
          (let p : (If b.0.0 c.0.0, c.0.1) ≡ (a, rest) = some_is (If b.0.0 c.0.0, c.0.1) (a, rest) h.1 in
          record {
            word = IfOf d.word x.word;
            spelled = ap (λ (r : List Token). mark marks.If ∷ r) (d.spelled ∙ ap (expression_before d.word) (x.spelled ∙ ap (λ (y : Stmt × List Token). block_before x.word y.1) p));
            given = ap (λ (t : Expr). If t (statements_tree x.word)) d.given ∙ ap (If b.0.0) x.given ∙ ap (λ (y : Stmt × List Token). y.0) p;
            nesting = (d.nesting, x.nesting);
          })
      | inr h ↦
          (let f = bind_some (block h.0.1) _ (a, rest) h.2 in
          let y = sound h.0.1 f.0.0 f.0.1 f.1 in
          let p : (IfElse b.0.0 c.0.0 f.0.0, f.0.1) ≡ (a, rest) = some_is (IfElse b.0.0 c.0.0 f.0.0, f.0.1) (a, rest) f.2 in
          record {
            word = IfElseOf d.word x.word y.word;
            spelled = ap (λ (r : List Token). mark marks.If ∷ r) (d.spelled ∙ ap (expression_before d.word) (x.spelled ∙ ap (block_before x.word) (after_is marks.Else c.0.1 h.0 h.1 ∙ ap (λ (r : List Token). mark marks.Else ∷ r) (y.spelled ∙ ap (λ (z : Stmt × List Token). block_before y.word z.1) p))));
            given = ap (λ (t : Expr). IfElse t (statements_tree x.word) (statements_tree y.word)) d.given ∙ ap (λ (t : Block). IfElse b.0.0 t (statements_tree y.word)) x.given ∙ ap (IfElse b.0.0 c.0.0) y.given ∙ ap (λ (z : Stmt × List Token). z.0) p;
            nesting = (d.nesting, x.nesting, y.nesting);
          })
    ]

repeated_found : (levels : ℕ) (block : Reader Block) → IsSoundBlock block levels → (tokens : List Token) (a : Stmt) (rest : List Token) → repeated (outermost levels) block tokens ≡ Some (a, rest) → FoundStatement levels (mark marks.For ∷ tokens) a rest
unfolding repeated
repeated_found levels block sound tokens a rest e =
    let b = bind_some (named tokens) _ (a, rest) e in
    let c = bind_some (after marks.In b.0.1) _ (a, rest) b.2 in
    let d = bind_some (outermost levels c.0.1) _ (a, rest) c.2 in
    let f = bind_some (after marks.Range d.0.1) _ (a, rest) d.2 in
    let g = bind_some (outermost levels f.0.1) _ (a, rest) f.2 in
    let h = bind_some (block g.0.1) _ (a, rest) g.2 in
    let first = outermost_found levels c.0.1 d.0.0 d.0.1 d.1 in
    let last = outermost_found levels f.0.1 g.0.0 g.0.1 g.1 in
    let body = sound g.0.1 h.0.0 h.0.1 h.1 in
    let p : (For b.0.0 d.0.0 g.0.0 h.0.0, h.0.1) ≡ (a, rest) = some_is (For b.0.0 d.0.0 g.0.0 h.0.0, h.0.1) (a, rest) h.2 in
    let after_last : g.0.1 ≡ block_before body.word rest = body.spelled ∙ ap (λ (z : Stmt × List Token). block_before body.word z.1) p in
    let after_first : d.0.1 ≡ mark marks.Range ∷ expression_before last.word (block_before body.word rest) =
    after_is marks.Range d.0.1 f.0 f.1 ∙ ap (λ (r : List Token). mark marks.Range ∷ r) (last.spelled ∙ ap (expression_before last.word) after_last) in
    record {
      word = ForOf b.0.0 first.word last.word body.word;
      spelled = ap (λ (r : List Token). mark marks.For ∷ r) (named_is tokens b.0 b.1 ∙ ap (λ (r : List Token). name b.0.0 ∷ r) (after_is marks.In b.0.1 c.0 c.1 ∙ ap (λ (r : List Token). mark marks.In ∷ r) (first.spelled ∙ ap (expression_before first.word) after_first)));
      given = ap (λ (t : Expr). For b.0.0 t (expression_tree last.word) (statements_tree body.word)) first.given ∙ ap (λ (t : Expr). For b.0.0 d.0.0 t (statements_tree body.word)) last.given ∙ ap (For b.0.0 d.0.0 g.0.0) body.given ∙ ap (λ (z : Stmt × List Token). z.0) p;
      nesting = (first.nesting, last.nesting, body.nesting);
    }

abbrev let_word : Name → List Name → CallWord → Statement
let_word x xs (Part g args) = LetCallOf x xs g args
let_word x xs (Task r g args) = LetRemoteOf x xs r g args

let_word_before : (x : Name) (xs : List Name) (w : CallWord) (rest : List Token) → statement_before (let_word x xs w) rest ≡ mark marks.Let ∷ name x ∷ more_names_before xs (mark marks.Assign ∷ callee_before w (mark marks.Semicolon ∷ rest))
let_word_before x xs (Part g args) rest = refl
let_word_before x xs (Task r g args) rest = refl

let_word_tree : (x : Name) (xs : List Name) (w : CallWord) → statement_tree (let_word x xs w) ≡ let_called x xs (callee_tree w)
let_word_tree x xs (Part g args) = refl
let_word_tree x xs (Task r g args) = refl

let_word_within : (x : Name) (xs : List Name) (w : CallWord) (levels : ℕ) → AreSeveral xs → CallWithin (primary_of w) levels → StatementWithin (let_word x xs w) levels
let_word_within x xs (Part g args) levels several h = (several, h)
let_word_within x xs (Task r g args) levels several h = (several, h)

-- what stands before the value of a `let`
abbrev let_before : Name → List Name → List Token → List Token
let_before x xs rest = mark marks.Let ∷ name x ∷ more_names_before xs (mark marks.Assign ∷ rest)

valued_found : (levels : ℕ) (x : Name) (xs : List Name) (tokens : List Token) (a : Stmt) (rest : List Token) → length xs ≤ 3 → valued (outermost levels) (outermost_call levels) x xs tokens ≡ Some (a, rest) → FoundStatement levels (let_before x xs tokens) a rest
unfolding valued
valued_found levels x [] tokens a rest few e =
    let b = bind_some (ended (outermost levels) tokens) _ (a, rest) e in
    let f = ended_found levels tokens b.0.0 b.0.1 b.1 in
    let p : (Let x b.0.0, b.0.1) ≡ (a, rest) = some_is (Let x b.0.0, b.0.1) (a, rest) b.2 in
    record { word = LetOf x f.word; spelled = ap (let_before x []) (f.spelled ∙ ap (λ (z : Stmt × List Token). ended_before f.word z.1) p); given = ap (Let x) f.given ∙ ap (λ (z : Stmt × List Token). z.0) p; nesting = f.nesting }
valued_found levels x (y ∷ ys) tokens a rest few e =
    let b = bind_some (outermost_call levels tokens) _ (a, rest) e in
    let c = bind_some (after marks.Semicolon b.0.1) _ (a, rest) b.2 in
    let d = outermost_call_found levels tokens b.0.0 b.0.1 b.1 in
    let one : 1 ≤ length (y ∷ ys) = omega arith in
    let p : (let_called x (y ∷ ys) b.0.0, c.0.1) ≡ (a, rest) = some_is (let_called x (y ∷ ys) b.0.0, c.0.1) (a, rest) c.2 in
    record {
      word = let_word x (y ∷ ys) d.word;
      spelled = ap (let_before x (y ∷ ys)) (d.spelled ∙ ap (callee_before d.word) (after_is marks.Semicolon b.0.1 c.0 c.1 ∙ ap (λ (z : Stmt × List Token). mark marks.Semicolon ∷ z.1) p)) ∙ sym (let_word_before x (y ∷ ys) d.word rest);
      given = let_word_tree x (y ∷ ys) d.word ∙ ap (let_called x (y ∷ ys)) d.given ∙ ap (λ (z : Stmt × List Token). z.0) p;
      nesting = let_word_within x (y ∷ ys) d.word levels (one, few) d.nesting;
    }

declared_found : (levels : ℕ) (tokens : List Token) (a : Stmt) (rest : List Token) → declared (outermost levels) (outermost_call levels) tokens ≡ Some (a, rest) → FoundStatement levels (mark marks.Let ∷ tokens) a rest
unfolding declared
declared_found levels tokens a rest e =
    let b = bind_some (named tokens) _ (a, rest) e in
    let c = bind_some (other_names b.0.1) _ (a, rest) b.2 in
    let d = bind_some (after marks.Assign c.0.1) _ (a, rest) c.2 in
    let others = other_names_found b.0.1 c.0.0 c.0.1 c.1 in
    let f = valued_found levels b.0.0 c.0.0 d.0.1 a rest others.1 d.2 in
    record {
      word = f.word;
      spelled = ap (λ (r : List Token). mark marks.Let ∷ r) (named_is tokens b.0 b.1 ∙ ap (λ (r : List Token). name b.0.0 ∷ r) (others.0 ∙ ap (more_names_before c.0.0) (after_is marks.Assign c.0.1 d.0 d.1))) ∙ f.spelled;
      given = f.given;
      nesting = f.nesting;
    }

returned_found : (levels : ℕ) (tokens : List Token) (a : Stmt) (rest : List Token) → returned (outermost levels) tokens ≡ Some (a, rest) → FoundStatement levels (mark marks.Return ∷ tokens) a rest
unfolding returned
returned_found levels tokens a rest e =
    let b = bind_some (outermost levels tokens) _ (a, rest) e in
    let c = bind_some (other_values (outermost levels) b.0.1) _ (a, rest) b.2 in
    let d = bind_some (after marks.Semicolon c.0.1) _ (a, rest) c.2 in
    let first = outermost_found levels tokens b.0.0 b.0.1 b.1 in
    let others = other_values_found levels b.0.1 c.0.0 c.0.1 c.1 in
    let p : (Return b.0.0 c.0.0, d.0.1) ≡ (a, rest) = some_is (Return b.0.0 c.0.0, d.0.1) (a, rest) d.2 in
    record {
      word = ReturnOf first.word others.word;
      spelled = ap (λ (r : List Token). mark marks.Return ∷ r) (first.spelled ∙ ap (expression_before first.word) (others.spelled ∙ ap (more_before others.word) (after_is marks.Semicolon c.0.1 d.0 d.1 ∙ ap (λ (z : Stmt × List Token). mark marks.Semicolon ∷ z.1) p)));
      given = ap (λ (t : Expr). Return t (more_trees others.word)) first.given ∙ ap (Return b.0.0) others.given ∙ ap (λ (z : Stmt × List Token). z.0) p;
      nesting = (first.nesting, others.nesting.0, others.nesting.1);
    }

statement_found : (levels : ℕ) (block : Reader Block) → IsSoundBlock block levels → (tokens : List Token) (a : Stmt) (rest : List Token) → statement (outermost levels) (outermost_call levels) block tokens ≡ Some (a, rest) → FoundStatement levels tokens a rest
unfolding statement
statement_found levels block sound [] a rest e = absurd cc
statement_found levels block sound (mark marks.Let ∷ more) a rest e = declared_found levels more a rest e
statement_found levels block sound (mark marks.Set ∷ more) a rest e =
    let b = bind_some (assigned (outermost levels) more) _ (a, rest) e in
    let f = assigned_found levels more b.0.0 b.0.1 b.1 in
    let p : (Set b.0.0.0 b.0.0.1, b.0.1) ≡ (a, rest) = some_is (Set b.0.0.0 b.0.0.1, b.0.1) (a, rest) b.2 in
    record { word = SetOf f.word.0 f.word.1; spelled = ap (λ (r : List Token). mark marks.Set ∷ r) (f.spelled ∙ ap (λ (z : Stmt × List Token). assigned_before f.word z.1) p); given = ap (λ (t : Name × Expr). Set t.0 t.1) f.given ∙ ap (λ (z : Stmt × List Token). z.0) p; nesting = f.nesting }
statement_found levels block sound (mark marks.If ∷ more) a rest e = branches_found levels block sound more a rest e
statement_found levels block sound (mark marks.For ∷ more) a rest e = repeated_found levels block sound more a rest e
statement_found levels block sound (mark marks.Print ∷ more) a rest e =
    let b = bind_some (ended (outermost levels) more) _ (a, rest) e in
    let f = ended_found levels more b.0.0 b.0.1 b.1 in
    let p : (Print b.0.0, b.0.1) ≡ (a, rest) = some_is (Print b.0.0, b.0.1) (a, rest) b.2 in
    record { word = PrintOf f.word; spelled = ap (λ (r : List Token). mark marks.Print ∷ r) (f.spelled ∙ ap (λ (z : Stmt × List Token). ended_before f.word z.1) p); given = ap Print f.given ∙ ap (λ (z : Stmt × List Token). z.0) p; nesting = f.nesting }
statement_found levels block sound (mark marks.Return ∷ more) a rest e = returned_found levels more a rest e
statement_found levels block sound (other ∷ more) a rest e = absurd cc

abbrev IsSoundStatement : Reader Stmt → ℕ → Type 0
IsSoundStatement read levels = (tokens : List Token) (a : Stmt) (rest : List Token) → read tokens ≡ Some (a, rest) → FoundStatement levels tokens a rest

abbrev later_tree : Statements → Block → Block
later_tree w left = joined left (statements_tree w)

statement_words : (read : Reader Stmt) (levels : ℕ) → IsSoundStatement read levels → ChainWords (unless marks.CloseBrace) read and_later statements_before later_tree (λ w. StatementsWithin w levels)
statement_words read levels sound = record {
  none = no_statement;
  none_spelled = λ rest. refl;
  none_given = joined_none;
  none_within = tt;
  more = λ tokens x o y i w h.
      let first = sound x.1 y.0 y.1 i in (
        and_statement first.word w,
        λ rest s. unless_is marks.CloseBrace tokens x o ∙ first.spelled ∙ ap (statement_before first.word) s,
        λ left. ap (λ (t : Stmt). joined left (stmt t (statements_tree w))) first.given ∙ sym (joined_and left y.0 (statements_tree w)),
        (first.nesting, h),
      );
}

statements_found : (read : Reader Stmt) (levels : ℕ) → IsSoundStatement read levels → (tokens : List Token) (a : Block) (rest : List Token) → statements read tokens ≡ Some (a, rest)
    → Derived statements_before (λ w. later_tree w no_stmt) (λ w. StatementsWithin w levels) tokens a rest
unfolding statements
statements_found read levels sound tokens a rest e = chain_found (unless marks.CloseBrace) read and_later statements_before later_tree (λ w. StatementsWithin w levels) (statement_words read levels sound) (length tokens) no_stmt tokens a rest e

abbrev IsSoundStatementBelow : Option (Reader Stmt) → ℕ → Type 0
IsSoundStatementBelow None zero = Unit {0}
IsSoundStatementBelow None (suc levels) = ⊥
IsSoundStatementBelow (Some read) zero = ⊥
IsSoundStatementBelow (Some read) (suc levels) = IsSoundStatement read levels

block_below : (d : Option (Reader Stmt)) (levels : ℕ) → IsSoundStatementBelow d levels → (more : List Token) (a : Block) (rest : List Token)
    → (d >>= λ read. statements read more >>= λ b. after marks.CloseBrace b.1 >>= λ q. Read b.0 q.1) ≡ Some (a, rest) → Derived block_before statements_tree (λ w. Deeper levels (StatementsWithin w)) (mark marks.OpenBrace ∷ more) a rest
block_below None levels sound more a rest e = absurd cc
block_below (Some read) zero sound more a rest e = absurd sound
block_below (Some read) (suc levels) sound more a rest e =
    let b = bind_some (statements read more) _ (a, rest) e in
    let c = bind_some (after marks.CloseBrace b.0.1) _ (a, rest) b.2 in
    let f = statements_found read levels sound more b.0.0 b.0.1 b.1 in
    let p : (b.0.0, c.0.1) ≡ (a, rest) = some_is (b.0.0, c.0.1) (a, rest) c.2 in
    record {
      word = f.word;
      spelled = ap (λ (r : List Token). mark marks.OpenBrace ∷ r) (f.spelled ∙ ap (statements_before f.word) (after_is marks.CloseBrace b.0.1 c.0 c.1 ∙ ap (λ (x : Block × List Token). mark marks.CloseBrace ∷ x.1) p));
      given = f.given ∙ ap (λ (x : Block × List Token). x.0) p;
      nesting = f.nesting;
    }

block_found : (d : Option (Reader Stmt)) (levels : ℕ) → IsSoundStatementBelow d levels → IsSoundBlock (block d) levels
unfolding block
block_found d levels sound tokens a rest e =
    let b = bind_some (after marks.OpenBrace tokens) _ (a, rest) e in
    let f = block_below d levels sound b.0.1 a rest b.2 in
    record { word = f.word; spelled = after_is marks.OpenBrace tokens b.0 b.1 ∙ f.spelled; given = f.given; nesting = f.nesting }

deeper_statement_found : (levels : ℕ) → IsSoundStatementBelow (deeper_statement levels) levels
unfolding deeper_statement
deeper_statement_found zero = tt
deeper_statement_found (suc levels) = statement_found levels (block (deeper_statement levels)) (block_found (deeper_statement levels) levels (deeper_statement_found levels))

-- ---- functions and programs

abbrev FoundParameter : ℕ → List Token → Parameter → List Token → Type 0
FoundParameter levels tokens p rest = (tokens ≡ parameter_before p rest) × KindWithin p.kind levels

parameter_found : (levels : ℕ) (tokens : List Token) (a : Parameter) (rest : List Token) → parameter (kind_at levels) tokens ≡ Some (a, rest) → FoundParameter levels tokens a rest
unfolding parameter
parameter_found levels tokens a rest e =
    let b = bind_some (named tokens) _ (a, rest) e in
    let c = bind_some (after marks.Colon b.0.1) _ (a, rest) b.2 in
    let d = bind_some (kind_at levels c.0.1) _ (a, rest) c.2 in
    let t = kind_at_found levels c.0.1 d.0.0 d.0.1 d.1 in
    let found : Parameter = record { name = b.0.0; kind = d.0.0 } in
    let p : (found, d.0.1) ≡ (a, rest) = some_is (found, d.0.1) (a, rest) d.2 in
    let all : tokens ≡ parameter_before found d.0.1 = named_is tokens b.0 b.1 ∙ ap (λ (r : List Token). name b.0.0 ∷ r) (after_is marks.Colon b.0.1 c.0 c.1 ∙ ap (λ (r : List Token). mark marks.Colon ∷ r) t.0) in
    subst (λ (x : Parameter × List Token). FoundParameter levels tokens x.0 x.1) p (all, t.1)

abbrev listed : List Parameter → List Parameter → List Parameter
listed w left = left ++ w

parameter_words : (levels : ℕ) → ChainWords (after marks.Comma) (parameter (kind_at levels)) and_also more_parameters_before listed (λ w. ParametersWithin w levels)
parameter_words levels = record {
  none = [];
  none_spelled = λ rest. refl;
  none_given = append-nil;
  none_within = tt;
  more = λ tokens x o y i w h.
      let first = parameter_found levels x.1 y.0 y.1 i in (
        y.0 ∷ w,
        λ rest s. after_is marks.Comma tokens x o ∙ ap (λ (r : List Token). mark marks.Comma ∷ r) (first.0 ∙ ap (parameter_before y.0) s),
        λ left. sym (append_assoc left (y.0 ∷ []) w),
        (first.1, h),
      );
}

abbrev FoundParameters : ℕ → List Token → List Parameter → List Token → Type 0
FoundParameters levels tokens ps rest = (tokens ≡ parameters_before ps rest) × (length ps ≤ 16) × ParametersWithin ps levels

some_parameters_found : (levels : ℕ) (tokens : List Token) (a : List Parameter) (rest : List Token) → some_parameters (kind_at levels) tokens ≡ Some (a, rest) → FoundParameters levels tokens a rest
unfolding some_parameters
some_parameters_found levels tokens a rest e =
    let b = bind_some (parameter (kind_at levels) tokens) _ (a, rest) e in
    let first = parameter_found levels tokens b.0.0 b.0.1 b.1 in
    let f = chain_found (after marks.Comma) (parameter (kind_at levels)) and_also more_parameters_before listed (λ w. ParametersWithin w levels) (parameter_words levels) 15 (b.0.0 ∷ []) b.0.1 a rest b.2 in
    let few : length a ≤ 16 = chain_bounded (after marks.Comma) (parameter (kind_at levels)) and_also length one_more 15 (b.0.0 ∷ []) b.0.1 a rest b.2 in
    let is : b.0.0 ∷ f.word ≡ a = f.given in
    let both = subst (λ (ps : List Parameter). (tokens ≡ parameters_before ps rest) × ParametersWithin ps levels) is (first.0 ∙ ap (parameter_before b.0.0) f.spelled, (first.1, f.nesting)) in
    (both.0, few, both.1)

-- in parentheses
abbrev FoundList : ℕ → List Token → List Parameter → List Token → Type 0
FoundList levels tokens ps rest = (tokens ≡ mark marks.OpenParenthesis ∷ parameters_before ps (mark marks.CloseParenthesis ∷ rest)) × (length ps ≤ 16) × Deeper levels (ParametersWithin ps)

parameters_found : (levels : ℕ) (tokens : List Token) (a : List Parameter) (rest : List Token) → parameters (deeper_kind (suc levels)) tokens ≡ Some (a, rest) → FoundList (suc levels) tokens a rest
unfolding parameters deeper_kind
parameters_found levels tokens a rest e =
    let b = bind_some (after marks.OpenParenthesis tokens) _ (a, rest) e in
    let opened = after_is marks.OpenParenthesis tokens b.0 b.1 in
    elim (choose_some (after marks.CloseParenthesis b.0.1) (some_parameters (kind_at levels) b.0.1 >>= λ ps. after marks.CloseParenthesis ps.1 >>= λ q. Some (ps.0, q.1)) (λ q. Some ([], q.1)) (Some (a, rest)) b.2) [
      | inl h ↦
          (let c = bind_some (some_parameters (kind_at levels) b.0.1) _ (a, rest) h.1 in
          let d = bind_some (after marks.CloseParenthesis c.0.1) _ (a, rest) c.2 in
          let f = some_parameters_found levels b.0.1 c.0.0 c.0.1 c.1 in
          let p : (c.0.0, d.0.1) ≡ (a, rest) = some_is (c.0.0, d.0.1) (a, rest) d.2 in
          let all : tokens ≡ mark marks.OpenParenthesis ∷ parameters_before c.0.0 (mark marks.CloseParenthesis ∷ d.0.1) =
          opened ∙ ap (λ (r : List Token). mark marks.OpenParenthesis ∷ r) (f.0 ∙ ap (parameters_before c.0.0) (after_is marks.CloseParenthesis c.0.1 d.0 d.1)) in
          subst (λ (x : List Parameter × List Token). FoundList (suc levels) tokens x.0 x.1) p (all, f.1, f.2))
      | inr h ↦
          (let p : ([], h.0.1) ≡ (a, rest) = some_is ([], h.0.1) (a, rest) h.2 in
          let all : tokens ≡ mark marks.OpenParenthesis ∷ mark marks.CloseParenthesis ∷ h.0.1 = opened ∙ ap (λ (r : List Token). mark marks.OpenParenthesis ∷ r) (after_is marks.CloseParenthesis b.0.1 h.0 h.1) in
          subst (λ (x : List Parameter × List Token). FoundList (suc levels) tokens x.0 x.1) p (all, omega arith, tt))
    ]

abbrev FoundKinds : ℕ → List Token → List Kind → List Token → Type 0
FoundKinds levels tokens ts rest = (tokens ≡ more_kinds_before ts rest) × (length ts ≤ 3) × KindsWithin ts levels

abbrev listed_kinds : List Kind → List Kind → List Kind
listed_kinds w left = left ++ w

kind_words : (levels : ℕ) → ChainWords (after marks.Comma) (kind_at levels) and_also more_kinds_before listed_kinds (λ w. KindsWithin w levels)
kind_words levels = record {
  none = [];
  none_spelled = λ rest. refl;
  none_given = append-nil;
  none_within = tt;
  more = λ tokens x o y i w h.
      let first = kind_at_found levels x.1 y.0 y.1 i in (
        y.0 ∷ w,
        λ rest s. after_is marks.Comma tokens x o ∙ ap (λ (r : List Token). mark marks.Comma ∷ r) (first.0 ∙ ap (kind_before y.0) s),
        λ left. sym (append_assoc left (y.0 ∷ []) w),
        (first.1, h),
      );
}

other_kinds_found : (levels : ℕ) (tokens : List Token) (a : List Kind) (rest : List Token) → other_kinds (kind_at levels) tokens ≡ Some (a, rest) → FoundKinds levels tokens a rest
unfolding other_kinds
other_kinds_found levels tokens a rest e =
    let f = chain_found (after marks.Comma) (kind_at levels) and_also more_kinds_before listed_kinds (λ w. KindsWithin w levels) (kind_words levels) 3 [] tokens a rest e in
    let few : length a ≤ 3 = chain_bounded (after marks.Comma) (kind_at levels) and_also length one_more 3 [] tokens a rest e in
    let is : f.word ≡ a = f.given in
    let both = subst (λ (ts : List Kind). (tokens ≡ more_kinds_before ts rest) × KindsWithin ts levels) is (f.spelled, f.nesting) in
    (both.0, few, both.1)

abbrev FoundResults : ℕ → List Token → Kind × List Kind → List Token → Type 0
FoundResults levels tokens a rest = (tokens ≡ results_before a.0 a.1 rest) × ResultsWithin a.0 a.1 levels

-- what follows the parenthesis that opens
several_found : (levels : ℕ) (tokens : List Token) (t : Kind) (ts : List Kind) (more : List Token) (a : Kind × List Kind) (rest : List Token) → tokens ≡ kind_before t more → KindWithin t levels → FoundKinds levels more ts (mark marks.CloseParenthesis ∷ rest)
    → no_others ts ≡ false → (t, ts) ≡ a → FoundResults (suc levels) (mark marks.OpenParenthesis ∷ tokens) a rest
several_found levels tokens t [] more a rest first within others full is = absurd cc
several_found levels tokens t (u ∷ us) more a rest first within others full is =
    let all : mark marks.OpenParenthesis ∷ tokens ≡ results_before t (u ∷ us) rest = ap (λ (r : List Token). mark marks.OpenParenthesis ∷ r) (first ∙ ap (kind_before t) others.0) in
    subst (λ (x : Kind × List Kind). FoundResults (suc levels) (mark marks.OpenParenthesis ∷ tokens) x rest) is (all, (omega (arith, others.1), within, others.2))

some_results_found : (levels : ℕ) (tokens : List Token) (a : Kind × List Kind) (rest : List Token) → some_results (kind_at levels) tokens ≡ Some (a, rest) → FoundResults (suc levels) (mark marks.OpenParenthesis ∷ tokens) a rest
unfolding some_results
some_results_found levels tokens a rest e =
    let b = bind_some (kind_at levels tokens) _ (a, rest) e in
    let c = bind_some (other_kinds (kind_at levels) b.0.1) _ (a, rest) b.2 in
    let g = guard_some (no_others c.0.0) (after marks.CloseParenthesis c.0.1 >>= λ q. Some ((b.0.0, c.0.0), q.1)) (a, rest) c.2 in
    let d = bind_some (after marks.CloseParenthesis c.0.1) _ (a, rest) g.1 in
    let t = kind_at_found levels tokens b.0.0 b.0.1 b.1 in
    let ts = other_kinds_found levels b.0.1 c.0.0 c.0.1 c.1 in
    let p : ((b.0.0, c.0.0), d.0.1) ≡ (a, rest) = some_is ((b.0.0, c.0.0), d.0.1) (a, rest) d.2 in
    let closed : c.0.1 ≡ mark marks.CloseParenthesis ∷ rest = after_is marks.CloseParenthesis c.0.1 d.0 d.1 ∙ ap (λ (x : (Kind × List Kind) × List Token). mark marks.CloseParenthesis ∷ x.1) p in
    several_found levels tokens b.0.0 c.0.0 b.0.1 a rest t.0 t.1 (ts.0 ∙ ap (more_kinds_before c.0.0) closed, ts.1, ts.2) g.0 (ap (λ (x : (Kind × List Kind) × List Token). x.0) p)

results_found : (levels : ℕ) (tokens : List Token) (a : Kind × List Kind) (rest : List Token) → results_at (suc levels) tokens ≡ Some (a, rest) → FoundResults (suc levels) tokens a rest
unfolding results deeper_kind
results_found levels tokens a rest e =
    elim (choose_some (after marks.OpenParenthesis tokens) (kind_at (suc levels) tokens >>= λ t. Some ((t.0, []), t.1)) (λ r. some_results (kind_at levels) r.1) (Some (a, rest)) e) [
      | inl h ↦
          (let b = bind_some (kind_at (suc levels) tokens) _ (a, rest) h.1 in
          let t = kind_at_found (suc levels) tokens b.0.0 b.0.1 b.1 in
          let p : ((b.0.0, []), b.0.1) ≡ (a, rest) = some_is ((b.0.0, []), b.0.1) (a, rest) b.2 in
          subst (λ (x : (Kind × List Kind) × List Token). FoundResults (suc levels) tokens x.0 x.1) p (t.0, t.1))
      | inr h ↦
          (let f = some_results_found levels h.0.1 a rest h.2 in
          (after_is marks.OpenParenthesis tokens h.0 h.1 ∙ f.0, f.1))
    ]

function_found : (tokens : List Token) (a : Function) (rest : List Token) → function tokens ≡ Some (a, rest) → Derived function_before function_tree (λ w. FunctionWithin w 32) tokens a rest
unfolding function
function_found tokens a rest e =
    let b = bind_some (after marks.Fn tokens) _ (a, rest) e in
    let c = bind_some (named b.0.1) _ (a, rest) b.2 in
    let d = bind_some (parameters (deeper_kind 32) c.0.1) _ (a, rest) c.2 in
    let f = bind_some (after marks.Arrow d.0.1) _ (a, rest) d.2 in
    let g = bind_some (results_at 32 f.0.1) _ (a, rest) f.2 in
    let h = bind_some (block_at 32 g.0.1) _ (a, rest) g.2 in
    let ps = parameters_found 31 c.0.1 d.0.0 d.0.1 d.1 in
    let t = results_found 31 f.0.1 g.0.0 g.0.1 g.1 in
    let body = block_found (deeper_statement 32) 32 (deeper_statement_found 32) g.0.1 h.0.0 h.0.1 h.1 in
    let found : Function = record { name = c.0.0; parameters = d.0.0; result = g.0.0.0; others = g.0.0.1; body = h.0.0 } in
    let p : (found, h.0.1) ≡ (a, rest) = some_is (found, h.0.1) (a, rest) h.2 in
    let result : f.0.1 ≡ results_before g.0.0.0 g.0.0.1 (block_before body.word rest) = t.0 ∙ ap (results_before g.0.0.0 g.0.0.1) (body.spelled ∙ ap (λ (x : Function × List Token). block_before body.word x.1) p) in
    let list : c.0.1 ≡ mark marks.OpenParenthesis ∷ parameters_before d.0.0 (mark marks.CloseParenthesis ∷ mark marks.Arrow ∷ results_before g.0.0.0 g.0.0.1 (block_before body.word rest)) =
    ps.0 ∙ ap (λ (r : List Token). mark marks.OpenParenthesis ∷ parameters_before d.0.0 (mark marks.CloseParenthesis ∷ r)) (after_is marks.Arrow d.0.1 f.0 f.1 ∙ ap (λ (r : List Token). mark marks.Arrow ∷ r) result) in
    record {
      word = FunctionOf c.0.0 d.0.0 g.0.0.0 g.0.0.1 body.word;
      spelled = after_is marks.Fn tokens b.0 b.1 ∙ ap (λ (r : List Token). mark marks.Fn ∷ r) (named_is b.0.1 c.0 c.1 ∙ ap (λ (r : List Token). name c.0.0 ∷ r) list);
      given = ap (λ (x : Block). let y : Function = record { name = c.0.0; parameters = d.0.0; result = g.0.0.0; others = g.0.0.1; body = x } in y) body.given ∙ ap (λ (x : Function × List Token). x.0) p;
      nesting = (ps.1, ps.2, t.1, body.nesting);
    }

abbrev listed_functions : Functions → Program → Program
listed_functions w left = left ++ functions_tree w

function_words : ChainWords unless_end function and_also functions_before listed_functions (λ w. FunctionsWithin w 32)
function_words = record {
  none = no_function;
  none_spelled = λ rest. refl;
  none_given = append-nil;
  none_within = tt;
  more = λ tokens x o y i w h.
      let first = function_found x.1 y.0 y.1 i in (
        and_function first.word w,
        λ rest s. unless_end_is tokens x o ∙ first.spelled ∙ ap (function_before first.word) s,
        λ left. ap (λ (g : Function). left ++ (g ∷ functions_tree w)) first.given ∙ sym (append_assoc left (y.0 ∷ []) (functions_tree w)),
        (first.nesting, h),
      );
}

-- a chain of functions ends where nothing is left, or is too long
functions_end : (n : ℕ) (left : Program) (tokens : List Token) (a : Program) (rest : List Token) → chain unless_end function and_also n left tokens ≡ Some (a, rest) → rest ≡ []
unfolding chain
functions_end zero left [] a rest e = sym (ap (λ (x : Program × List Token). x.1) (some_is (left, []) (a, rest) e))
functions_end zero left (t ∷ tokens) a rest e = absurd cc
functions_end (suc n) left [] a rest e = sym (ap (λ (x : Program × List Token). x.1) (some_is (left, []) (a, rest) e))
functions_end (suc n) left (t ∷ tokens) a rest e =
    let b = bind_some (function (t ∷ tokens)) (λ a. chain unless_end function and_also n (left ++ a.0 ∷ []) a.1) (a, rest) e in
    functions_end n (left ++ b.0.0 ∷ []) b.0.1 a rest b.2

pub program_found : (tokens : List Token) (p : Program) → program tokens ≡ Some p → IsProgram tokens p
unfolding program
program_found tokens p e =
    let b = bind_some (all_functions tokens) (λ x. Some x.0) p e in
    let same : b.0.0 ≡ p = some_is b.0.0 p b.2 in
    let f = chain_found unless_end function and_also functions_before listed_functions (λ w. FunctionsWithin w 32) function_words 64 [] tokens b.0.0 b.0.1 b.1 in
    let few : length b.0.0 ≤ 64 = chain_bounded unless_end function and_also length one_more 64 [] tokens b.0.0 b.0.1 b.1 in
    record {
      derivation = f.word;
      spelled = f.spelled ∙ ap (functions_before f.word) (functions_end 64 [] tokens b.0.0 b.0.1 b.1);
      given = f.given ∙ same;
      nesting = f.nesting;
      few = subst (λ (gs : Program). length gs ≤ 64) same few;
    }
