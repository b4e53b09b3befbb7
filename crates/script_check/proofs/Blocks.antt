-- Steps of the proofs on statements.
use Rattle.std.proofs.Common.{◌≡◌, ℕ, zero, suc, ◌+◌, ◌<◌, ◌≤◌, Bool, true, false, List, [], ◌∷◌, ◌++◌, length, get_or, take, drop, map, refl, sym, ap, ◌∙◌, arith, Option, Some, None, append_assoc, append-nil}
use Rattle.std.specs.Prelude.{◌&&◌, nat_eq}
use Rattle.std.proofs.lemmas.List.{length-map}
use Rattle.meaning.specs.Values.{Name}
use Rattle.meaning.specs.Syntax.{Kind, Number, Expr, Stmt, Block, done, step}
use Rattle.meaning.specs.Syntax as syntax
use Rattle.meaning.specs.Kinds.{Context, kind_in, has_reference}
use Rattle.script_syntax.specs.Trees as parsed
use Rattle.script_syntax.specs.Views.{statement_of, statements_of}
use Rattle.script_syntax.specs.declared.tree.Statement.{Statement}
use Rattle.script_check.specs.Sizes.{stmt_size, block_size, other_size}
use Rattle.script_check.specs.Branches.{branch}
use Rattle.script_check.specs.Rules.{variable}
use Rattle.script_check.specs.Trees.{statement_of as checked_statement, statements_of as checked_statements}
use Rattle.script_check.specs.Scopes.{typed_of, context_of}
use Rattle.script_check.specs.Typings.{joined_steps, onto_steps}
use Rattle.script_check.specs.Inference.{◌>>=◌, only, count, callee, new_names, Typing, Stepped, Blocked, infer, infer_as, infer_arguments, infer_results, fresh, step_of, steps_of, block_from, else_from, let_step, returns, block_returns, else_returns, retries_within, infer_marked}
use Rattle.script_check.specs.declared.scope.Variable.{Variable}
use Rattle.script_check.specs.declared.tree.CheckedStatement.{CheckedStatement}
use Rattle.script_check.proofs.Arms.{here, drop_end, both, neither}
use Rattle.script_check.proofs.Binds.{bind_some, some_is}
use Rattle.script_check.proofs.Names.{behind}
use Rattle.meaning.specs.Values.{main_name}
use Rattle.meaning.specs.Meaning.{same_name}
use Rattle.std.specs.Prelude.{if◌then◌else◌}

-- Sizes

member : (ss : List Statement) (i : ℕ) (d : Statement) → i < length ss → stmt_size (statement_of (get_or ss i d)) < block_size (statements_of ss)
member [] i d h = absurd (omega arith)
member (s ∷ ss) zero d h = omega arith
member (s ∷ ss) (suc i) d h = let r = member ss i d (omega arith) in omega arith

pub within : (ss : List Statement) (i : ℕ) (s : Statement) → i < length ss → s ≡ get_or ss i s → stmt_size (statement_of s) < block_size (statements_of ss)
within ss i s h e = let m = member ss i s h in let z = ap (λ y. stmt_size (statement_of y)) e in omega arith

branch_size : (e : parsed.Expr) (a : parsed.Block) (o : Option parsed.Block) → stmt_size (branch e a o) ≡ block_size a + other_size o + 6
branch_size e a None = omega arith
branch_size e a (Some b) = refl

pub first_size : (t : parsed.Stmt) (e : parsed.Expr) (a : parsed.Block) (o : Option parsed.Block) → t ≡ branch e a o → block_size a + 2 < stmt_size t
first_size t e a o is = let z : stmt_size t ≡ block_size a + other_size o + 6 = ap stmt_size is ∙ branch_size e a o in omega arith

pub second_size : (t : parsed.Stmt) (e : parsed.Expr) (a : parsed.Block) (o : Option parsed.Block) → t ≡ branch e a o → other_size o + 3 < stmt_size t
second_size t e a o is = let z : stmt_size t ≡ block_size a + other_size o + 6 = ap stmt_size is ∙ branch_size e a o in omega arith

pub body_size : (t : parsed.Stmt) (x : Name) (from to : parsed.Expr) (b : parsed.Block) → t ≡ parsed.For x from to b → block_size b + 2 < stmt_size t
body_size t x from to b is = let z : stmt_size t ≡ block_size b + 6 = ap stmt_size is in omega arith

-- Returns

pub branch_returns : (e : parsed.Expr) (a : parsed.Block) (o : Option parsed.Block) → returns (branch e a o) ≡ block_returns a && else_returns o
branch_returns e a None = go (block_returns a)
  where
    go : (b : Bool) → false ≡ b && false
    go true = refl
    go false = refl
branch_returns e a (Some b) = refl

and_of : (a b x : Bool) → a ≡ x → (a && b) ≡ (x && b)
and_of a b x e = ap (λ y. y && b) e

pub returns_not : (t : parsed.Stmt) (e : parsed.Expr) (a : parsed.Block) (o : Option parsed.Block) → t ≡ branch e a o → block_returns a ≡ false → returns t ≡ false
returns_not t e a o is none = ap returns is ∙ branch_returns e a o ∙ and_of (block_returns a) (else_returns o) false none

pub returns_by_else : (t : parsed.Stmt) (e : parsed.Expr) (a : parsed.Block) (o : Option parsed.Block) → t ≡ branch e a o → block_returns a ≡ true → returns t ≡ else_returns o
returns_by_else t e a o is some = ap returns is ∙ branch_returns e a o ∙ and_of (block_returns a) (else_returns o) true some

-- Scopes

map_take : {A B : Type 0} (f : A → B) (n : ℕ) (xs : List A) → map f (take n xs) ≡ take n (map f xs)
map_take f zero xs = refl
map_take f (suc n) [] = refl
map_take f (suc n) (x ∷ xs) = ap (λ ys. f x ∷ ys) (map_take f n xs)

take_front : {A : Type 0} (xs ys : List A) → take (length xs) (xs ++ ys) ≡ xs
take_front [] ys = refl
take_front (x ∷ xs) ys = ap (λ zs. x ∷ zs) (take_front xs ys)

pub cut : (xs ys zs : List Variable) (n : ℕ) (added : Context) → n ≡ length xs → zs ≡ take n ys → context_of ys ≡ context_of xs ++ added → context_of zs ≡ context_of xs
cut xs ys zs n added l e h =
    ap context_of e ∙ map_take typed_of n ys ∙ ap (take n) h ∙ ap (λ m. take m (context_of xs ++ added)) (l ∙ sym (length-map xs typed_of)) ∙ take_front (context_of xs) added

abbrev pub Extends : Context → Context → Type 0
Extends before after = (added : Context) × (after ≡ before ++ added)

itself : (before after : Context) → after ≡ before → Extends before after
itself before after e = ([], e ∙ sym (append-nil before))

pub let_fails : (program : parsed.Program) (before : Context) (x : Name) (e : parsed.Expr) → fresh before x ≡ Some tt → infer program before e ≡ None → let_step program before x e ≡ None
let_fails program before x e new none = both (fresh before x) tt _ None new (neither (infer program before e) _ none)

pub let_gives : (program : parsed.Program) (before after : Context) (x : Name) (e : parsed.Expr) (y : Typing) → fresh before x ≡ Some tt → infer program before e ≡ Some y → after ≡ before ++ variable x y.kind →
    let_step program before x e ≡ Some (record { stmt = syntax.Let x y.expr; after = after })
let_gives program before after x e y new some is = both (fresh before x) tt _ _ new (both (infer program before e) y _ _ some (ap (λ z. Some (record { stmt = syntax.Let x y.expr; after = z })) (sym is)))

module _ (program : parsed.Program) (function : parsed.Function) where
  ends_as : (before : Context) (s : Stmt) (r : Stepped) → Some (record { stmt = s; after = before }) ≡ Some r → Extends before r.after
  ends_as before s r e = itself before r.after (sym (ap (λ (x : Stepped). x.after) (some_is _ _ e)))

  print_extends : (b : Bool) (before : Context) (e : parsed.Expr) (r : Stepped) → (if b then (infer program before e >>= λ c. if has_reference c.kind then None else Some (record { stmt = syntax.Print c.expr; after = before })) else None) ≡ Some r → Extends before r.after
  print_extends false before e r h = absurd (cc)
  print_extends true before e r h = let i = bind_some (infer program before e) _ r h in printed (has_reference i.0.kind) i.0 i.2
    where
      printed : (b : Bool) (c : Typing) → (if b then None else Some (record { stmt = syntax.Print c.expr; after = before })) ≡ Some r → Extends before r.after
      printed true c k = absurd (cc)
      printed false c k = ends_as before (syntax.Print c.expr) r k

  step_extends : (s : parsed.Stmt) (before : Context) (r : Stepped) → step_of program function s before ≡ Some r → Extends before r.after
  step_extends (parsed.Let x e) before r h =
      let f = bind_some (fresh before x) _ r h in let i = bind_some (infer program before e) _ r f.2 in
      (variable x i.0.kind, sym (ap (λ (y : Stepped). y.after) (some_is _ _ i.2)))
  step_extends (parsed.LetCall x others g args) before r h =
      let n = bind_some (new_names before [] (x ∷ others)) _ r h in let f = bind_some (callee program g (length others) (count args)) _ r n.2 in
      let cs = bind_some (infer_arguments program before args f.0.parameters) _ r f.2 in let b = behind before (x ∷ others) (f.0.result ∷ f.0.others) in
      (b.0, sym (ap (λ (y : Stepped). y.after) (some_is _ _ cs.2)) ∙ b.1)
  step_extends (parsed.LetRemote x others k g args) before r h =
      let n = bind_some (new_names before [] (x ∷ others)) _ r h in let few = bind_some (retries_within k) _ r n.2 in
      let f = bind_some (callee program g (length others) (count args)) _ r few.2 in let m = bind_some (infer_marked program before args f.0.parameters) _ r f.2 in
      let b = behind before (x ∷ others) (map parsed.RefType (f.0.result ∷ f.0.others)) in (b.0, sym (ap (λ (y : Stepped). y.after) (some_is _ _ m.2)) ∙ b.1)
  step_extends (parsed.Set x e) before r h =
      let k = bind_some (kind_in before x) _ r h in let i = bind_some (infer_as program before k.0 e) _ r k.2 in ends_as before _ r i.2
  step_extends (parsed.If e a) before r h =
      let i = bind_some (infer_as program before Number e) _ r h in let x = bind_some (block_from program function a before) _ r i.2 in ends_as before _ r x.2
  step_extends (parsed.IfElse e a b) before r h =
      let i = bind_some (infer_as program before Number e) _ r h in let x = bind_some (block_from program function a before) _ r i.2 in let y = bind_some (block_from program function b before) _ r x.2 in ends_as before _ r y.2
  step_extends (parsed.For x from to body) before r h =
      let f = bind_some (fresh before x) _ r h in let c = bind_some (infer_as program before Number from) _ r f.2 in let d = bind_some (infer_as program before Number to) _ r c.2 in
      let b = bind_some (block_from program function body (before ++ variable x Number)) _ r d.2 in ends_as before _ r b.2
  step_extends (parsed.Print e) before r h = print_extends (same_name function.name main_name) before e r h
  step_extends (parsed.Return e others) before r h =
      let o = bind_some (only (nat_eq (count others) (length function.others))) _ r h in let i = bind_some (infer_results program before (parsed.also e others) (function.result ∷ function.others)) _ r o.2 in ends_as before _ r i.2

  pub steps_extend : (ss : parsed.Block) (before : Context) (r : Blocked) → steps_of program function ss before ≡ Some r → Extends before r.after
  steps_extend parsed.no_stmt before r h = itself before r.after (sym (ap (λ (x : Blocked). x.after) (some_is _ _ h)))
  steps_extend (parsed.stmt s rest) before r h =
      let c = bind_some (step_of program function s before) _ r h in let b = bind_some (steps_of program function rest c.0.after) _ r c.2 in
      let first = step_extends s before c.0 c.1 in let others = steps_extend rest c.0.after b.0 b.1 in
      (first.0 ++ others.0, sym (ap (λ (x : Blocked). x.after) (some_is _ _ b.2)) ∙ others.1 ∙ ap (λ x. x ++ others.0) first.1 ∙ append_assoc before first.0 others.0)

  -- an if

  pub if_fails_condition : (e : parsed.Expr) (a : parsed.Block) (o : Option parsed.Block) (before : Context) → infer_as program before Number e ≡ None → step_of program function (branch e a o) before ≡ None
  if_fails_condition e a None before none = neither (infer_as program before Number e) _ none
  if_fails_condition e a (Some b) before none = neither (infer_as program before Number e) _ none

  pub if_fails_first : (e : parsed.Expr) (a : parsed.Block) (o : Option parsed.Block) (before : Context) (c : Expr) → infer_as program before Number e ≡ Some c → block_from program function a before ≡ None → step_of program function (branch e a o) before ≡ None
  if_fails_first e a None before c some none = both (infer_as program before Number e) c _ None some (neither (block_from program function a before) _ none)
  if_fails_first e a (Some b) before c some none = both (infer_as program before Number e) c _ None some (neither (block_from program function a before) _ none)

  pub if_fails_second : (e : parsed.Expr) (a : parsed.Block) (o : Option parsed.Block) (before mid : Context) (c : Expr) (x : Block) → infer_as program before Number e ≡ Some c → block_from program function a before ≡ Some x → mid ≡ before → else_from program function o mid ≡ None →
      step_of program function (branch e a o) before ≡ None
  if_fails_second e a None before mid c x some first same none = absurd (cc)
  if_fails_second e a (Some b) before mid c x some first same none =
      both (infer_as program before Number e) c _ None some (both (block_from program function a before) x _ None first (neither (block_from program function b before) _ (ap (block_from program function b) (sym same) ∙ none)))

  pub if_gives : (e : parsed.Expr) (a : parsed.Block) (o : Option parsed.Block) (before mid after : Context) (c : Expr) (x y : Block) → infer_as program before Number e ≡ Some c → block_from program function a before ≡ Some x → mid ≡ before → else_from program function o mid ≡ Some y → after ≡ mid →
      step_of program function (branch e a o) before ≡ Some (record { stmt = syntax.If c x y; after = after })
  if_gives e a None before mid after c x y some first same second end =
      both (infer_as program before Number e) c _ _ some (both (block_from program function a before) x _ _ first (ap (λ z. Some (record { stmt = syntax.If c x z; after = before })) (some_is _ _ second) ∙ ap (λ z. Some (record { stmt = syntax.If c x y; after = z })) (sym (end ∙ same))))
  if_gives e a (Some b) before mid after c x y some first same second end =
      both (infer_as program before Number e) c _ _ some (both (block_from program function a before) x _ _ first (both (block_from program function b before) y _ _ (ap (block_from program function b) (sym same) ∙ second) (ap (λ z. Some (record { stmt = syntax.If c x y; after = z })) (sym (end ∙ same)))))

  -- a loop

  pub for_fails_from : (x : Name) (from to : parsed.Expr) (body : parsed.Block) (before : Context) → fresh before x ≡ Some tt → infer_as program before Number from ≡ None → step_of program function (parsed.For x from to body) before ≡ None
  for_fails_from x from to body before new none = both (fresh before x) tt _ None new (neither (infer_as program before Number from) _ none)

  pub for_fails_to : (x : Name) (from to : parsed.Expr) (body : parsed.Block) (before : Context) (c : Expr) → fresh before x ≡ Some tt → infer_as program before Number from ≡ Some c → infer_as program before Number to ≡ None → step_of program function (parsed.For x from to body) before ≡ None
  for_fails_to x from to body before c new some none = both (fresh before x) tt _ None new (both (infer_as program before Number from) c _ None some (neither (infer_as program before Number to) _ none))

  pub for_fails_body : (x : Name) (from to : parsed.Expr) (body : parsed.Block) (before : Context) (c d : Expr) → fresh before x ≡ Some tt → infer_as program before Number from ≡ Some c → infer_as program before Number to ≡ Some d →
      block_from program function body (before ++ variable x Number) ≡ None → step_of program function (parsed.For x from to body) before ≡ None
  for_fails_body x from to body before c d new some more none =
      both (fresh before x) tt _ None new (both (infer_as program before Number from) c _ None some (both (infer_as program before Number to) d _ None more (neither (block_from program function body (before ++ variable x Number)) _ none)))

  pub for_gives : (x : Name) (from to : parsed.Expr) (body : parsed.Block) (before after : Context) (c d : Expr) (b : Block) → fresh before x ≡ Some tt → infer_as program before Number from ≡ Some c → infer_as program before Number to ≡ Some d →
      block_from program function body (before ++ variable x Number) ≡ Some b → after ≡ before → step_of program function (parsed.For x from to body) before ≡ Some (record { stmt = syntax.For x c d b; after = after })
  for_gives x from to body before after c d b new some more inside same =
      both (fresh before x) tt _ _ new (both (infer_as program before Number from) c _ _ some (both (infer_as program before Number to) d _ _ more (both (block_from program function body (before ++ variable x Number)) b _ _ inside (ap (λ z. Some (record { stmt = syntax.For x c d b; after = z })) (sym same)))))

  -- statements in order

  joined_snoc : (cs : List CheckedStatement) (c : CheckedStatement) (b : Block) → joined_steps (cs ++ c ∷ []) b ≡ joined_steps cs (step (checked_statement c) b)
  joined_snoc [] c b = refl
  joined_snoc (d ∷ cs) c b = ap (step (checked_statement d)) (joined_snoc cs c b)

  joined_end : (cs : List CheckedStatement) → joined_steps cs done ≡ checked_statements cs
  joined_end [] = refl
  joined_end (c ∷ cs) = ap (step (checked_statement c)) (joined_end cs)

  onto_more : (cs : List CheckedStatement) (c : CheckedStatement) (o : Option Blocked) → onto_steps cs (o >>= λ b. Some (record { block = step (checked_statement c) b.block; after = b.after })) ≡ onto_steps (cs ++ c ∷ []) o
  onto_more cs c None = refl
  onto_more cs c (Some b) = ap (λ z. Some (record { block = z; after = b.after })) (sym (joined_snoc cs c b.block))

  pub statements_fail : (cs : List CheckedStatement) (ss : List Statement) (i : ℕ) (s : Statement) (before : Context) (whole : Option Blocked) → i < length ss → s ≡ get_or ss i s →
      onto_steps cs (steps_of program function (statements_of (drop i ss)) before) ≡ whole → step_of program function (statement_of s) before ≡ None → whole ≡ None
  statements_fail cs ss i s before whole h e so none =
      sym so ∙ ap (λ ys. onto_steps cs (steps_of program function (statements_of ys) before)) (here ss i s h e) ∙ ap (onto_steps cs) (neither (step_of program function (statement_of s) before) _ none)

  pub statements_step : (cs : List CheckedStatement) (c : CheckedStatement) (ss : List Statement) (i : ℕ) (s : Statement) (before after : Context) (whole : Option Blocked) → i < length ss → s ≡ get_or ss i s →
      onto_steps cs (steps_of program function (statements_of (drop i ss)) before) ≡ whole → step_of program function (statement_of s) before ≡ Some (record { stmt = checked_statement c; after = after }) →
      onto_steps (cs ++ c ∷ []) (steps_of program function (statements_of (drop (i + 1) ss)) after) ≡ whole
  statements_step cs c ss i s before after whole h e so some =
      sym (onto_more cs c (steps_of program function (statements_of (drop (i + 1) ss)) after))
      ∙ sym (ap (λ ys. onto_steps cs (steps_of program function (statements_of ys) before)) (here ss i s h e) ∙ ap (onto_steps cs) (both (step_of program function (statement_of s) before) (record { stmt = checked_statement c; after = after }) _ _ some refl)) ∙ so

  pub statements_end : (cs : List CheckedStatement) (ss : List Statement) (i : ℕ) (before : Context) (whole : Option Blocked) → length ss ≤ i →
      onto_steps cs (steps_of program function (statements_of (drop i ss)) before) ≡ whole → whole ≡ Some (record { block = checked_statements cs; after = before })
  statements_end cs ss i before whole h so =
      sym so ∙ ap (λ ys. onto_steps cs (steps_of program function (statements_of ys) before)) (drop_end ss i h) ∙ ap (λ z. Some (record { block = z; after = before })) (joined_end cs)
