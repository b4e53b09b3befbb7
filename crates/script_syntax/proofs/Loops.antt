-- What the loops of the parser keep: there is enough fuel for what is left, and going on gives what the whole gives.
use Rattle.std.proofs.Common.{◌≡◌, ◌≤◌, ◌<◌, ℕ, zero, suc, ◌+◌, List, [], ◌∷◌, length, Option, Some, None, map, refl, sym, ◌∙◌, arith}
use Rattle.std.proofs.lemmas.List.{length-map}
use Rattle.script_tokens.specs.declared.token.Placed.{Placed}
use Rattle.script_tokens.specs.declared.token.Mark.TheVariants as marks
use Rattle.script_syntax.specs.declared.refusal.Refusal.{Refusal}
use Rattle.script_syntax.specs.declared.refusal.Refusal.TheVariants as refusals
use Rattle.script_tokens.specs.Tokens.{Name, Token}
use Rattle.script_tokens.specs.Views.{token_of, tokens_of}
use Rattle.script_syntax.specs.declared.tree.Expr.{Expr}
use Rattle.script_syntax.specs.Trees.{Expr as ATree, Binary, Item, Kind, Exprs, Stmt, Block, no_stmt, Parameter, Function}
use Rattle.script_syntax.specs.declared.tree.Name.{Name as CodeName}
use Rattle.script_syntax.specs.declared.tree.ValueType.{ValueType}
use Rattle.script_syntax.specs.declared.tree.Parameter.{Parameter as CodeParameter}
use Rattle.script_syntax.specs.declared.tree.Function.{Function as CodeFunction}
use Rattle.script_syntax.specs.Views.{name_of, type_of, tree_of, trees_of, parameter_of, program_of}
use Rattle.script_syntax.specs.Reading.{Reader, ◌>>=◌, Fails, after, before, adding, multiplying, chain, product, sum, expression, items, and_expr, primary, postfix, enclosed, unless, unless_end, named, other_kinds, other_names, other_values, statements, and_stmt, and_item, parameter, some_parameters, function, program}

pub record ChainSoFar {X A L : Type 0} (opens : Reader X) (item : Reader A) (join : X → L → A → L) (left : L) (rest : List Placed) (total : Option (L × List Token)) : Type 0 where
  pub fuel : ℕ
  pub enough : length rest ≤ fuel
  pub same : chain opens item join fuel left (tokens_of rest) ≡ total

pub chain_begins : {X A L : Type 0} (opens : Reader X) (item : Reader A) (join : X → L → A → L) (left : L) (rest : List Placed) (total : Option (L × List Token))
    → chain opens item join (length (tokens_of rest)) left (tokens_of rest) ≡ total → ChainSoFar opens item join left rest total
chain_begins opens item join left rest total e = record { fuel = length (tokens_of rest); enough = omega (arith, length-map rest (λ (p : Placed). token_of p.token)); same = e }

pub chain_stops : {X A L : Type 0} (opens : Reader X) (item : Reader A) (join : X → L → A → L) (n : ℕ) (left : L) (rest : List Token) → opens rest ≡ None → chain opens item join n left rest ≡ Some (left, rest)
unfolding chain
chain_stops opens item join zero left rest e = rw e refl
chain_stops opens item join (suc n) left rest e = rw e refl

pub chain_ends : {X A L : Type 0} (opens : Reader X) (item : Reader A) (join : X → L → A → L) (left : L) (rest : List Placed) (total : Option (L × List Token))
    → ChainSoFar opens item join left rest total → opens (tokens_of rest) ≡ None → total ≡ Some (left, tokens_of rest)
chain_ends opens item join left rest total h e = sym h.same ∙ chain_stops opens item join h.fuel left (tokens_of rest) e

pub chain_one : {X A L : Type 0} (opens : Reader X) (item : Reader A) (join : X → L → A → L) (n : ℕ) (left : L) (op : X) (b : A) (rest more following : List Token)
    → opens rest ≡ Some (op, more) → item more ≡ Some (b, following) → chain opens item join (suc n) left rest ≡ chain opens item join n (join op left b) following
unfolding chain
chain_one opens item join n left op b rest more following e f = rw (e, f) refl

pub chain_steps : {X A L : Type 0} (opens : Reader X) (item : Reader A) (join : X → L → A → L) (left : L) (op : X) (b : A) (rest : List Placed) (more : List Token) (following : List Placed) (total : Option (L × List Token))
    → ChainSoFar opens item join left rest total → opens (tokens_of rest) ≡ Some (op, more) → item more ≡ Some (b, tokens_of following) → length following < length rest
    → ChainSoFar opens item join (join op left b) following total
chain_steps opens item join left op b rest more following total h next given fewer = step h.fuel h.enough h.same
  where
    step : (n : ℕ) → length rest ≤ n → chain opens item join n left (tokens_of rest) ≡ total → ChainSoFar opens item join (join op left b) following total
    step zero enough same = absurd (omega (arith, enough, fewer))
    step (suc n) enough same = record { fuel = n; enough = omega (arith, enough, fewer); same = sym (chain_one opens item join n left op b (tokens_of rest) more (tokens_of following) next given) ∙ same }

pub chain_stuck : {X A L : Type 0} (opens : Reader X) (item : Reader A) (join : X → L → A → L) (n : ℕ) (left : L) (op : X) (rest more : List Token)
    → opens rest ≡ Some (op, more) → item more ≡ None → chain opens item join n left rest ≡ None
unfolding chain
chain_stuck opens item join zero left op rest more e f = rw e refl
chain_stuck opens item join (suc n) left op rest more e f = rw (e, f) refl

pub none_fails : {Y : Type 0} (e : Refusal) (found : Option Y) → found ≡ None → Fails e found
none_fails refusals.NoMemory found h = tt
none_fails (refusals.Expected s) found h = h
none_fails (refusals.TooLarge s) found h = h

-- where one fails, so does the other
pub fails_on : {Y Z : Type 0} (e : Refusal) (a : Option Y) (b : Option Z) → (a ≡ None → b ≡ None) → Fails e a → Fails e b
fails_on refusals.NoMemory a b f h = tt
fails_on (refusals.Expected s) a b f h = f h
fails_on (refusals.TooLarge s) a b f h = f h

pub chain_fails : {X A L : Type 0} (opens : Reader X) (item : Reader A) (join : X → L → A → L) (left : L) (op : X) (rest : List Placed) (more : List Token) (total : Option (L × List Token)) (e : Refusal)
    → ChainSoFar opens item join left rest total → opens (tokens_of rest) ≡ Some (op, more) → Fails e (item more) → Fails e total
chain_fails opens item join left op rest more total e h next given =
    fails_on e (item more) total (λ (f : item more ≡ None). sym h.same ∙ chain_stuck opens item join h.fuel left op (tokens_of rest) more next f) given

pub bind_fails : {A B : Type 0} (e : Refusal) (r : Option A) (f : A → Option B) → Fails e r → Fails e (r >>= f)
bind_fails e r f h = fails_on e r (r >>= f) (λ (none : r ≡ None). rw none refl) h

-- ---- how each loop begins

pub product_begins : (u : Reader ATree) (a : ATree) (rest tokens : List Placed) → u (tokens_of tokens) ≡ Some (a, tokens_of rest) → ChainSoFar multiplying u Binary a rest (product u (tokens_of tokens))
unfolding product
product_begins u a rest tokens e = chain_begins multiplying u Binary a rest _ (rw e refl)

pub product_fails : (u : Reader ATree) (tokens : List Token) (e : Refusal) → Fails e (u tokens) → Fails e (product u tokens)
unfolding product
product_fails u tokens e h = bind_fails e (u tokens) _ h

pub sum_begins : (u : Reader ATree) (a : ATree) (rest tokens : List Placed) → product u (tokens_of tokens) ≡ Some (a, tokens_of rest) → ChainSoFar adding (product u) Binary a rest (sum u (tokens_of tokens))
unfolding sum
sum_begins u a rest tokens e = chain_begins adding (product u) Binary a rest _ (rw e refl)

pub sum_fails : (u : Reader ATree) (tokens : List Token) (e : Refusal) → Fails e (product u tokens) → Fails e (sum u tokens)
unfolding sum
sum_fails u tokens e h = bind_fails e (product u tokens) _ h

abbrev pub and_next : Unit {0} → Exprs → ATree → Exprs
and_next _ = and_expr

pub items_begin : (u : Reader ATree) (a : Expr) (rest tokens : List Placed) → expression u (tokens_of tokens) ≡ Some (tree_of a, tokens_of rest) → ChainSoFar (after marks.Comma) (expression u) and_next (trees_of (a ∷ [])) rest (items u (tokens_of tokens))
unfolding items
items_begin u a rest tokens e = chain_begins (after marks.Comma) (expression u) and_next (trees_of (a ∷ [])) rest _ (rw e refl)

pub items_fail : (u : Reader ATree) (tokens : List Token) (e : Refusal) → Fails e (expression u tokens) → Fails e (items u tokens)
unfolding items
items_fail u tokens e h = bind_fails e (expression u tokens) _ h

abbrev pub item_of : Unit {0} → ATree → ATree → ATree
item_of _ = Item

abbrev pub IndexesSoFar : Option (Reader ATree) → ATree → List Placed → Option (ATree × List Token) → Type 0
IndexesSoFar d left rest total = ChainSoFar (before marks.OpenBracket) (enclosed d marks.OpenBracket marks.CloseBracket) item_of left rest total

pub postfix_begins : (k : Reader Kind) (d : Option (Reader ATree)) (a : ATree) (rest tokens : List Placed) → primary k d (tokens_of tokens) ≡ Some (a, tokens_of rest) → IndexesSoFar d a rest (postfix k d (tokens_of tokens))
unfolding postfix
postfix_begins k d a rest tokens e = chain_begins (before marks.OpenBracket) (enclosed d marks.OpenBracket marks.CloseBracket) item_of a rest _ (rw e refl)

pub postfix_fails : (k : Reader Kind) (d : Option (Reader ATree)) (tokens : List Token) (e : Refusal) → Fails e (primary k d tokens) → Fails e (postfix k d tokens)
unfolding postfix
postfix_fails k d tokens e h = bind_fails e (primary k d tokens) _ h

abbrev pub and_later : Unit {0} → Block → Stmt → Block
and_later _ = and_stmt

pub statements_begin : (read : Reader Stmt) (tokens : List Placed) → ChainSoFar (unless marks.CloseBrace) read and_later no_stmt tokens (statements read (tokens_of tokens))
unfolding statements
statements_begin read tokens = chain_begins (unless marks.CloseBrace) read and_later no_stmt tokens _ refl

-- ---- loops of so many turns at most

pub record LimitedSoFar {X A L : Type 0} (opens : Reader X) (item : Reader A) (join : X → L → A → L) (done most : ℕ) (left : L) (rest : List Token) (total : Option (L × List Token)) : Type 0 where
  pub fuel : ℕ
  pub counted : done + fuel ≡ most
  pub same : chain opens item join fuel left rest ≡ total

pub limited_ends : {X A L : Type 0} (opens : Reader X) (item : Reader A) (join : X → L → A → L) (done most : ℕ) (left : L) (rest : List Token) (total : Option (L × List Token))
    → LimitedSoFar opens item join done most left rest total → opens rest ≡ None → total ≡ Some (left, rest)
limited_ends opens item join done most left rest total h e = sym h.same ∙ chain_stops opens item join h.fuel left rest e

pub limited_steps : {X A L : Type 0} (opens : Reader X) (item : Reader A) (join : X → L → A → L) (done most : ℕ) (left : L) (op : X) (b : A) (rest more following : List Token) (total : Option (L × List Token))
    → LimitedSoFar opens item join done most left rest total → opens rest ≡ Some (op, more) → item more ≡ Some (b, following) → done < most
    → LimitedSoFar opens item join (done + 1) most (join op left b) following total
limited_steps opens item join done most left op b rest more following total h next given few = step h.fuel h.counted h.same
  where
    step : (n : ℕ) → done + n ≡ most → chain opens item join n left rest ≡ total → LimitedSoFar opens item join (done + 1) most (join op left b) following total
    step zero counted same = absurd (omega (arith, counted, few))
    step (suc n) counted same = record { fuel = n; counted = omega (arith, counted); same = sym (chain_one opens item join n left op b rest more following next given) ∙ same }

pub limited_fails : {X A L : Type 0} (opens : Reader X) (item : Reader A) (join : X → L → A → L) (done most : ℕ) (left : L) (op : X) (rest more : List Token) (total : Option (L × List Token)) (e : Refusal)
    → LimitedSoFar opens item join done most left rest total → opens rest ≡ Some (op, more) → Fails e (item more) → Fails e total
limited_fails opens item join done most left op rest more total e h next given =
    fails_on e (item more) total (λ (f : item more ≡ None). sym h.same ∙ chain_stuck opens item join h.fuel left op rest more next f) given

chain_full : {X A L : Type 0} (opens : Reader X) (item : Reader A) (join : X → L → A → L) (n : ℕ) (left : L) (op : X) (rest more : List Token) → n ≡ 0 → opens rest ≡ Some (op, more) → chain opens item join n left rest ≡ None
unfolding chain
chain_full opens item join zero left op rest more z e = rw e refl
chain_full opens item join (suc n) left op rest more z e = absurd (omega (arith, z))

pub limited_full : {X A L : Type 0} (opens : Reader X) (item : Reader A) (join : X → L → A → L) (done most : ℕ) (left : L) (op : X) (rest more : List Token) (total : Option (L × List Token)) (e : Refusal)
    → LimitedSoFar opens item join done most left rest total → opens rest ≡ Some (op, more) → done ≡ most → Fails e total
limited_full opens item join done most left op rest more total e h next full =
    none_fails e total (sym h.same ∙ chain_full opens item join h.fuel left op rest more (omega (arith, h.counted, full)) next)

abbrev pub and_also : {A : Type 0} → Unit {0} → List A → A → List A
and_also _ = and_item

abbrev pub ParametersSoFar : Reader Kind → List CodeParameter → List Placed → Option (List Parameter × List Token) → Type 0
ParametersSoFar kind ps rest total = LimitedSoFar (after marks.Comma) (parameter kind) and_also (length ps) 16 (map parameter_of ps) (tokens_of rest) total

pub parameters_begin : (kind : Reader Kind) (p : CodeParameter) (rest tokens : List Placed) → parameter kind (tokens_of tokens) ≡ Some (parameter_of p, tokens_of rest) → ParametersSoFar kind (p ∷ []) rest (some_parameters kind (tokens_of tokens))
unfolding some_parameters
parameters_begin kind p rest tokens e = record { fuel = 15; counted = refl; same = rw e refl }

pub parameters_fail : (kind : Reader Kind) (tokens : List Token) (e : Refusal) → Fails e (parameter kind tokens) → Fails e (some_parameters kind tokens)
unfolding some_parameters
parameters_fail kind tokens e h = bind_fails e (parameter kind tokens) _ h

abbrev pub FunctionsSoFar : List CodeFunction → List Placed → Option (List Function × List Token) → Type 0
FunctionsSoFar gs rest total = LimitedSoFar unless_end function and_also (length gs) 64 (program_of gs) (tokens_of rest) total

abbrev pub all_functions : List Token → Option (List Function × List Token)
all_functions tokens = chain unless_end function and_also 64 [] tokens

pub functions_begin : (tokens : List Placed) → FunctionsSoFar [] tokens (all_functions (tokens_of tokens))
functions_begin tokens = record { fuel = 64; counted = refl; same = refl }

pub program_is : (tokens : List Token) (gs : List Function) (rest : List Token) → all_functions tokens ≡ Some (gs, rest) → program tokens ≡ Some gs
unfolding program
program_is tokens gs rest e = rw e refl

pub program_fails : (tokens : List Token) (e : Refusal) → Fails e (all_functions tokens) → Fails e (program tokens)
unfolding program
program_fails tokens e h = bind_fails e (all_functions tokens) _ h

-- ---- further names, types and values: three at most

abbrev pub NamesSoFar : List CodeName → List Placed → Option (List Name × List Token) → Type 0
NamesSoFar xs rest total = LimitedSoFar (after marks.Comma) named and_also (length xs) 3 (map name_of xs) (tokens_of rest) total

pub names_begin : (tokens : List Placed) → NamesSoFar [] tokens (other_names (tokens_of tokens))
unfolding other_names
names_begin tokens = record { fuel = 3; counted = refl; same = refl }

abbrev pub KindsSoFar : Reader Kind → List ValueType → List Placed → Option (List Kind × List Token) → Type 0
KindsSoFar kind ts rest total = LimitedSoFar (after marks.Comma) kind and_also (length ts) 3 (map type_of ts) (tokens_of rest) total

pub kinds_begin : (kind : Reader Kind) (tokens : List Placed) → KindsSoFar kind [] tokens (other_kinds kind (tokens_of tokens))
unfolding other_kinds
kinds_begin kind tokens = record { fuel = 3; counted = refl; same = refl }

abbrev pub ValuesSoFar : Reader ATree → List Expr → List Placed → Option (Exprs × List Token) → Type 0
ValuesSoFar outer es rest total = LimitedSoFar (after marks.Comma) outer and_next (length es) 3 (trees_of es) (tokens_of rest) total

pub values_begin : (outer : Reader ATree) (tokens : List Placed) → ValuesSoFar outer [] tokens (other_values outer (tokens_of tokens))
unfolding other_values
values_begin outer tokens = record { fuel = 3; counted = refl; same = refl }
