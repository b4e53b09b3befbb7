-- What is read as an expression is derived.
use Rattle.std.proofs.Common.{◌≡◌, ℕ, zero, suc, List, [], ◌∷◌, length, Option, Some, None, refl, sym, ap, subst, ◌∙◌, inl, inr}
use Rattle.script_tokens.specs.declared.token.Mark.TheVariants as marks
use Rattle.script_tokens.specs.declared.token.Mark.{Mark}
use Rattle.script_syntax.specs.declared.tree.BinaryOperator.{BinaryOperator}
use Rattle.script_syntax.specs.declared.tree.Prefix.{Prefix}
use Rattle.script_tokens.specs.Tokens.{Name, Token, number, name, mark}
use Rattle.script_syntax.specs.Trees.{Kind, IntType, ListType, RefType, Expr, Number, Variable, Prefixed, Binary, Item, ListOf, Empty, Call, Remote, Len, Push, Exprs, no_expr, also}
use Rattle.script_syntax.specs.Operators.{comparison_mark, additive_mark, additive, multiplicative_mark, multiplicative, prefix_mark}
use Rattle.script_syntax.specs.Expressions.{Expression, Single, Compared, SumOf, no_addend, addend, ProductOf, no_factor, factor, PrefixOf, Plain, PostfixOf, no_index, index, Int, Named, CallOf, RemoteOf, Listed, EmptyOf, Enclosed, LenOf, PushOf, Arguments, no_argument, ArgumentsOf, MoreArguments, last_argument, argument}
use Rattle.script_syntax.specs.Expressions.{Deeper, kind_before, KindWithin, retries_before, RetriesWithin, expression_before, sum_before, addends_before, product_before, factors_before, unary_before, postfix_before, indexes_before, primary_before, arguments_before, more_before}
use Rattle.script_syntax.specs.Expressions.{expression_tree, sum_tree, addends_tree, product_tree, factors_tree, unary_tree, postfix_tree, indexes_tree, primary_tree, argument_trees, more_trees}
use Rattle.script_syntax.specs.Expressions.{ExpressionWithin, SumWithin, AddendsWithin, ProductWithin, FactorsWithin, UnaryWithin, PostfixWithin, IndexesWithin, PrimaryWithin, ArgumentsWithin, MoreWithin}
use Rattle.script_syntax.specs.Reading.{Reader, ◌>>=◌, choose, after, before, numbered, named, adding, multiplying, comparing, prefixing, kind, deeper_kind, kind_at, product, sum, expression, items, arguments, enclosed, retries, pair, primary, postfix, unary, deeper, unary_at, expression_at}
use Rattle.script_syntax.proofs.Loops.{and_next, item_of}
use Rattle.script_syntax.proofs.Steps.{Read}
use Rattle.script_syntax.proofs.Complete.{appended, appended_none, appended_and}
use Rattle.script_syntax.proofs.Found.{some_is, bind_some, choose_some, Derived, after_is, before_is, numbered_is, named_is, adding_is, multiplying_is, comparing_is, prefixing_is, ChainWords, chain_found}

-- the parts of a result
snd_is : {A : Type 0} (x y : A × List Token) → x ≡ y → x.1 ≡ y.1
snd_is {A = A} x y e = ap (λ (p : A × List Token). p.1) e

fst_is : {A : Type 0} (x y : A × List Token) → x ≡ y → x.0 ≡ y.0
fst_is {A = A} x y e = ap (λ (p : A × List Token). p.0) e

-- ---- types

abbrev IsSoundKind : Reader Kind → ℕ → Type 0
IsSoundKind k levels = (tokens : List Token) (t : Kind) (rest : List Token) → k tokens ≡ Some (t, rest) → (tokens ≡ kind_before t rest) × KindWithin t levels

abbrev IsSoundKindBelow : Option (Reader Kind) → ℕ → Type 0
IsSoundKindBelow None zero = Unit {0}
IsSoundKindBelow None (suc levels) = ⊥
IsSoundKindBelow (Some k) zero = ⊥
IsSoundKindBelow (Some k) (suc levels) = IsSoundKind k levels

kind_list : (d : Option (Reader Kind)) (levels : ℕ) → IsSoundKindBelow d levels → (more : List Token) (t : Kind) (rest : List Token)
    → (d >>= λ read. read more >>= λ a. after marks.CloseBracket a.1 >>= λ q. Read (ListType a.0) q.1) ≡ Some (t, rest) → (mark marks.OpenBracket ∷ more ≡ kind_before t rest) × KindWithin t levels
kind_list None levels sound more t rest e = absurd cc
kind_list (Some k) zero sound more t rest e = absurd sound
kind_list (Some k) (suc levels) sound more t rest e =
    let b = bind_some (k more) _ (t, rest) e in
    let c = bind_some (after marks.CloseBracket b.0.1) _ (t, rest) b.2 in
    let p : (ListType b.0.0, c.0.1) ≡ (t, rest) = some_is (ListType b.0.0, c.0.1) (t, rest) c.2 in
    let s = sound more b.0.0 b.0.1 b.1 in
    let all : mark marks.OpenBracket ∷ more ≡ kind_before (ListType b.0.0) c.0.1 = ap (λ (r : List Token). mark marks.OpenBracket ∷ r) (s.0 ∙ ap (kind_before b.0.0) (after_is marks.CloseBracket b.0.1 c.0 c.1)) in
    (all ∙ ap (λ (x : Kind × List Token). kind_before x.0 x.1) p, subst (λ (x : Kind × List Token). KindWithin x.0 (suc levels)) p s.1)

kind_ref : (d : Option (Reader Kind)) (levels : ℕ) → IsSoundKindBelow d levels → (more : List Token) (t : Kind) (rest : List Token)
    → (d >>= λ read. read more >>= λ a. Read (RefType a.0) a.1) ≡ Some (t, rest) → (mark marks.Ref ∷ more ≡ kind_before t rest) × KindWithin t levels
kind_ref None levels sound more t rest e = absurd cc
kind_ref (Some k) zero sound more t rest e = absurd sound
kind_ref (Some k) (suc levels) sound more t rest e =
    let b = bind_some (k more) _ (t, rest) e in
    let p : (RefType b.0.0, b.0.1) ≡ (t, rest) = some_is (RefType b.0.0, b.0.1) (t, rest) b.2 in
    let s = sound more b.0.0 b.0.1 b.1 in
    (ap (λ (r : List Token). mark marks.Ref ∷ r) s.0 ∙ ap (λ (x : Kind × List Token). kind_before x.0 x.1) p, subst (λ (x : Kind × List Token). KindWithin x.0 (suc levels)) p s.1)

kind_found : (d : Option (Reader Kind)) (levels : ℕ) → IsSoundKindBelow d levels → IsSoundKind (kind d) levels
unfolding kind
kind_found d levels sound [] t rest e = absurd cc
kind_found d levels sound (mark marks.Int ∷ more) t rest e =
    let p : (IntType, more) ≡ (t, rest) = some_is (IntType, more) (t, rest) e in
    (ap (λ (x : Kind × List Token). kind_before x.0 x.1) p, subst (λ (x : Kind × List Token). KindWithin x.0 levels) p tt)
kind_found d levels sound (mark marks.OpenBracket ∷ more) t rest e = kind_list d levels sound more t rest e
kind_found d levels sound (mark marks.Ref ∷ more) t rest e = kind_ref d levels sound more t rest e
kind_found d levels sound (other ∷ more) t rest e = absurd cc

deeper_kind_found : (levels : ℕ) → IsSoundKindBelow (deeper_kind levels) levels
unfolding deeper_kind
deeper_kind_found zero = tt
deeper_kind_found (suc levels) = kind_found (deeper_kind levels) levels (deeper_kind_found levels)

pub kind_at_found : (levels : ℕ) → IsSoundKind (kind_at levels) levels
kind_at_found levels = kind_found (deeper_kind levels) levels (deeper_kind_found levels)

-- ---- sums and products

abbrev IsSound : Reader Expr → ℕ → Type 0
IsSound u levels = (tokens : List Token) (a : Expr) (rest : List Token) → u tokens ≡ Some (a, rest) → Derived unary_before unary_tree (λ w. UnaryWithin w levels) tokens a rest

factor_words : (u : Reader Expr) (levels : ℕ) → IsSound u levels → ChainWords multiplying u Binary factors_before factors_tree (λ w. FactorsWithin w levels)
factor_words u levels sound = record {
  none = no_factor;
  none_spelled = λ rest. refl;
  none_given = λ left. refl;
  none_within = tt;
  more = λ tokens x o y i w h.
      let m = multiplying_is tokens x o in
      let first = sound x.1 y.0 y.1 i in (
        factor m.0 first.word w,
        λ rest s. m.2 ∙ ap (λ (r : List Token). mark (multiplicative_mark m.0) ∷ r) (first.spelled ∙ ap (unary_before first.word) s),
        λ left. ap (λ (t : Expr). factors_tree w (Binary (multiplicative m.0) left t)) first.given ∙ ap (λ (o : BinaryOperator). factors_tree w (Binary o left y.0)) m.1,
        (first.nesting, h),
      );
}

product_found : (u : Reader Expr) (levels : ℕ) → IsSound u levels → (tokens : List Token) (a : Expr) (rest : List Token) → product u tokens ≡ Some (a, rest)
    → Derived product_before product_tree (λ w. ProductWithin w levels) tokens a rest
unfolding product
product_found u levels sound tokens a rest e =
    let b = bind_some (u tokens) _ (a, rest) e in
    let first = sound tokens b.0.0 b.0.1 b.1 in
    let others = chain_found multiplying u Binary factors_before factors_tree (λ w. FactorsWithin w levels) (factor_words u levels sound) (length b.0.1) b.0.0 b.0.1 a rest b.2 in
    record {
      word = ProductOf first.word others.word;
      spelled = first.spelled ∙ ap (unary_before first.word) others.spelled;
      given = ap (factors_tree others.word) first.given ∙ others.given;
      nesting = (first.nesting, others.nesting);
    }

addend_words : (u : Reader Expr) (levels : ℕ) → IsSound u levels → ChainWords adding (product u) Binary addends_before addends_tree (λ w. AddendsWithin w levels)
addend_words u levels sound = record {
  none = no_addend;
  none_spelled = λ rest. refl;
  none_given = λ left. refl;
  none_within = tt;
  more = λ tokens x o y i w h.
      let m = adding_is tokens x o in
      let first = product_found u levels sound x.1 y.0 y.1 i in (
        addend m.0 first.word w,
        λ rest s. m.2 ∙ ap (λ (r : List Token). mark (additive_mark m.0) ∷ r) (first.spelled ∙ ap (product_before first.word) s),
        λ left. ap (λ (t : Expr). addends_tree w (Binary (additive m.0) left t)) first.given ∙ ap (λ (o : BinaryOperator). addends_tree w (Binary o left y.0)) m.1,
        (first.nesting, h),
      );
}

sum_found : (u : Reader Expr) (levels : ℕ) → IsSound u levels → (tokens : List Token) (a : Expr) (rest : List Token) → sum u tokens ≡ Some (a, rest)
    → Derived sum_before sum_tree (λ w. SumWithin w levels) tokens a rest
unfolding sum
sum_found u levels sound tokens a rest e =
    let b = bind_some (product u tokens) _ (a, rest) e in
    let first = product_found u levels sound tokens b.0.0 b.0.1 b.1 in
    let others = chain_found adding (product u) Binary addends_before addends_tree (λ w. AddendsWithin w levels) (addend_words u levels sound) (length b.0.1) b.0.0 b.0.1 a rest b.2 in
    record {
      word = SumOf first.word others.word;
      spelled = first.spelled ∙ ap (product_before first.word) others.spelled;
      given = ap (addends_tree others.word) first.given ∙ others.given;
      nesting = (first.nesting, others.nesting);
    }

abbrev FoundExpression : ℕ → List Token → Expr → List Token → Type 0
FoundExpression levels tokens a rest = Derived expression_before expression_tree (λ w. ExpressionWithin w levels) tokens a rest

pub expression_found : (u : Reader Expr) (levels : ℕ) → IsSound u levels → (tokens : List Token) (a : Expr) (rest : List Token) → expression u tokens ≡ Some (a, rest) → FoundExpression levels tokens a rest
unfolding expression
expression_found u levels sound tokens a rest e =
    let b = bind_some (sum u tokens) _ (a, rest) e in
    let first = sum_found u levels sound tokens b.0.0 b.0.1 b.1 in
    elim (choose_some (comparing b.0.1) (Some b.0) (λ op. sum u op.1 >>= λ c. Some (Binary op.0 b.0.0 c.0, c.1)) (Some (a, rest)) b.2) [
      | inl h ↦
          (let p : b.0 ≡ (a, rest) = some_is b.0 (a, rest) h.1 in
          record {
            word = Single first.word;
            spelled = first.spelled ∙ ap (sum_before first.word) (snd_is b.0 (a, rest) p);
            given = first.given ∙ fst_is b.0 (a, rest) p;
            nesting = first.nesting;
          })
      | inr h ↦
          (let m = comparing_is b.0.1 h.0 h.1 in
          let c = bind_some (sum u h.0.1) _ (a, rest) h.2 in
          let second = sum_found u levels sound h.0.1 c.0.0 c.0.1 c.1 in
          let p : (Binary h.0.0 b.0.0 c.0.0, c.0.1) ≡ (a, rest) = some_is (Binary h.0.0 b.0.0 c.0.0, c.0.1) (a, rest) c.2 in
          record {
            word = Compared m.0 first.word second.word;
            spelled = first.spelled ∙ ap (sum_before first.word) (m.2 ∙ ap (λ (r : List Token). mark (comparison_mark m.0) ∷ r) (second.spelled ∙ ap (λ (x : Expr × List Token). sum_before second.word x.1) p));
            given = ap (λ (o : BinaryOperator). Binary o (sum_tree first.word) (sum_tree second.word)) m.1 ∙ ap (λ (t : Expr). Binary h.0.0 t (sum_tree second.word)) first.given ∙ ap (λ (t : Expr). Binary h.0.0 b.0.0 t) second.given ∙ ap (λ (x : Expr × List Token). x.0) p;
            nesting = (first.nesting, second.nesting);
          })
    ]

-- ---- lists of expressions

abbrev added_trees : MoreArguments → Exprs → Exprs
added_trees w left = appended left (more_trees w)

more_words : (u : Reader Expr) (levels : ℕ) → IsSound u levels → ChainWords (after marks.Comma) (expression u) and_next more_before added_trees (λ w. MoreWithin w levels)
more_words u levels sound = record {
  none = last_argument;
  none_spelled = λ rest. refl;
  none_given = appended_none;
  none_within = tt;
  more = λ tokens x o y i w h.
      let first = expression_found u levels sound x.1 y.0 y.1 i in (
        argument first.word w,
        λ rest s. after_is marks.Comma tokens x o ∙ ap (λ (r : List Token). mark marks.Comma ∷ r) (first.spelled ∙ ap (expression_before first.word) s),
        λ left. ap (λ (t : Expr). appended left (also t (more_trees w))) first.given ∙ sym (appended_and left y.0 (more_trees w)),
        (first.nesting, h),
      );
}

-- one expression or more
abbrev Items : Type 0
Items = Expression × MoreArguments

abbrev items_before : Items → List Token → List Token
items_before w rest = expression_before w.0 (more_before w.1 rest)

abbrev items_tree : Items → Exprs
items_tree w = also (expression_tree w.0) (more_trees w.1)

abbrev ItemsWithin : Items → ℕ → Type 0
ItemsWithin w levels = ExpressionWithin w.0 levels × MoreWithin w.1 levels

items_found : (u : Reader Expr) (levels : ℕ) → IsSound u levels → (tokens : List Token) (a : Exprs) (rest : List Token) → items u tokens ≡ Some (a, rest) → Derived items_before items_tree (λ w. ItemsWithin w levels) tokens a rest
unfolding items
items_found u levels sound tokens a rest e =
    let b = bind_some (expression u tokens) _ (a, rest) e in
    let first = expression_found u levels sound tokens b.0.0 b.0.1 b.1 in
    let others = chain_found (after marks.Comma) (expression u) and_next more_before added_trees (λ w. MoreWithin w levels) (more_words u levels sound) (length b.0.1) (also b.0.0 no_expr) b.0.1 a rest b.2 in
    record {
      word = (first.word, others.word);
      spelled = first.spelled ∙ ap (expression_before first.word) others.spelled;
      given = ap (λ (t : Expr). also t (more_trees others.word)) first.given ∙ others.given;
      nesting = (first.nesting, others.nesting);
    }

-- ---- what is read where one more is open

abbrev IsSoundBelow : Option (Reader Expr) → ℕ → Type 0
IsSoundBelow None zero = Unit {0}
IsSoundBelow None (suc levels) = ⊥
IsSoundBelow (Some u) zero = ⊥
IsSoundBelow (Some u) (suc levels) = IsSound u levels

abbrev pub call_before : Arguments → List Token → List Token
call_before w rest = mark marks.OpenParenthesis ∷ arguments_before w (mark marks.CloseParenthesis ∷ rest)

arguments_below : (d : Option (Reader Expr)) (levels : ℕ) → IsSoundBelow d levels → (more : List Token) (a : Exprs) (rest : List Token)
    → (d >>= λ u. choose (after marks.CloseParenthesis more) (items u more >>= λ es. after marks.CloseParenthesis es.1 >>= λ q. Read es.0 q.1) (λ q. Read no_expr q.1)) ≡ Some (a, rest)
    → Derived call_before argument_trees (λ w. Deeper levels (ArgumentsWithin w)) (mark marks.OpenParenthesis ∷ more) a rest
arguments_below None levels sound more a rest e = absurd cc
arguments_below (Some u) zero sound more a rest e = absurd sound
arguments_below (Some u) (suc levels) sound more a rest e =
    elim (choose_some (after marks.CloseParenthesis more) (items u more >>= λ es. after marks.CloseParenthesis es.1 >>= λ q. Read es.0 q.1) (λ q. Read no_expr q.1) (Some (a, rest)) e) [
      | inl h ↦
          (let b = bind_some (items u more) _ (a, rest) h.1 in
          let c = bind_some (after marks.CloseParenthesis b.0.1) _ (a, rest) b.2 in
          let all = items_found u levels sound more b.0.0 b.0.1 b.1 in
          let p : (b.0.0, c.0.1) ≡ (a, rest) = some_is (b.0.0, c.0.1) (a, rest) c.2 in
          record {
            word = ArgumentsOf all.word.0 all.word.1;
            spelled = ap (λ (r : List Token). mark marks.OpenParenthesis ∷ r) (all.spelled ∙ ap (items_before all.word) (after_is marks.CloseParenthesis b.0.1 c.0 c.1 ∙ ap (λ (x : Exprs × List Token). mark marks.CloseParenthesis ∷ x.1) p));
            given = all.given ∙ ap (λ (x : Exprs × List Token). x.0) p;
            nesting = all.nesting;
          })
      | inr h ↦
          (let p : (no_expr, h.0.1) ≡ (a, rest) = some_is (no_expr, h.0.1) (a, rest) h.2 in
          record {
            word = no_argument;
            spelled = ap (λ (r : List Token). mark marks.OpenParenthesis ∷ r) (after_is marks.CloseParenthesis more h.0 h.1 ∙ ap (λ (x : Exprs × List Token). mark marks.CloseParenthesis ∷ x.1) p);
            given = ap (λ (x : Exprs × List Token). x.0) p;
            nesting = tt;
          })
    ]

pub arguments_found : (d : Option (Reader Expr)) (levels : ℕ) → IsSoundBelow d levels → (tokens : List Token) (a : Exprs) (rest : List Token) → arguments d tokens ≡ Some (a, rest)
    → Derived call_before argument_trees (λ w. Deeper levels (ArgumentsWithin w)) tokens a rest
unfolding arguments
arguments_found d levels sound tokens a rest e =
    let b = bind_some (after marks.OpenParenthesis tokens) _ (a, rest) e in
    let f = arguments_below d levels sound b.0.1 a rest b.2 in
    record { word = f.word; spelled = after_is marks.OpenParenthesis tokens b.0 b.1 ∙ f.spelled; given = f.given; nesting = f.nesting }

abbrev between : Mark → Mark → Expression → List Token → List Token
between first last w rest = mark first ∷ expression_before w (mark last ∷ rest)

enclosed_below : (d : Option (Reader Expr)) (levels : ℕ) → IsSoundBelow d levels → (first last : Mark) (more : List Token) (a : Expr) (rest : List Token)
    → (d >>= λ u. expression u more >>= λ e. after last e.1 >>= λ q. Read e.0 q.1) ≡ Some (a, rest) → Derived (between first last) expression_tree (λ w. Deeper levels (ExpressionWithin w)) (mark first ∷ more) a rest
enclosed_below None levels sound first last more a rest e = absurd cc
enclosed_below (Some u) zero sound first last more a rest e = absurd sound
enclosed_below (Some u) (suc levels) sound first last more a rest e =
    let b = bind_some (expression u more) _ (a, rest) e in
    let c = bind_some (after last b.0.1) _ (a, rest) b.2 in
    let inside = expression_found u levels sound more b.0.0 b.0.1 b.1 in
    let p : (b.0.0, c.0.1) ≡ (a, rest) = some_is (b.0.0, c.0.1) (a, rest) c.2 in
    record {
      word = inside.word;
      spelled = ap (λ (r : List Token). mark first ∷ r) (inside.spelled ∙ ap (expression_before inside.word) (after_is last b.0.1 c.0 c.1 ∙ ap (λ (x : Expr × List Token). mark last ∷ x.1) p));
      given = inside.given ∙ ap (λ (x : Expr × List Token). x.0) p;
      nesting = inside.nesting;
    }

enclosed_found : (d : Option (Reader Expr)) (levels : ℕ) → IsSoundBelow d levels → (first last : Mark) (tokens : List Token) (a : Expr) (rest : List Token) → enclosed d first last tokens ≡ Some (a, rest)
    → Derived (between first last) expression_tree (λ w. Deeper levels (ExpressionWithin w)) tokens a rest
unfolding enclosed
enclosed_found d levels sound first last tokens a rest e =
    let b = bind_some (after first tokens) _ (a, rest) e in
    let f = enclosed_below d levels sound first last b.0.1 a rest b.2 in
    record { word = f.word; spelled = after_is first tokens b.0 b.1 ∙ f.spelled; given = f.given; nesting = f.nesting }

index_words : (d : Option (Reader Expr)) (levels : ℕ) → IsSoundBelow d levels → ChainWords (before marks.OpenBracket) (enclosed d marks.OpenBracket marks.CloseBracket) item_of indexes_before indexes_tree (λ w. IndexesWithin w levels)
index_words d levels sound = record {
  none = no_index;
  none_spelled = λ rest. refl;
  none_given = λ left. refl;
  none_within = tt;
  more = λ tokens x o y i w h.
      let first = enclosed_found d levels sound marks.OpenBracket marks.CloseBracket x.1 y.0 y.1 i in (
        index first.word w,
        λ rest s. before_is marks.OpenBracket tokens x o ∙ first.spelled ∙ ap (between marks.OpenBracket marks.CloseBracket first.word) s,
        λ left. ap (λ (t : Expr). indexes_tree w (Item left t)) first.given,
        (first.nesting, h),
      );
}

retries_below : (d : Option (Reader Expr)) (levels : ℕ) → IsSoundBelow d levels → (more : List Token) (r : Option ℕ) (rest : List Token)
    → (d >>= λ _. numbered more >>= λ n. after marks.CloseParenthesis n.1 >>= λ q. Read (let s : Option ℕ = Some n.0 in s) q.1) ≡ Some (r, rest) → (mark marks.OpenParenthesis ∷ more ≡ retries_before r rest) × RetriesWithin r levels
retries_below None levels sound more r rest e = absurd cc
retries_below (Some u) zero sound more r rest e = absurd sound
retries_below (Some u) (suc levels) sound more r rest e =
    let b = bind_some (numbered more) _ (r, rest) e in
    let c = bind_some (after marks.CloseParenthesis b.0.1) _ (r, rest) b.2 in
    let n : Option ℕ = Some b.0.0 in
    let p : (n, c.0.1) ≡ (r, rest) = some_is (n, c.0.1) (r, rest) c.2 in
    let all : mark marks.OpenParenthesis ∷ more ≡ retries_before n c.0.1 = ap (λ (q : List Token). mark marks.OpenParenthesis ∷ q) (numbered_is more b.0 b.1 ∙ ap (λ (q : List Token). number b.0.0 ∷ q) (after_is marks.CloseParenthesis b.0.1 c.0 c.1)) in
    (all ∙ ap (λ (x : Option ℕ × List Token). retries_before x.0 x.1) p, subst (λ (x : Option ℕ × List Token). RetriesWithin x.0 (suc levels)) p tt)

pub retries_found : (d : Option (Reader Expr)) (levels : ℕ) → IsSoundBelow d levels → (tokens : List Token) (r : Option ℕ) (rest : List Token) → retries d tokens ≡ Some (r, rest) → (tokens ≡ retries_before r rest) × RetriesWithin r levels
unfolding retries
retries_found d levels sound tokens r rest e =
    elim (choose_some (after marks.OpenParenthesis tokens) (Some (None, tokens)) (λ r. d >>= λ _. numbered r.1 >>= λ n. after marks.CloseParenthesis n.1 >>= λ q. Some (Some n.0, q.1)) (Some (r, rest)) e) [
      | inl h ↦
          (let p : (None, tokens) ≡ (r, rest) = some_is (None, tokens) (r, rest) h.1 in
          (ap (λ (x : Option ℕ × List Token). retries_before x.0 x.1) p, subst (λ (x : Option ℕ × List Token). RetriesWithin x.0 levels) p tt))
      | inr h ↦
          (let f = retries_below d levels sound h.0.1 r rest h.2 in
          (after_is marks.OpenParenthesis tokens h.0 h.1 ∙ f.0, f.1))
    ]

abbrev Pair : Type 0
Pair = Expression × Expression

abbrev pair_before : Pair → List Token → List Token
pair_before w rest = mark marks.OpenParenthesis ∷ expression_before w.0 (mark marks.Comma ∷ expression_before w.1 (mark marks.CloseParenthesis ∷ rest))

abbrev pair_tree : Pair → Expr × Expr
pair_tree w = (expression_tree w.0, expression_tree w.1)

abbrev PairWithin : Pair → ℕ → Type 0
PairWithin w levels = Deeper levels (ExpressionWithin w.0) × Deeper levels (ExpressionWithin w.1)

pair_below : (d : Option (Reader Expr)) (levels : ℕ) → IsSoundBelow d levels → (more : List Token) (a : Expr × Expr) (rest : List Token)
    → (d >>= λ u. expression u more >>= λ a. after marks.Comma a.1 >>= λ c. expression u c.1 >>= λ b. after marks.CloseParenthesis b.1 >>= λ q. Read (a.0, b.0) q.1) ≡ Some (a, rest)
    → Derived pair_before pair_tree (λ w. PairWithin w levels) (mark marks.OpenParenthesis ∷ more) a rest
pair_below None levels sound more a rest e = absurd cc
pair_below (Some u) zero sound more a rest e = absurd sound
pair_below (Some u) (suc levels) sound more a rest e =
    let b = bind_some (expression u more) _ (a, rest) e in
    let c = bind_some (after marks.Comma b.0.1) _ (a, rest) b.2 in
    let d = bind_some (expression u c.0.1) _ (a, rest) c.2 in
    let f = bind_some (after marks.CloseParenthesis d.0.1) _ (a, rest) d.2 in
    let first = expression_found u levels sound more b.0.0 b.0.1 b.1 in
    let second = expression_found u levels sound c.0.1 d.0.0 d.0.1 d.1 in
    let p : ((b.0.0, d.0.0), f.0.1) ≡ (a, rest) = some_is ((b.0.0, d.0.0), f.0.1) (a, rest) f.2 in
    record {
      word = (first.word, second.word);
      spelled = ap (λ (r : List Token). mark marks.OpenParenthesis ∷ r) (first.spelled ∙ ap (expression_before first.word) (after_is marks.Comma b.0.1 c.0 c.1 ∙ ap (λ (r : List Token). mark marks.Comma ∷ r) (second.spelled ∙ ap (expression_before second.word) (after_is marks.CloseParenthesis d.0.1 f.0 f.1 ∙ ap (λ (x : (Expr × Expr) × List Token). mark marks.CloseParenthesis ∷ x.1) p))));
      given = ap (λ (t : Expr). (t, expression_tree second.word)) first.given ∙ ap (λ (t : Expr). (b.0.0, t)) second.given ∙ ap (λ (x : (Expr × Expr) × List Token). x.0) p;
      nesting = (first.nesting, second.nesting);
    }

pair_found : (d : Option (Reader Expr)) (levels : ℕ) → IsSoundBelow d levels → (tokens : List Token) (a : Expr × Expr) (rest : List Token) → pair d tokens ≡ Some (a, rest) → Derived pair_before pair_tree (λ w. PairWithin w levels) tokens a rest
unfolding pair
pair_found d levels sound tokens a rest e =
    let b = bind_some (after marks.OpenParenthesis tokens) _ (a, rest) e in
    let f = pair_below d levels sound b.0.1 a rest b.2 in
    record { word = f.word; spelled = after_is marks.OpenParenthesis tokens b.0 b.1 ∙ f.spelled; given = f.given; nesting = f.nesting }

list_below : (d : Option (Reader Expr)) (levels : ℕ) → IsSoundBelow d levels → (more : List Token) (a : Expr) (rest : List Token)
    → (d >>= λ u. items u more >>= λ es. after marks.CloseBracket es.1 >>= λ q. Read (ListOf es.0) q.1) ≡ Some (a, rest) → Derived primary_before primary_tree (λ w. PrimaryWithin w levels) (mark marks.OpenBracket ∷ more) a rest
list_below None levels sound more a rest e = absurd cc
list_below (Some u) zero sound more a rest e = absurd sound
list_below (Some u) (suc levels) sound more a rest e =
    let b = bind_some (items u more) _ (a, rest) e in
    let c = bind_some (after marks.CloseBracket b.0.1) _ (a, rest) b.2 in
    let all = items_found u levels sound more b.0.0 b.0.1 b.1 in
    let p : (ListOf b.0.0, c.0.1) ≡ (a, rest) = some_is (ListOf b.0.0, c.0.1) (a, rest) c.2 in
    record {
      word = Listed all.word.0 all.word.1;
      spelled = ap (λ (r : List Token). mark marks.OpenBracket ∷ r) (all.spelled ∙ ap (items_before all.word) (after_is marks.CloseBracket b.0.1 c.0 c.1 ∙ ap (λ (x : Expr × List Token). mark marks.CloseBracket ∷ x.1) p));
      given = ap ListOf all.given ∙ ap (λ (x : Expr × List Token). x.0) p;
      nesting = all.nesting;
    }

-- ---- primaries and what is built on them

abbrev FoundPrimary : ℕ → List Token → Expr → List Token → Type 0
FoundPrimary levels tokens a rest = Derived primary_before primary_tree (λ w. PrimaryWithin w levels) tokens a rest

name_found : (d : Option (Reader Expr)) (levels : ℕ) → IsSoundBelow d levels → (x : Name) (following : List Token) (a : Expr) (rest : List Token)
    → choose (before marks.OpenParenthesis following) (Read (Variable x) following) (λ _. arguments d following >>= λ args. Read (Call x args.0) args.1) ≡ Some (a, rest) → FoundPrimary levels (name x ∷ following) a rest
name_found d levels sound x following a rest e =
    elim (choose_some (before marks.OpenParenthesis following) (Read (Variable x) following) (λ _. arguments d following >>= λ args. Read (Call x args.0) args.1) (Some (a, rest)) e) [
      | inl h ↦
          (let p : (Variable x, following) ≡ (a, rest) = some_is (Variable x, following) (a, rest) h.1 in
          record { word = Named x; spelled = ap (λ (y : Expr × List Token). name x ∷ y.1) p; given = ap (λ (y : Expr × List Token). y.0) p; nesting = tt })
      | inr h ↦
          (let b = bind_some (arguments d following) _ (a, rest) h.2 in
          let args = arguments_found d levels sound following b.0.0 b.0.1 b.1 in
          let p : (Call x b.0.0, b.0.1) ≡ (a, rest) = some_is (Call x b.0.0, b.0.1) (a, rest) b.2 in
          record {
            word = CallOf x args.word;
            spelled = ap (λ (r : List Token). name x ∷ r) (args.spelled ∙ ap (λ (y : Expr × List Token). call_before args.word y.1) p);
            given = ap (Call x) args.given ∙ ap (λ (y : Expr × List Token). y.0) p;
            nesting = args.nesting;
          })
    ]

remote_found : (d : Option (Reader Expr)) (levels : ℕ) → IsSoundBelow d levels → (following : List Token) (a : Expr) (rest : List Token)
    → (retries d following >>= λ r. named r.1 >>= λ g. arguments d g.1 >>= λ args. Read (Remote r.0 g.0 args.0) args.1) ≡ Some (a, rest) → FoundPrimary levels (mark marks.Remote ∷ following) a rest
remote_found d levels sound following a rest e =
    let b = bind_some (retries d following) _ (a, rest) e in
    let c = bind_some (named b.0.1) _ (a, rest) b.2 in
    let f = bind_some (arguments d c.0.1) _ (a, rest) c.2 in
    let r = retries_found d levels sound following b.0.0 b.0.1 b.1 in
    let args = arguments_found d levels sound c.0.1 f.0.0 f.0.1 f.1 in
    let p : (Remote b.0.0 c.0.0 f.0.0, f.0.1) ≡ (a, rest) = some_is (Remote b.0.0 c.0.0 f.0.0, f.0.1) (a, rest) f.2 in
    record {
      word = RemoteOf b.0.0 c.0.0 args.word;
      spelled = ap (λ (q : List Token). mark marks.Remote ∷ q) (r.0 ∙ ap (retries_before b.0.0) (named_is b.0.1 c.0 c.1 ∙ ap (λ (q : List Token). name c.0.0 ∷ q) (args.spelled ∙ ap (λ (y : Expr × List Token). call_before args.word y.1) p)));
      given = ap (Remote b.0.0 c.0.0) args.given ∙ ap (λ (y : Expr × List Token). y.0) p;
      nesting = (r.1, args.nesting);
    }

primary_found : (k : Reader Kind) (d : Option (Reader Expr)) (levels : ℕ) → IsSoundKind k levels → IsSoundBelow d levels → (tokens : List Token) (a : Expr) (rest : List Token) → primary k d tokens ≡ Some (a, rest) → FoundPrimary levels tokens a rest
unfolding primary
primary_found k d levels kinds sound [] a rest e = absurd cc
primary_found k d levels kinds sound (number n ∷ following) a rest e =
    let p : (Number n, following) ≡ (a, rest) = some_is (Number n, following) (a, rest) e in
    record { word = Int n; spelled = ap (λ (y : Expr × List Token). number n ∷ y.1) p; given = ap (λ (y : Expr × List Token). y.0) p; nesting = tt }
primary_found k d levels kinds sound (name x ∷ following) a rest e = name_found d levels sound x following a rest e
primary_found k d levels kinds sound (mark marks.Remote ∷ following) a rest e = remote_found d levels sound following a rest e
primary_found k d levels kinds sound (mark marks.OpenBracket ∷ following) a rest e = list_below d levels sound following a rest e
primary_found k d levels kinds sound (mark marks.Empty ∷ following) a rest e =
    let b = bind_some (k following) _ (a, rest) e in
    let t = kinds following b.0.0 b.0.1 b.1 in
    let p : (Empty b.0.0, b.0.1) ≡ (a, rest) = some_is (Empty b.0.0, b.0.1) (a, rest) b.2 in
    record { word = EmptyOf b.0.0; spelled = ap (λ (r : List Token). mark marks.Empty ∷ r) (t.0 ∙ ap (λ (y : Expr × List Token). kind_before b.0.0 y.1) p); given = ap (λ (y : Expr × List Token). y.0) p; nesting = t.1 }
primary_found k d levels kinds sound (mark marks.OpenParenthesis ∷ following) a rest e =
    let f = enclosed_found d levels sound marks.OpenParenthesis marks.CloseParenthesis (mark marks.OpenParenthesis ∷ following) a rest e in
    record { word = Enclosed f.word; spelled = f.spelled; given = f.given; nesting = f.nesting }
primary_found k d levels kinds sound (mark marks.Len ∷ following) a rest e =
    let b = bind_some (enclosed d marks.OpenParenthesis marks.CloseParenthesis following) _ (a, rest) e in
    let f = enclosed_found d levels sound marks.OpenParenthesis marks.CloseParenthesis following b.0.0 b.0.1 b.1 in
    let p : (Len b.0.0, b.0.1) ≡ (a, rest) = some_is (Len b.0.0, b.0.1) (a, rest) b.2 in
    record { word = LenOf f.word; spelled = ap (λ (r : List Token). mark marks.Len ∷ r) (f.spelled ∙ ap (λ (y : Expr × List Token). between marks.OpenParenthesis marks.CloseParenthesis f.word y.1) p); given = ap Len f.given ∙ ap (λ (y : Expr × List Token). y.0) p; nesting = f.nesting }
primary_found k d levels kinds sound (mark marks.Push ∷ following) a rest e =
    let b = bind_some (pair d following) _ (a, rest) e in
    let f = pair_found d levels sound following b.0.0 b.0.1 b.1 in
    let p : (Push b.0.0.0 b.0.0.1, b.0.1) ≡ (a, rest) = some_is (Push b.0.0.0 b.0.0.1, b.0.1) (a, rest) b.2 in
    record { word = PushOf f.word.0 f.word.1; spelled = ap (λ (r : List Token). mark marks.Push ∷ r) (f.spelled ∙ ap (λ (y : Expr × List Token). pair_before f.word y.1) p); given = ap (λ (t : Expr × Expr). Push t.0 t.1) f.given ∙ ap (λ (y : Expr × List Token). y.0) p; nesting = f.nesting }
primary_found k d levels kinds sound (mark other ∷ following) a rest e = absurd cc

postfix_found : (k : Reader Kind) (d : Option (Reader Expr)) (levels : ℕ) → IsSoundKind k levels → IsSoundBelow d levels → (tokens : List Token) (a : Expr) (rest : List Token) → postfix k d tokens ≡ Some (a, rest)
    → Derived postfix_before postfix_tree (λ w. PostfixWithin w levels) tokens a rest
unfolding postfix
postfix_found k d levels kinds sound tokens a rest e =
    let b = bind_some (primary k d tokens) _ (a, rest) e in
    let first = primary_found k d levels kinds sound tokens b.0.0 b.0.1 b.1 in
    let others = chain_found (before marks.OpenBracket) (enclosed d marks.OpenBracket marks.CloseBracket) item_of indexes_before indexes_tree (λ w. IndexesWithin w levels) (index_words d levels sound) (length b.0.1) b.0.0 b.0.1 a rest b.2 in
    record {
      word = PostfixOf first.word others.word;
      spelled = first.spelled ∙ ap (primary_before first.word) others.spelled;
      given = ap (indexes_tree others.word) first.given ∙ others.given;
      nesting = (first.nesting, others.nesting);
    }

prefix_found : (d : Option (Reader Expr)) (levels : ℕ) → IsSoundBelow d levels → (p : Prefix) (more : List Token) (a : Expr) (rest : List Token)
    → (d >>= λ read. read more >>= λ a. Read (Prefixed p a.0) a.1) ≡ Some (a, rest) → Derived unary_before unary_tree (λ w. UnaryWithin w levels) (mark (prefix_mark p) ∷ more) a rest
prefix_found None levels sound q more a rest e = absurd cc
prefix_found (Some u) zero sound q more a rest e = absurd sound
prefix_found (Some u) (suc levels) sound q more a rest e =
    let b = bind_some (u more) _ (a, rest) e in
    let inside = sound more b.0.0 b.0.1 b.1 in
    let p : (Prefixed q b.0.0, b.0.1) ≡ (a, rest) = some_is (Prefixed q b.0.0, b.0.1) (a, rest) b.2 in
    record {
      word = PrefixOf q inside.word;
      spelled = ap (λ (r : List Token). mark (prefix_mark q) ∷ r) (inside.spelled ∙ ap (λ (y : Expr × List Token). unary_before inside.word y.1) p);
      given = ap (Prefixed q) inside.given ∙ ap (λ (y : Expr × List Token). y.0) p;
      nesting = inside.nesting;
    }

unary_found : (k : Reader Kind) (d : Option (Reader Expr)) (levels : ℕ) → IsSoundKind k levels → IsSoundBelow d levels → IsSound (unary k d) levels
unfolding unary
unary_found k d levels kinds sound tokens a rest e =
    elim (choose_some (prefixing tokens) (postfix k d tokens) (λ p. d >>= λ read. read p.1 >>= λ a. Some (Prefixed p.0 a.0, a.1)) (Some (a, rest)) e) [
      | inl h ↦
          (let f = postfix_found k d levels kinds sound tokens a rest h.1 in
          record { word = Plain f.word; spelled = f.spelled; given = f.given; nesting = f.nesting })
      | inr h ↦
          (let f = prefix_found d levels sound h.0.0 h.0.1 a rest h.2 in
          record { word = f.word; spelled = prefixing_is tokens h.0 h.1 ∙ f.spelled; given = f.given; nesting = f.nesting })
    ]

-- what is read with that many levels left
pub deeper_found : (levels : ℕ) → IsSoundBelow (deeper levels) levels
unfolding deeper
deeper_found zero = tt
deeper_found (suc levels) = unary_found (kind_at levels) (deeper levels) levels (kind_at_found levels) (deeper_found levels)

pub expression_at_found : (levels : ℕ) (tokens : List Token) (a : Expr) (rest : List Token) → expression_at levels tokens ≡ Some (a, rest) → FoundExpression levels tokens a rest
expression_at_found levels = expression_found (unary_at levels) levels (unary_found (kind_at levels) (deeper levels) levels (kind_at_found levels) (deeper_found levels))
