-- What was read from the front, as a word of the grammar.
use Rattle.std.proofs.Common.{◌≡◌, ℕ, zero, suc, ◌==◌, List, [], ◌∷◌, Bool, true, false, cond, Option, Some, None, refl, sym, ap, ◌∙◌, inl, inr, ◌⊎◌, get_or}
use Rattle.std.proofs.lemmas.Bool.{eqb-true}
use Rattle.script_tokens.specs.declared.token.Mark.{Mark}
use Rattle.script_tokens.specs.declared.token.Mark.TheVariants as marks
use Rattle.script_syntax.specs.declared.tree.BinaryOperator.{BinaryOperator}
use Rattle.script_syntax.specs.declared.tree.Prefix.{Prefix}
use Rattle.script_syntax.specs.declared.tree.Prefix.TheVariants as prefixes
use Rattle.script_tokens.specs.Tokens.{Name, Token, number, name, mark}
use Rattle.script_syntax.specs.Operators.{equals, differs, is_less, is_at_most, adds, subtracts, multiplies, divides, leaves, comparison_mark, comparison, additive_mark, additive, multiplicative_mark, multiplicative, prefix_mark}
use Rattle.script_syntax.specs.Reading.{Reader, ◌>>=◌, choose, mark_number, after, before, unless, unless_end, numbered, named, adding, multiplying, comparing, prefixing, chain}

-- ---- steps that went well

pub some_is : {A : Type 0} (x y : A) → (let s : Option A = Some x in s) ≡ Some y → x ≡ y
some_is x y e = cc

pub bind_some : {A B : Type 0} (r : Option A) (f : A → Option B) (y : B) → (r >>= f) ≡ Some y → (x : A) × (r ≡ Some x) × (f x ≡ Some y)
bind_some (Some x) f y e = (x, refl, e)
bind_some None f y e = absurd cc

pub choose_some : {A B : Type 0} (r : Option A) (y : B) (f : A → B) (z : B) → choose r y f ≡ z → ((r ≡ None) × (y ≡ z)) ⊎ ((x : A) × (r ≡ Some x) × (f x ≡ z))
choose_some None y f z e = inl (refl, e)
choose_some (Some x) y f z e = inr (x, refl, e)

-- a word of the grammar that stands for what was read
pub record Derived {D A : Type 0} (write : D → List Token → List Token) (tree : D → A) (Within : D → Type 0) (tokens : List Token) (a : A) (rest : List Token) : Type 0 where
  pub word : D
  pub spelled : tokens ≡ write word rest
  pub given : tree word ≡ a
  pub nesting : Within word

-- ---- one token

all_marks : List Mark
all_marks = marks.Fn ∷ marks.Let ∷ marks.Set ∷ marks.If ∷ marks.Else ∷ marks.For ∷ marks.In ∷ marks.Print ∷ marks.Return ∷ marks.Int ∷ marks.Ref ∷ marks.Remote ∷ marks.Put ∷ marks.Get ∷ marks.Len ∷ marks.Push ∷ marks.Empty ∷ marks.OpenParenthesis ∷ marks.CloseParenthesis ∷ marks.OpenBrace ∷ marks.CloseBrace ∷ marks.OpenBracket ∷ marks.CloseBracket ∷ marks.Comma ∷ marks.Semicolon ∷ marks.Colon ∷ marks.Arrow ∷ marks.Range ∷ marks.Assign ∷ marks.Equal ∷ marks.NotEqual ∷ marks.Less ∷ marks.LessEqual ∷ marks.Plus ∷ marks.Minus ∷ marks.Times ∷ marks.Slash ∷ marks.Percent ∷ []

mark_back : (m : Mark) → get_or all_marks (mark_number m) marks.Fn ≡ m
unfolding all_marks
mark_back marks.Fn = refl
mark_back marks.Let = refl
mark_back marks.Set = refl
mark_back marks.If = refl
mark_back marks.Else = refl
mark_back marks.For = refl
mark_back marks.In = refl
mark_back marks.Print = refl
mark_back marks.Return = refl
mark_back marks.Int = refl
mark_back marks.Ref = refl
mark_back marks.Remote = refl
mark_back marks.Put = refl
mark_back marks.Get = refl
mark_back marks.Len = refl
mark_back marks.Push = refl
mark_back marks.Empty = refl
mark_back marks.OpenParenthesis = refl
mark_back marks.CloseParenthesis = refl
mark_back marks.OpenBrace = refl
mark_back marks.CloseBrace = refl
mark_back marks.OpenBracket = refl
mark_back marks.CloseBracket = refl
mark_back marks.Comma = refl
mark_back marks.Semicolon = refl
mark_back marks.Colon = refl
mark_back marks.Arrow = refl
mark_back marks.Range = refl
mark_back marks.Assign = refl
mark_back marks.Equal = refl
mark_back marks.NotEqual = refl
mark_back marks.Less = refl
mark_back marks.LessEqual = refl
mark_back marks.Plus = refl
mark_back marks.Minus = refl
mark_back marks.Times = refl
mark_back marks.Slash = refl
mark_back marks.Percent = refl

number_same : (a b : ℕ) → (a == b) ≡ true → a ≡ b
number_same a b e = eqb-true a b e

guard_is : {A : Type 0} (b : Bool) (x y : A) → cond b (Some x) None ≡ Some y → (b ≡ true) × (x ≡ y)
guard_is true x y e = (refl, some_is x y e)
guard_is false x y e = absurd cc

pub after_is : (m : Mark) (tokens : List Token) (x : Unit {0} × List Token) → after m tokens ≡ Some x → tokens ≡ mark m ∷ x.1
after_is m [] x e = absurd cc
after_is m (number n ∷ rest) x e = absurd cc
after_is m (name n ∷ rest) x e = absurd cc
after_is m (mark k ∷ rest) x e =
    let g = guard_is (mark_number k == mark_number m) (tt, rest) x e in
    let same : k ≡ m = sym (mark_back k) ∙ ap (λ (n : ℕ). get_or all_marks n marks.Fn) (number_same (mark_number k) (mark_number m) g.0) ∙ mark_back m in
    ap (λ (k : Mark). mark k ∷ rest) same ∙ ap (λ (p : Unit {0} × List Token). mark m ∷ p.1) g.1

-- that mark stands there, and all stays
pub before_is : (m : Mark) (tokens : List Token) (x : Unit {0} × List Token) → before m tokens ≡ Some x → tokens ≡ x.1
before_is m tokens x e = elim (choose_some (after m tokens) None (λ (y : Unit {0} × List Token). Some (tt, tokens)) (Some x) e) [
  | inl h ↦ (let none : (let s : Option (Unit {0} × List Token) = None in s) ≡ Some x = h.1 in absurd cc)
  | inr h ↦ ap (λ (p : Unit {0} × List Token). p.1) (some_is (tt, tokens) x h.2)
]

pub unless_is : (m : Mark) (tokens : List Token) (x : Unit {0} × List Token) → unless m tokens ≡ Some x → tokens ≡ x.1
unless_is m tokens x e = elim (choose_some (after m tokens) (Some (tt, tokens)) (λ (y : Unit {0} × List Token). None) (Some x) e) [
  | inl h ↦ ap (λ (p : Unit {0} × List Token). p.1) (some_is (tt, tokens) x h.1)
  | inr h ↦ (let none : (let s : Option (Unit {0} × List Token) = None in s) ≡ Some x = h.2 in absurd cc)
]

pub unless_end_is : (tokens : List Token) (x : Unit {0} × List Token) → unless_end tokens ≡ Some x → tokens ≡ x.1
unless_end_is [] x e = absurd cc
unless_end_is (t ∷ rest) x e = ap (λ (p : Unit {0} × List Token). p.1) (some_is (tt, t ∷ rest) x e)

pub numbered_is : (tokens : List Token) (x : ℕ × List Token) → numbered tokens ≡ Some x → tokens ≡ number x.0 ∷ x.1
numbered_is (number n ∷ rest) x e = ap (λ (p : ℕ × List Token). number p.0 ∷ p.1) (some_is (n, rest) x e)
numbered_is _ x e = absurd cc

pub named_is : (tokens : List Token) (x : Name × List Token) → named tokens ≡ Some x → tokens ≡ name x.0 ∷ x.1
named_is (name n ∷ rest) x e = ap (λ (p : Name × List Token). name p.0 ∷ p.1) (some_is (n, rest) x e)
named_is _ x e = absurd cc

abbrev OperatorIs : {D : Type 0} → (D → BinaryOperator) → (D → Mark) → List Token → BinaryOperator × List Token → Type 0
OperatorIs {D = D} meaning sign tokens x = (op : D) × (meaning op ≡ x.0) × (tokens ≡ mark (sign op) ∷ x.1)

operator_is : {D : Type 0} (meaning : D → BinaryOperator) (sign : D → Mark) (op : D) (r : List Token) (x : BinaryOperator × List Token) → (let s : Option (BinaryOperator × List Token) = Some (meaning op, r) in s) ≡ Some x
    → OperatorIs meaning sign (mark (sign op) ∷ r) x
operator_is meaning sign op r x e =
    let p : (meaning op, r) ≡ x = some_is (meaning op, r) x e in
    (op, ap (λ (p : BinaryOperator × List Token). p.0) p, ap (λ (p : BinaryOperator × List Token). mark (sign op) ∷ p.1) p)

pub multiplying_is : (tokens : List Token) (x : BinaryOperator × List Token) → multiplying tokens ≡ Some x → OperatorIs multiplicative multiplicative_mark tokens x
multiplying_is (mark marks.Times ∷ r) x e = operator_is multiplicative multiplicative_mark multiplies r x e
multiplying_is (mark marks.Slash ∷ r) x e = operator_is multiplicative multiplicative_mark divides r x e
multiplying_is (mark marks.Percent ∷ r) x e = operator_is multiplicative multiplicative_mark leaves r x e
multiplying_is _ x e = absurd cc

pub adding_is : (tokens : List Token) (x : BinaryOperator × List Token) → adding tokens ≡ Some x → OperatorIs additive additive_mark tokens x
adding_is (mark marks.Plus ∷ r) x e = operator_is additive additive_mark adds r x e
adding_is (mark marks.Minus ∷ r) x e = operator_is additive additive_mark subtracts r x e
adding_is _ x e = absurd cc

pub comparing_is : (tokens : List Token) (x : BinaryOperator × List Token) → comparing tokens ≡ Some x → OperatorIs comparison comparison_mark tokens x
comparing_is (mark marks.Equal ∷ r) x e = operator_is comparison comparison_mark equals r x e
comparing_is (mark marks.NotEqual ∷ r) x e = operator_is comparison comparison_mark differs r x e
comparing_is (mark marks.Less ∷ r) x e = operator_is comparison comparison_mark is_less r x e
comparing_is (mark marks.LessEqual ∷ r) x e = operator_is comparison comparison_mark is_at_most r x e
comparing_is _ x e = absurd cc

pub prefixing_is : (tokens : List Token) (x : Prefix × List Token) → prefixing tokens ≡ Some x → tokens ≡ mark (prefix_mark x.0) ∷ x.1
prefixing_is (mark marks.Minus ∷ r) x e = ap (λ (p : Prefix × List Token). mark (prefix_mark p.0) ∷ p.1) (some_is (prefixes.Negate, r) x e)
prefixing_is (mark marks.Get ∷ r) x e = ap (λ (p : Prefix × List Token). mark (prefix_mark p.0) ∷ p.1) (some_is (prefixes.Get, r) x e)
prefixing_is (mark marks.Put ∷ r) x e = ap (λ (p : Prefix × List Token). mark (prefix_mark p.0) ∷ p.1) (some_is (prefixes.Put, r) x e)
prefixing_is _ x e = absurd cc

-- ---- chains: words with none, and with one more in front

pub record ChainWords {X A L W : Type 0} (opens : Reader X) (item : Reader A) (join : X → L → A → L) (write : W → List Token → List Token) (tree : W → L → L) (Within : W → Type 0) : Type 0 where
  pub none : W
  pub none_spelled : (rest : List Token) → rest ≡ write none rest
  pub none_given : (left : L) → tree none left ≡ left
  pub none_within : Within none
  pub more : (tokens : List Token) (x : X × List Token) → opens tokens ≡ Some x → (y : A × List Token) → item x.1 ≡ Some y → (w : W) → Within w
      → (v : W) × ((rest : List Token) → y.1 ≡ write w rest → tokens ≡ write v rest) × ((left : L) → tree v left ≡ tree w (join x.0 left y.0)) × Within v

pub chain_found : {X A L W : Type 0} (opens : Reader X) (item : Reader A) (join : X → L → A → L) (write : W → List Token → List Token) (tree : W → L → L) (Within : W → Type 0) → ChainWords opens item join write tree Within
    → (n : ℕ) (left : L) (tokens : List Token) (a : L) (rest : List Token) → chain opens item join n left tokens ≡ Some (a, rest) → Derived write (λ w. tree w left) Within tokens a rest
unfolding chain
chain_found {L = L} opens item join write tree Within words zero left tokens a rest e =
    elim (choose_some (opens tokens) (Some (left, tokens)) (λ _. None) (Some (a, rest)) e) [
      | inl h ↦
          (let p : (left, tokens) ≡ (a, rest) = some_is (left, tokens) (a, rest) h.1 in
          record { word = words.none; spelled = ap (λ (x : L × List Token). x.1) p ∙ words.none_spelled rest; given = words.none_given left ∙ ap (λ (x : L × List Token). x.0) p; nesting = words.none_within })
      | inr h ↦ (let none : (let s : Option (L × List Token) = None in s) ≡ Some (a, rest) = h.2 in absurd cc)
    ]
chain_found {L = L} opens item join write tree Within words (suc n) left tokens a rest e =
    elim (choose_some (opens tokens) (Some (left, tokens)) (λ op. item op.1 >>= λ a. chain opens item join n (join op.0 left a.0) a.1) (Some (a, rest)) e) [
      | inl h ↦
          (let p : (left, tokens) ≡ (a, rest) = some_is (left, tokens) (a, rest) h.1 in
          record { word = words.none; spelled = ap (λ (x : L × List Token). x.1) p ∙ words.none_spelled rest; given = words.none_given left ∙ ap (λ (x : L × List Token). x.0) p; nesting = words.none_within })
      | inr h ↦
          (let b = bind_some (item h.0.1) (λ a. chain opens item join n (join h.0.0 left a.0) a.1) (a, rest) h.2 in
          let others = chain_found opens item join write tree Within words n (join h.0.0 left b.0.0) b.0.1 a rest b.2 in
          let all = words.more tokens h.0 h.1 b.0 b.1 others.word others.nesting in
          record { word = all.0; spelled = all.1 rest others.spelled; given = all.2 left ∙ others.given; nesting = all.3 })
    ]
