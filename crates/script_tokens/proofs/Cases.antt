-- Tests that are true or false.
use Rattle.std.proofs.Common.{◌≡◌, Bool, true, false, cond, Option, Some, None, refl, sym, ◌∙◌, inl, inr, ◌⊎◌}
use Rattle.script_tokens.specs.Lexing.{◌>>=◌, choose}

pub bool_cases : (b : Bool) → (b ≡ true) ⊎ (b ≡ false)
bool_cases true = inl refl
bool_cases false = inr refl

pub no : (x : Bool) → x ≡ true → x ≡ false → ⊥
no x p q = let e : true ≡ false = sym p ∙ q in absurd cc

pub is_false : (b : Bool) → (b ≡ true → ⊥) → b ≡ false
is_false true h = absurd (h refl)
is_false false h = refl

pub chosen : {A : Type 0} (b : Bool) (x y z : A) → cond b x y ≡ z → ((b ≡ true) × (x ≡ z)) ⊎ ((b ≡ false) × (y ≡ z))
chosen true x y z e = inl (refl, e)
chosen false x y z e = inr (refl, e)

pub both : (b c : Bool) → cond b c false ≡ true → (b ≡ true) × (c ≡ true)
both true c e = (refl, e)
both false c e = absurd cc

pub neither : (b c : Bool) → cond b false c ≡ true → (b ≡ false) × (c ≡ true)
neither true c e = absurd cc
neither false c e = (refl, e)

-- ---- options

pub some_is : {A : Type 0} (x y : A) → (let r : Option A = Some x in r) ≡ Some y → x ≡ y
some_is x y e = cc

pub none_is_not : {A : Type 0} (x : A) → (let r : Option A = None in r) ≡ Some x → ⊥
none_is_not x e = absurd cc

pub none_or_some : {A : Type 0} (r : Option A) → (r ≡ None) ⊎ ((x : A) × (r ≡ Some x))
none_or_some None = inl refl
none_or_some (Some x) = inr (x, refl)

pub bind_some : {A B : Type 0} (r : Option A) (f : A → Option B) (y : B) → (r >>= f) ≡ Some y → (x : A) × (r ≡ Some x) × (f x ≡ Some y)
bind_some None f y e = absurd cc
bind_some (Some x) f y e = (x, refl, e)

pub choose_some : {A B : Type 0} (r : Option A) (y : B) (f : A → B) (z : B) → choose r y f ≡ z → ((r ≡ None) × (y ≡ z)) ⊎ ((x : A) × (r ≡ Some x) × (f x ≡ z))
choose_some None y f z e = inl (refl, e)
choose_some (Some x) y f z e = inr (x, refl, e)
