-- Names that are not in scope yet, and the scope behind them.
use Rattle.std.proofs.Common.{◌≡◌, Bool, true, false, List, [], ◌∷◌, ◌++◌, length, refl, sym, ap, ◌∙◌, arith, Option, Some, None, append_assoc, append-nil}
use Rattle.std.specs.Prelude.{if◌then◌else◌, ◌||◌, not}
use Rattle.meaning.specs.Values.{Name}
use Rattle.meaning.specs.Syntax.{Kind}
use Rattle.meaning.specs.Meaning.{same_name}
use Rattle.meaning.specs.Kinds.{Context, kind_in}
use Rattle.script_syntax.specs.Trees as parsed
use Rattle.script_check.specs.Trees.{kind_named}
use Rattle.script_check.specs.Rules.{variable, NamesChecked}
use Rattle.script_check.specs.Inference.{free, fresh, only, is_among, new_name, new_names, bound}
use Rattle.script_check.proofs.Binds.{bind_some, only_true}
use Rattle.script_check.proofs.Arms.{both}

pub free_from : (o : Option Kind) → free o ≡ Some tt → o ≡ None
free_from None h = refl
free_from (Some t) h = absurd (cc)

pub free_to : (o : Option Kind) → o ≡ None → free o ≡ Some tt
free_to o e = ap free e

or_false : (a b : Bool) → (a || b) ≡ false → (a ≡ false) × (b ≡ false)
or_false true b h = absurd (cc)
or_false false b h = (refl, h)

neither_true : (a b : Bool) → a ≡ false → b ≡ false → (a || b) ≡ false
neither_true a b e f = ap (λ x. x || b) e ∙ f

not_true : (b : Bool) → not b ≡ true → b ≡ false
not_true true h = absurd (cc)
not_true false h = refl

-- one name more

abbrev found_or : Bool → Kind → Option Kind → Option Kind
found_or b t o = if b then Some t else o

before_one_more : (context : Context) (y : Name) (t : Kind) (x : Name) → kind_in (context ++ variable y t) x ≡ None → (kind_in context x ≡ None) × (same_name y x ≡ false)
before_one_more [] y t x h = go (same_name y x) h
  where
    go : (b : Bool) → found_or b t None ≡ None → (kind_in [] x ≡ None) × (b ≡ false)
    go true k = absurd (cc)
    go false k = (refl, refl)
before_one_more (w ∷ context) y t x h = go (same_name w.name x) h (before_one_more context y t x)
  where
    go : (b : Bool) → found_or b w.kind (kind_in (context ++ variable y t) x) ≡ None →
        (kind_in (context ++ variable y t) x ≡ None → (kind_in context x ≡ None) × (same_name y x ≡ false)) → (found_or b w.kind (kind_in context x) ≡ None) × (same_name y x ≡ false)
    go true k r = absurd (cc)
    go false k r = r k

with_one_more : (context : Context) (y : Name) (t : Kind) (x : Name) → kind_in context x ≡ None → same_name y x ≡ false → kind_in (context ++ variable y t) x ≡ None
with_one_more [] y t x h e = ap (λ b. found_or b t None) e
with_one_more (w ∷ context) y t x h e = go (same_name w.name x) h (with_one_more context y t x)
  where
    go : (b : Bool) → found_or b w.kind (kind_in context x) ≡ None → (kind_in context x ≡ None → same_name y x ≡ false → kind_in (context ++ variable y t) x ≡ None) →
        found_or b w.kind (kind_in (context ++ variable y t) x) ≡ None
    go true k r = absurd (cc)
    go false k r = r k e

not_before_one_more : (given : List Name) (y x : Name) → is_among (given ++ y ∷ []) x ≡ false → (is_among given x ≡ false) × (same_name y x ≡ false)
not_before_one_more [] y x h = (refl, (or_false (same_name y x) false h).0)
not_before_one_more (z ∷ given) y x h =
    let o = or_false (same_name z x) (is_among (given ++ y ∷ []) x) h in let r = not_before_one_more given y x o.1 in
    (neither_true (same_name z x) (is_among given x) o.0 r.0, r.1)

not_with_one_more : (given : List Name) (y x : Name) → is_among given x ≡ false → same_name y x ≡ false → is_among (given ++ y ∷ []) x ≡ false
not_with_one_more [] y x h e = neither_true (same_name y x) false e refl
not_with_one_more (z ∷ given) y x h e =
    let o = or_false (same_name z x) (is_among given x) h in
    neither_true (same_name z x) (is_among (given ++ y ∷ []) x) o.0 (not_with_one_more given y x o.1 e)

-- in scope now are those in scope before and the given ones
record Adds (before : Context) (given : List Name) (now : Context) : Type 0 where
  new : (x : Name) → kind_in before x ≡ None → is_among given x ≡ false → kind_in now x ≡ None
  old : (x : Name) → kind_in now x ≡ None → (kind_in before x ≡ None) × (is_among given x ≡ false)

adds_nothing : (before : Context) → Adds before [] before
adds_nothing before = record { new = λ x h k. h; old = λ x h. (h, refl) }

adds_one : (before : Context) (given : List Name) (now : Context) (y : Name) (t : Kind) → Adds before given now → Adds before (given ++ y ∷ []) (now ++ variable y t)
adds_one before given now y t a =
    record {
      new = λ x h k. let m = not_before_one_more given y x k in with_one_more now y t x (a.new x h m.0) m.1;
      old = λ x h. let m = before_one_more now y t x h in let o = a.old x m.0 in (o.0, not_with_one_more given y x o.1 m.1);
    }

names_sound : (before : Context) (given : List Name) (now : Context) (xs : List Name) (ts : List parsed.Kind) → Adds before given now → length ts ≡ length xs → new_names before given xs ≡ Some tt → NamesChecked xs ts now (bound now xs ts)
names_sound before given now [] [] a l h = refl
names_sound before given now [] (t ∷ ts) a l h = absurd (omega arith)
names_sound before given now (x ∷ xs) [] a l h = absurd (omega arith)
names_sound before given now (x ∷ xs) (t ∷ ts) a l h =
    let n = bind_some (new_name before given x) _ tt h in let f = bind_some (fresh before x) _ n.0 n.1 in
    (a.new x (free_from (kind_in before x) f.1) (not_true (is_among given x) (only_true (not (is_among given x)) n.0 f.2)), names_sound before (given ++ x ∷ []) (now ++ variable x (kind_named t)) xs ts (adds_one before given now x (kind_named t) a) (omega arith) n.2)

names_complete : (before : Context) (given : List Name) (now : Context) (xs : List Name) (ts : List parsed.Kind) (after : Context) → Adds before given now → NamesChecked xs ts now after → (new_names before given xs ≡ Some tt) × (after ≡ bound now xs ts)
names_complete before given now [] [] after a h = (refl, h)
names_complete before given now [] (t ∷ ts) after a h = absurd h
names_complete before given now (x ∷ xs) [] after a h = absurd h
names_complete before given now (x ∷ xs) (t ∷ ts) after a h =
    let o = a.old x h.0 in let r = names_complete before (given ++ x ∷ []) (now ++ variable x (kind_named t)) xs ts after (adds_one before given now x (kind_named t) a) h.1 in
    (both (new_name before given x) tt _ _ (both (fresh before x) tt _ _ (free_to (kind_in before x) o.0) (ap (λ b. only (not b)) o.1)) r.0, r.1)

pub are_sound_names : (before : Context) (xs : List Name) (ts : List parsed.Kind) → length ts ≡ length xs → new_names before [] xs ≡ Some tt → NamesChecked xs ts before (bound before xs ts)
are_sound_names before xs ts = names_sound before [] before xs ts (adds_nothing before)

pub are_complete_names : (before : Context) (xs : List Name) (ts : List parsed.Kind) (after : Context) → NamesChecked xs ts before after → (new_names before [] xs ≡ Some tt) × (after ≡ bound before xs ts)
are_complete_names before xs ts after = names_complete before [] before xs ts after (adds_nothing before)

-- what the names put behind a scope
pub behind : (before : Context) (xs : List Name) (ts : List parsed.Kind) → (added : Context) × (bound before xs ts ≡ before ++ added)
behind before [] [] = ([], sym (append-nil before))
behind before [] (t ∷ ts) = ([], sym (append-nil before))
behind before (x ∷ xs) [] = ([], sym (append-nil before))
behind before (x ∷ xs) (t ∷ ts) =
    let r = behind (before ++ variable x (kind_named t)) xs ts in (variable x (kind_named t) ++ r.0, r.1 ∙ append_assoc before (variable x (kind_named t)) r.0)
