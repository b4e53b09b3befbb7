-- What a use of a rule makes of the rows, where it is at no fault: each value passed the parser of its rule.
use Rattle.std.proofs.Common.{◌≡◌, ◌∙◌, ◌<◌, ◌+◌, ◌&&◌, ℕ, Bool, cond, true, false, zero, suc, refl, sym, ap, ap₂, subst, arith, List, [], ◌∷◌, ◌++◌, length, min, Option, Some, unwrap_or, lt-ltb, length-append}
use Rattle.std.specs.Prelude.{IfSome}
use Rattle.std.specs.List.{AllByRecursion, find, list_all}
use Rattle.std.specs.Str.{bytes_eq}
use Rattle.std.proofs.lemmas.Slice.Eq.{bytes_eq-Decides}
use Rattle.std.proofs.lemmas.List.Folds.{list_all-append}
use Rattle.clap.specs.ValueTests.{accepts}
use Rattle.clap.specs.Matches.{count_text}
use Rattle.clap.specs.Facts.{unwrap_or_range}
use Rattle.clap.specs.Walk.{Row, Rule, Text}
use Rattle.clap.specs.Walk.{action_of, arg_by_id, at_row, count_of, counted}
use Rattle.clap.specs.Walk.{more_values, new_count, reading_by}
use Rattle.clap.specs.Walk.{used, used_as, values_or_missing}
use Rattle.clap.specs.Walk.{with_count, with_values, without}
use Rattle.clap.specs.Takes.{values_pass, value_passes}
use Rattle.clap.specs.Kinds.{Kinds, or_else, range_kinds, values_kinds}
use Rattle.clap.specs.Faults.{action_fault}
use Rattle.clap.specs.Faults.{use_fault}
use Rattle.clap.specs.declared.builder.action.ArgAction.{ArgAction}
use Rattle.clap.specs.declared.builder.action.ArgAction.TheVariants as action
use Rattle.clap.specs.declared.builder.value_parser.Reading.{Reading}
use Rattle.clap.specs.declared.builder.value_parser.ValueParser.{ValueParser}
use Rattle.clap.specs.declared.error.kind.ErrorKind.{ErrorKind}
use Rattle.clap.specs.declared.error.kind.ErrorKind.TheVariants.{InvalidValue}
use Rattle.clap.specs.declared.parser.matches.ValueSource.{ValueSource}

-- ---- kinds

some_kind : (k : ErrorKind) (ks : Kinds) → k ∷ ks ≡ [] → ⊥
some_kind k ks e = cc

pub both_none : (a b : Kinds) → or_else a b ≡ [] → (a ≡ []) × (b ≡ [])
both_none [] b e = (refl, e)
both_none (k ∷ ks) b e = absurd (some_kind k ks e)

passed : (b : Bool) (k : ErrorKind) → cond b [] (k ∷ []) ≡ [] → b ≡ true
passed true k e = refl
passed false k e = absurd (some_kind k [] e)

pub all_passed : (ignore_case : Bool) (p : ValueParser) (vs : List Text) → values_kinds ignore_case p vs ≡ [] → list_all (accepts ignore_case p) vs ≡ true
all_passed ignore_case p [] e = refl
all_passed ignore_case p (v ∷ vs) e =
    let parts = both_none _ _ e in
    ap₂ (λ x y. x && y) (passed _ _ parts.0) (all_passed ignore_case p vs parts.1)

-- the fewest values of a use
abbrev pub least : Rule → ℕ
least a = (unwrap_or_range a.range).start_inclusive

some_values : (low high n : ℕ) → range_kinds low high n ≡ [] → 0 < low → 0 < n
some_values low high (suc n) e lt = omega arith
some_values low high zero e lt =
    let bad : range_kinds low high zero ≡ InvalidValue ∷ [] = rw (lt-ltb 0 low lt) refl in
    absurd (some_kind _ _ (sym bad ∙ e))

-- ---- rows

-- the first rule of an id is the rule
abbrev pub IsFirst : List Rule → Rule → Type 0
IsFirst c a = arg_by_id c a.id ≡ Some a

-- values that the rule lets through
abbrev pub Passes : Rule → List Text → Type 0
Passes a vs = (values_pass a vs ≡ true) × (0 < least a → 0 < length vs)

-- values of an id that are read so are as its rule wants them
abbrev pub FitsAs : List Rule → Text → List Text → Reading → Type 0
FitsAs c id vs how = (a : Rule) → arg_by_id c id ≡ Some a → Passes a vs × (how ≡ reading_by a)

abbrev pub RowFits : List Rule → Row → Type 0
RowFits c r = FitsAs c r.id r.values r.reading

abbrev pub RowsFit : List Rule → List Row → Type 0
RowsFit c = AllByRecursion (RowFits c)

pub unsome : {X : Type 0} (x y : X) → Some x ≡ Some y → x ≡ y
unsome x y e = ap (λ o. unwrap_or o x) e

-- what a search finds is of the list
pub found : {X : Type 0} (P : X → Type 0) (p : X → Bool) (xs : List X) → AllByRecursion P xs → IfSome (find p xs) P
found P p [] h = tt
found {X = X} P p (x ∷ xs) h = go (p x) (find p xs) (found P p xs h.1)
  where
    go : (b : Bool) (o : Option X) → IfSome o P → IfSome (cond b (Some x) o) P
    go true o later = h.0
    go false o later = later

more_fit : (c : List Rule) (xs ys : List Row) → RowsFit c xs → RowsFit c ys → RowsFit c (xs ++ ys)
more_fit c [] ys h k = k
more_fit c (x ∷ xs) ys h k = (h.0, more_fit c xs ys h.1 k)

either_fits : (c : List Rule) (b : Bool) (xs ys : List Row) → (b ≡ true → RowsFit c xs) → RowsFit c ys → RowsFit c (cond b xs ys)
either_fits c true xs ys h k = h refl
either_fits c false xs ys h k = k

at_row_fits : (c : List Rule) (id : Text) (change : Row → List Row) (missing rows : List Row)
    → ((r : Row) → r.id ≡ id → RowFits c r → RowsFit c (change r)) → RowsFit c missing → RowsFit c rows → RowsFit c (at_row id change missing rows)
at_row_fits c id change missing [] changed added h = added
at_row_fits c id change missing (r ∷ rs) changed added h =
    either_fits c (bytes_eq r.id id) _ _ (λ e. more_fit c (change r) rs (changed r ((bytes_eq-Decides r.id id).0 e) h.0) h.1)
    (h.0, at_row_fits c id change missing rs changed added h.1)

new_fits : (c : List Rule) (a : Rule) (vs : List Text) → IsFirst c a → Passes a vs → FitsAs c a.id vs (reading_by a)
new_fits c a vs first pass b is =
    let one : a ≡ b = unsome a b (sym first ∙ is) in
    subst (λ x. Passes x vs × (reading_by a ≡ reading_by x)) one (pass, refl)

-- a row with more values
longer_fits : (c : List Rule) (a : Rule) (vs : List Text) (r : Row) → IsFirst c a → values_pass a vs ≡ true → r.id ≡ a.id → RowFits c r
    → FitsAs c r.id (r.values ++ vs) r.reading
longer_fits c a vs r first pass same h b is =
    let one : a ≡ b = unsome a b (sym first ∙ ap (arg_by_id c) (sym same) ∙ is) in
    let old = h b is in
    let more : values_pass b vs ≡ true = subst (λ x. values_pass x vs ≡ true) one pass in
    let all : values_pass b (r.values ++ vs) ≡ true = list_all-append (value_passes b) r.values vs ∙ ap₂ (λ x y. x && y) old.0.0 more in
    ((all, λ lt. let some = old.0.1 lt in rw (length-append r.values vs) (omega arith)), old.1)

pub with_values_fits : (c : List Rule) (a : Rule) (s : ValueSource) (vs : List Text) (rows : List Row) → IsFirst c a → Passes a vs → RowsFit c rows
    → RowsFit c (with_values a.id (reading_by a) s vs rows)
with_values_fits c a s vs rows first pass h =
    at_row_fits c a.id (more_values s vs) _ rows (λ r same fits. (longer_fits c a vs r first pass.0 same fits, tt)) (new_fits c a vs first pass, tt) h

with_count_fits : (c : List Rule) (a : Rule) (s : ValueSource) (n : ℕ) (rows : List Row) → IsFirst c a → Passes a (count_text n ∷ []) → RowsFit c rows
    → RowsFit c (with_count a.id (reading_by a) s n rows)
with_count_fits c a s n rows first pass h =
    at_row_fits c a.id (new_count s n) _ rows (λ r same fits. (longer_fits c a (count_text n ∷ []) r first pass.0 same fits, tt))
    (new_fits c a (count_text n ∷ []) first pass, tt) h

without_fits : (c : List Rule) (id : Text) (rows : List Row) → RowsFit c rows → RowsFit c (without id rows)
without_fits c id rows h = at_row_fits c id (λ r. []) [] rows (λ r same fits. tt) tt h

-- ---- one use of a rule

set_fits : (c : List Rule) (again : Bool) (a : Rule) (vs : List Text) (rows : List Row) → IsFirst c a → (0 < least a → 0 < length vs)
    → action_fault action.Set again a vs rows ≡ [] → RowsFit c rows → RowsFit c (used_as action.Set a.id (reading_by a) vs rows)
set_fits c again a vs rows first some e h =
    with_values_fits c a _ vs _ first (all_passed _ _ vs (both_none _ _ e).1, some) (without_fits c a.id rows h)

count_fits : (c : List Rule) (again : Bool) (a : Rule) (vs : List Text) (rows : List Row) → IsFirst c a → (0 < least a → 0 < length vs)
    → action_fault action.Count again a vs rows ≡ [] → RowsFit c rows → RowsFit c (counted a.id (reading_by a) vs rows)
count_fits c again a [] rows first some e h =
    let n = min (count_of a.id rows + 1) 255 in
    let some : 0 < length (count_text n ∷ []) = omega arith in
    with_count_fits c a _ n _ first (ap (λ b. b && true) (passed _ _ e), λ lt. some) (without_fits c a.id rows h)
count_fits c again a (v ∷ vs) rows first some e h =
    with_values_fits c a _ (v ∷ vs) _ first (all_passed _ _ (v ∷ vs) e, some) (without_fits c a.id rows h)

action_fits : (x : ArgAction) (c : List Rule) (again : Bool) (a : Rule) (vs : List Text) (rows : List Row) → IsFirst c a → (0 < least a → 0 < length vs)
    → action_fault x again a vs rows ≡ [] → RowsFit c rows → RowsFit c (used_as x a.id (reading_by a) vs rows)
action_fits action.Set c again a vs rows first some e h = set_fits c again a vs rows first some e h
action_fits action.SetTrue c again a vs rows first some e h = set_fits c again a vs rows first some e h
action_fits action.SetFalse c again a vs rows first some e h = set_fits c again a vs rows first some e h
action_fits action.Append c again a vs rows first some e h = with_values_fits c a _ vs rows first (all_passed _ _ vs e, some) h
action_fits action.Count c again a vs rows first some e h = count_fits c again a vs rows first some e h
action_fits action.Help c again a vs rows first some e h = h
action_fits action.HelpShort c again a vs rows first some e h = h
action_fits action.HelpLong c again a vs rows first some e h = h
action_fits action.Version c again a vs rows first some e h = h

stays_some : (a : Rule) (vs : List Text) → 0 < length vs → 0 < length (values_or_missing a vs)
stays_some a [] lt = absurd (omega arith)
stays_some a (v ∷ vs) lt = lt

pub use_fits : (c : List Rule) (again : Bool) (a : Rule) (vs : List Text) (rows : List Row) → IsFirst c a → use_fault again a vs rows ≡ [] → RowsFit c rows
    → RowsFit c (used a vs rows)
use_fits c again a vs rows first e h =
    let parts = both_none _ _ e in
    action_fits (action_of a) c again a (values_or_missing a vs) rows first (λ lt. stays_some a vs (some_values _ _ _ parts.0 lt)) parts.1 h
