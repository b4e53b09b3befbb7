-- The law of replay: a part of a script on values with ids, and the same part on the values as read, do the same.
use Rattle.std.proofs.Common.{◌≡◌, ℕ, zero, suc, ◌+◌, ◌-◌, ◌≤◌, Bool, true, false, List, [], ◌∷◌, ◌++◌, length, take, map, Option, Some, None, refl, sym, ap, ◌∙◌, subst, arith}
use Rattle.std.proofs.Common.{rules}
use Rattle.std.proofs.lemmas.List.{length-map}
use Rattle.std.proofs.lemmas.Bool.Decides.{nat_tests}
use Rattle.std.specs.Prelude.{ℤ, pos, negsuc, nat_lt, if◌then◌else◌, ◌+ℤ◌, ◌-ℤ◌, int_div}
use Rattle.std.specs.Prelude.{int_rem, int_lt, int_le, not, neg_ℤ, ◌*ℤ◌}
use Rattle.std.specs.Ordering.{int_eq}
use Rattle.meaning.specs.Values.{Name, Overflow, TooLong, Loop, TooDeep, Broken, Value, Int, Items, Named, Known, Values, none, more, Outcome, Val, Trapped, Completion, Returned, Aborted, outcomes, Argument, Birth, Put, Task, results_of, Id, values_of, count, item_at, push_onto}
use Rattle.meaning.specs.Syntax.{Kind, Number, ListKind, RefKind, Operator, Add, Sub, Mul, Div, Rem, Equal, Unequal, Less, LessEqual, ItemAt, Push, Prefix, Negate, Len, Expr, Num, Var, Unary, Binary, ListOf, Empty, Call, Remote, PutOf, GetOf, Exprs, end, also, Stmt, Let, LetCall, LetRemote, Set, Print, Return, If, For, Block, done, step, Parameter, Function, Script}
use Rattle.meaning.specs.Runs.{Run, Ends, Prints, Bears, Gets, outcome_of, serial_end, serial_trace, go_on, known, Needs, Piece, over, piece, ids_from, named, behind}
use Rattle.meaning.specs.Meaning.{broken, Variable, Scope, same_name, value_in, set_in, bind, bind_each, bind_all, as_number, as_items, fits, in_range, quotient, remainder, truth, found, index, push, on_numbers, apply, apply_one, is_zero, turn_count, proceed, mark, get_from, dereference, only, Calls, evaluate, evaluate_all, turns, turns_within, leave, execute, execute_all, find, parameters_of, enter, task_by, no_level, calls_below, call_at, run_task, run_birth}
use Rattle.meaning.specs.Lists.{IsFirst}
use Rattle.meaning.specs.Kinds.{IsOf, AreOf, EndsIn, IsBirthOf, IsSafe, Answers, AnswersFit}
use Rattle.meaning.proofs.ResultLaws.{outcomes-read, results-read, names-read, known_are}
use Rattle.script_laws.proofs.Safety.{serial_is_sound}
use Rattle.meaning.specs.Readings.{Reading, read, read_items, read_outcome, read_completion, read_argument, read_birth, end_under, BirthsHold}
use Rattle.meaning.specs.Law.{gets_of, up_to, get_after, births_of, prints_of, StopsAs, Begins, LawOfReplay}

module _ (script : Script) (reading : Reading) (results : ℕ) where
  -- the birth as read makes objects of some kinds
  abbrev HasKind : Birth → Type 0
  HasKind b = (us : List Kind) × IsBirthOf script (read_birth reading b) us

  -- the piece of one run as read is a beginning of the other
  pub record Law (run run' : Run) : Type 0 where
    pub by : (base : Id) (answers : List Outcome) → BirthsHold reading script base (piece results run base answers).births → IsFirst (map (read_outcome reading) answers) (gets_of (serial_trace run')) → Begins reading results (piece results run base answers) (length answers) run'
    -- and where the other is safe, the answers are of the kinds asked for
    pub fits : (ts : List Kind) (base : Id) (answers : List Outcome) → BirthsHold reading script base (piece results run base answers).births → IsFirst (map (read_outcome reading) answers) (gets_of (serial_trace run')) → IsSafe script run' ts → AnswersFit run base answers
    -- each birth, if those before it hold, has a kind
    pub kinds : (ts : List Kind) (base : Id) (answers : List Outcome) (bs : List Birth) (b : Birth) → IsFirst (bs ++ b ∷ []) (piece results run base answers).births → BirthsHold reading script base bs → IsFirst (map (read_outcome reading) answers) (gets_of (serial_trace run')) → IsSafe script run' ts → HasKind b
    -- also with one more
    pub more_fit : (ts : List Kind) (base : Id) (answers : List Outcome) (r : Value) (c : Outcome) → BirthsHold reading script base (piece results run base answers).births → IsFirst (map (read_outcome reading) answers) (gets_of (serial_trace run')) → IsSafe script run' ts → (piece results run base answers).stop ≡ Needs r → outcome_of (read reading r) ≡ read_outcome reading c → AnswersFit run base (answers ++ c ∷ [])

  -- what follows a value does the same as what follows it as read
  abbrev Follows : (Value → Run) → (Value → Run) → Type 0
  Follows next next' = (v : Value) → Law (next v) (next' (read reading v))

  -- a value as read is of no more kinds
  mutual
    pub of_read : (v : Value) (t : Kind) → IsOf (read reading v) t → IsOf v t
    of_read (Int n) t h = h
    of_read (Items vs) Number h = h
    of_read (Items vs) (ListKind t) h = all_of_read vs t h
    of_read (Items vs) (RefKind t) h = h
    of_read (Named o) Number h = h
    of_read (Named o) (ListKind t) h = h
    of_read (Named o) (RefKind t) h = tt
    of_read (Known c) t h = h

    all_of_read : (vs : Values) (t : Kind) → AreOf (read_items reading vs) t → AreOf vs t
    all_of_read none t h = tt
    all_of_read (more v vs) t h = (of_read v t h.0, all_of_read vs t h.1)

  known_ends : (r : Value) (t : Kind) → IsOf r (RefKind t) → EndsIn (outcome_of r) t
  known_ends (Int n) t h = absurd h
  known_ends (Items vs) t h = absurd h
  known_ends (Named o) t h = tt
  known_ends (Known c) t h = h

  none_first : (bs : List Birth) (b : Birth) → IsFirst (bs ++ b ∷ []) [] → ⊥
  none_first [] b f = f
  none_first (x ∷ xs) b f = f

  -- no answers fit
  none_fit : (run : Run) (base : Id) → AnswersFit run base []
  none_fit (Ends c) base = tt
  none_fit (Prints v next) base = none_fit next base
  none_fit (Bears b m next) base = none_fit (next (named base b)) (behind base b)
  none_fit (Gets t r next) base = tt

  -- so does a first answer that is of the kind as read
  first_fits : (c : Outcome) (t : Kind) (next : Value → Run) (base : Id) → EndsIn (read_outcome reading c) t → Answers (c ∷ []) t (λ v left. AnswersFit (next v) base left)
  first_fits (Val v) t next base h = (of_read v t h, none_fit (next v) base)
  first_fits (Trapped e) t next base h = h

  ends : (e : Completion) → Law (Ends e) (Ends (read_completion reading e))
  ends e = record {
    by = λ base answers h g. record { births = refl; prints = refl; stop = (refl, outcomes-read reading results e) };
    fits = λ t base answers h g s. tt;
    kinds = λ t base answers bs b f h g s. absurd (none_first bs b f);
    more_fit = λ t base answers r c' h g s e' f. absurd (cc);
  }

  prints : (v : Value) (next next' : Run) → Law next next' → Law (Prints v next) (Prints (read reading v) next')
  prints v next next' l = record {
    by = λ base answers h g. let b = l.by base answers h g in record {
      births = b.births;
      prints = ap (λ vs. read reading v ∷ vs) b.prints;
      stop = b.stop;
    };
    fits = λ t base answers h g s. l.fits t base answers h g s.1;
    kinds = λ t base answers bs b f h g s. l.kinds t base answers bs b f h g s.1;
    more_fit = λ t base answers r c h g s e f. l.more_fit t base answers r c h g s.1 e f;
  }

  abbrev pub FollowsAll : (List Value → Run) → (List Value → Run) → Type 0
  FollowsAll next next' = (vs : List Value) → Law (next vs) (next' (map (read reading) vs))

  -- the references of a birth that holds, as read
  references : (b : Birth) (m' : Run) (base : Id) → serial_end (run_birth script (read_birth reading b)) ≡ serial_end m' →
      map reading (ids_from base (results_of b)) ≡ outcomes (results_of b) (end_under reading script b) →
      map (read reading) (named base b) ≡ known (read_birth reading b) (serial_end m')
  references b m' base e h =
      names-read reading (ids_from base (results_of b))
      ∙ ap (λ cs. map Known cs) (h ∙ ap (λ d. outcomes (results_of b) d) e)
      ∙ ap (λ n. map Known (outcomes n (serial_end m'))) (sym (results-read reading b))

  bears : (b : Birth) (m m' : Run) (next next' : List Value → Run) → serial_end (run_birth script (read_birth reading b)) ≡ serial_end m' → FollowsAll next next' → Law (Bears b m next) (Bears (read_birth reading b) m' next')
  bears b m m' next next' e l = record {
    by = λ base answers h g.
        let p = piece results (next (named base b)) (behind base b) answers in
        let P : List Value → Type 0 = λ rs. IsFirst (map (read_outcome reading) answers) (gets_of (serial_trace (next' rs))) → Begins reading results p (length answers) (next' rs) in
        let i : P (known (read_birth reading b) (serial_end m')) = subst P (references b m' base e h.0) ((l (named base b)).by (behind base b) answers h.1) in
        let j = i g in
        record {
          births = ap (λ bs. read_birth reading b ∷ bs) j.births;
          prints = j.prints;
          stop = j.stop;
        };
    fits = λ ts base answers h g s.
        let P : List Value → Type 0 = λ rs. IsFirst (map (read_outcome reading) answers) (gets_of (serial_trace (next' rs))) → IsSafe script (next' rs) ts → AnswersFit (next (named base b)) (behind base b) answers in
        let i : P (known (read_birth reading b) (serial_end m')) = subst P (references b m' base e h.0) ((l (named base b)).fits ts (behind base b) answers h.1) in
        i g (made ts s);
    kinds = λ ts base answers bs b' f h g s. here ts base answers bs b' f h g s;
    more_fit = λ ts base answers r c h g s f d.
        let P : List Value → Type 0 = λ rs. IsFirst (map (read_outcome reading) answers) (gets_of (serial_trace (next' rs))) → IsSafe script (next' rs) ts → AnswersFit (next (named base b)) (behind base b) (answers ++ c ∷ []) in
        let i : P (known (read_birth reading b) (serial_end m')) = subst P (references b m' base e h.0) (λ g' s'. (l (named base b)).more_fit ts (behind base b) answers r c h.1 g' s' f d) in
        i g (made ts s);
  }
    where
      made : (ts : List Kind) → IsSafe script (Bears (read_birth reading b) m' next') ts → IsSafe script (next' (known (read_birth reading b) (serial_end m'))) ts
      made ts s = s.3 _ (known_are script (read_birth reading b) s.0 (serial_end m') s.1 (serial_is_sound script m' s.0 s.2))

      here : (ts : List Kind) (base : Id) (answers : List Outcome) (bs : List Birth) (b' : Birth) → IsFirst (bs ++ b' ∷ []) (piece results (Bears b m next) base answers).births → BirthsHold reading script base bs → IsFirst (map (read_outcome reading) answers) (gets_of (serial_trace (Bears (read_birth reading b) m' next'))) → IsSafe script (Bears (read_birth reading b) m' next') ts → HasKind b'
      here ts base answers [] b' f h g s = subst HasKind f.0 (s.0, s.1)
      here ts base answers (x ∷ xs) b' f h g s =
          let P : List Value → Type 0 = λ rs. IsFirst (map (read_outcome reading) answers) (gets_of (serial_trace (next' rs))) → IsSafe script (next' rs) ts → HasKind b' in
          let h' : BirthsHold reading script base (b ∷ xs) = subst (λ y. BirthsHold reading script base (y ∷ xs)) (sym f.0) h in
          let i : P (known (read_birth reading b) (serial_end m')) = subst P (references b m' base e h'.0) ((l (named base b)).kinds ts (behind base b) answers xs b' f.1 h'.1) in
          i g (made ts s)

  -- after a get that was answered
  abbrev After : Piece → ℕ → (Value → Run) → List Outcome → Outcome → Type 0
  After p n next' answers d =
      IsFirst answers (gets_of (go_on (λ e. []) d (λ v. serial_trace (next' v)))) →
      (map (read_birth reading) p.births ≡ births_of (up_to n (go_on (λ c. []) d (λ v. serial_trace (next' v)))))
      × (map (read reading) p.prints ≡ prints_of (up_to n (go_on (λ c. []) d (λ v. serial_trace (next' v)))))
      × StopsAs reading results p.stop (get_after n (go_on (λ c. []) d (λ v. serial_trace (next' v)))) (go_on Aborted d (λ v. serial_end (next' v)))

  gets : (t : Kind) (r : Value) (next next' : Value → Run) → Follows next next' → Law (Gets t r next) (Gets t (read reading r) next')
  gets t r next next' l = record { by = go; fits = fit; kinds = kind; more_fit = one }
    where
      kind : (us : List Kind) (base : Id) (answers : List Outcome) (bs : List Birth) (b : Birth) → IsFirst (bs ++ b ∷ []) (piece results (Gets t r next) base answers).births → BirthsHold reading script base bs → IsFirst (map (read_outcome reading) answers) (gets_of (serial_trace (Gets t (read reading r) next'))) → IsSafe script (Gets t (read reading r) next') us → HasKind b
      kind us base [] bs b f h g s = absurd (none_first bs b f)
      kind us base (Val v ∷ answers) bs b f h g s =
          let ends_so : EndsIn (Val (read reading v)) t = subst (λ d. EndsIn d t) g.0 (known_ends (read reading r) t s.0) in
          let P : Outcome → Type 0 = λ d. IsFirst (map (read_outcome reading) answers) (gets_of (go_on (λ c. []) d (λ w. serial_trace (next' w)))) in
          (l v).kinds us base answers bs b f h (subst P g.0 g.1) (s.1 (read reading v) ends_so)
      kind us base (Trapped x ∷ answers) bs b f h g s = absurd (none_first bs b f)

      one : (us : List Kind) (base : Id) (answers : List Outcome) (r' : Value) (c : Outcome) → BirthsHold reading script base (piece results (Gets t r next) base answers).births → IsFirst (map (read_outcome reading) answers) (gets_of (serial_trace (Gets t (read reading r) next'))) → IsSafe script (Gets t (read reading r) next') us → (piece results (Gets t r next) base answers).stop ≡ Needs r' → outcome_of (read reading r') ≡ read_outcome reading c → AnswersFit (Gets t r next) base (answers ++ c ∷ [])
      one us base [] r' c h g s e f =
          let same : r' ≡ r = cc in
          first_fits c t (next) base (subst (λ d. EndsIn d t) (ap (λ x. outcome_of (read reading x)) (sym same) ∙ f) (known_ends (read reading r) t s.0))
      one us base (Val v ∷ answers) r' c h g s e f =
          let ends_so : EndsIn (Val (read reading v)) t = subst (λ d. EndsIn d t) g.0 (known_ends (read reading r) t s.0) in
          let P : Outcome → Type 0 = λ d. IsFirst (map (read_outcome reading) answers) (gets_of (go_on (λ c'. []) d (λ w. serial_trace (next' w)))) in
          (of_read v t ends_so, (l v).more_fit us base answers r' c h (subst P g.0 g.1) (s.1 (read reading v) ends_so) e f)
      one us base (Trapped x ∷ answers) r' c h g s e f = absurd (cc)

      fit : (us : List Kind) (base : Id) (answers : List Outcome) → BirthsHold reading script base (piece results (Gets t r next) base answers).births → IsFirst (map (read_outcome reading) answers) (gets_of (serial_trace (Gets t (read reading r) next'))) → IsSafe script (Gets t (read reading r) next') us → AnswersFit (Gets t r next) base answers
      fit us base [] h g s = tt
      fit us base (Val v ∷ answers) h g s =
          let ends_so : EndsIn (Val (read reading v)) t = subst (λ c. EndsIn c t) g.0 (known_ends (read reading r) t s.0) in
          let P : Outcome → Type 0 = λ d. IsFirst (map (read_outcome reading) answers) (gets_of (go_on (λ c. []) d (λ w. serial_trace (next' w)))) in
          (of_read v t ends_so, (l v).fits us base answers h (subst P g.0 g.1) (s.1 (read reading v) ends_so))
      fit us base (Trapped e ∷ answers) h g s = subst (λ c. EndsIn c t) g.0 (known_ends (read reading r) t s.0)

      go : (base : Id) (answers : List Outcome) → BirthsHold reading script base (piece results (Gets t r next) base answers).births → IsFirst (map (read_outcome reading) answers) (gets_of (serial_trace (Gets t (read reading r) next'))) → Begins reading results (piece results (Gets t r next) base answers) (length answers) (Gets t (read reading r) next')
      go base [] h g = record { births = refl; prints = refl; stop = refl }
      go base (Val v ∷ answers) h g =
          let p = piece results (next v) base answers in
          let first : After p (length answers) next' (map (read_outcome reading) answers) (Val (read reading v)) = λ g'. let b = (l v).by base answers h g' in (b.births, b.prints, b.stop) in
          let here = subst (After p (length answers) next' (map (read_outcome reading) answers)) (sym g.0) first g.1 in
          record { births = here.0; prints = here.1; stop = here.2 }
      go base (Trapped e ∷ answers) h g =
          let p = over results (Aborted e) in
          let first : After p (length answers) next' (map (read_outcome reading) answers) (Trapped e) = λ g'. (refl, refl, (refl, outcomes-read reading results (Aborted e))) in
          let here = subst (After p (length answers) next' (map (read_outcome reading) answers)) (sym g.0) first g.1 in
          record { births = here.0; prints = here.1; stop = here.2 }

  -- an outcome as read, and what goes on with its value
  proceeds : (c : Outcome) (next next' : Value → Run) → Follows next next' → Law (proceed c next) (proceed (read_outcome reading c) next')
  proceeds (Val v) next next' l = l v
  proceeds (Trapped t) next next' l = ends (Aborted t)

  -- Values and scopes as read

  abbrev read_variable : Variable → Variable
  read_variable w = record { name = w.name; value = read reading w.value }

  numbers : (v : Value) (f f' : ℤ → Outcome) → ((n : ℤ) → read_outcome reading (f n) ≡ f' n) → read_outcome reading (as_number (Trapped Broken) v f) ≡ as_number (Trapped Broken) (read reading v) f'
  numbers (Int n) f f' e = e n
  numbers (Items vs) f f' e = refl
  numbers (Named o) f f' e = refl
  numbers (Known c) f f' e = refl

  items : (v : Value) (f f' : Values → Outcome) → ((vs : Values) → read_outcome reading (f vs) ≡ f' (read_items reading vs)) → read_outcome reading (as_items (Trapped Broken) v f) ≡ as_items (Trapped Broken) (read reading v) f'
  items (Int n) f f' e = refl
  items (Items vs) f f' e = e vs
  items (Named o) f f' e = refl
  items (Known c) f f' e = refl

  -- a number, or nothing that goes on
  number_runs : (v : Value) (f f' : ℤ → Run) → ((n : ℤ) → Law (f n) (f' n)) → Law (as_number broken v f) (as_number broken (read reading v) f')
  number_runs (Int n) f f' l = l n
  number_runs (Items vs) f f' l = ends (Aborted Broken)
  number_runs (Named o) f f' l = ends (Aborted Broken)
  number_runs (Known c) f f' l = ends (Aborted Broken)

  get_runs : (t : Kind) (r : Value) (next next' : Value → Run) → Follows next next' → Law (get_from t r next) (get_from t (read reading r) next')
  get_runs t (Int n) next next' l = ends (Aborted Broken)
  get_runs t (Items vs) next next' l = ends (Aborted Broken)
  get_runs t (Named o) next next' l = gets t (Named o) next next' l
  get_runs t (Known c) next next' l = gets t (Known c) next next' l

  -- arithmetic gives no reference
  in_range-read : (n : ℤ) → read_outcome reading (in_range n) ≡ in_range n
  in_range-read n = elim (fits n) as (λ b. read_outcome reading (if b then Val (Int n) else Trapped Overflow) ≡ (if b then Val (Int n) else Trapped Overflow)) [ true ↦ refl | false ↦ refl ]

  quotient-read : (m n : ℤ) → read_outcome reading (quotient m n) ≡ quotient m n
  quotient-read m (pos zero) = refl
  quotient-read m (pos (suc n)) = in_range-read (int_div m (pos (suc n)))
  quotient-read m (negsuc n) = in_range-read (int_div m (negsuc n))

  remainder-read : (m n : ℤ) → read_outcome reading (remainder m n) ≡ remainder m n
  remainder-read m (pos zero) = refl
  remainder-read m (pos (suc n)) = refl
  remainder-read m (negsuc n) = elim (fits (int_div m (negsuc n))) as (λ b. read_outcome reading (if b then Val (Int (int_rem m (negsuc n))) else Trapped Overflow) ≡ (if b then Val (Int (int_rem m (negsuc n))) else Trapped Overflow)) [ true ↦ refl | false ↦ refl ]

  count-read : (vs : Values) → count (read_items reading vs) ≡ count vs
  count-read none = refl
  count-read (more v vs) = ap (λ n. n + 1) (count-read vs)

  index-read : (vs : Values) (i : ℕ) → read_outcome reading (found (item_at vs i)) ≡ found (item_at (read_items reading vs) i)
  index-read none i = refl
  index-read (more v vs) zero = refl
  index-read (more v vs) (suc i) = index-read vs i

  push_onto-read : (vs : Values) (w : Value) → read_items reading (push_onto vs w) ≡ push_onto (read_items reading vs) (read reading w)
  push_onto-read none w = refl
  push_onto-read (more v vs) w = ap (λ ws. more (read reading v) ws) (push_onto-read vs w)

  push-read : (vs : Values) (w : Value) → read_outcome reading (push vs w) ≡ push (read_items reading vs) (read reading w)
  push-read vs w =
      (elim (nat_lt (count vs) 4096) as (λ b. read_outcome reading (if b then Val (Items (push_onto vs w)) else Trapped TooLong) ≡ (if b then Val (Items (push_onto (read_items reading vs) (read reading w))) else Trapped TooLong)) [ true ↦ ap (λ ws. Val (Items ws)) (push_onto-read vs w) | false ↦ refl ])
      ∙ ap (λ n. if nat_lt n 4096 then Val (Items (push_onto (read_items reading vs) (read reading w))) else Trapped TooLong) (sym (count-read vs))

  at-read : (vs : Values) (i : ℤ) → read_outcome reading (index vs i) ≡ index (read_items reading vs) i
  at-read vs (pos n) = index-read vs n
  at-read vs (negsuc n) = refl

  values_of-read : (vs : List Value) → read_items reading (values_of vs) ≡ values_of (map (read reading) vs)
  values_of-read [] = refl
  values_of-read (v ∷ vs) = ap (λ ws. more (read reading v) ws) (values_of-read vs)

  two_numbers : (f : ℤ → ℤ → Outcome) (v w : Value) → ((m n : ℤ) → read_outcome reading (f m n) ≡ f m n) → read_outcome reading (on_numbers v w f) ≡ on_numbers (read reading v) (read reading w) f
  two_numbers f v w e = numbers v _ _ (λ m. numbers w _ _ (λ n. e m n))

  apply-read : (op : Operator) (v w : Value) → read_outcome reading (apply op v w) ≡ apply op (read reading v) (read reading w)
  apply-read Add v w = two_numbers (λ m n. in_range (m +ℤ n)) v w (λ m n. in_range-read (m +ℤ n))
  apply-read Sub v w = two_numbers (λ m n. in_range (m -ℤ n)) v w (λ m n. in_range-read (m -ℤ n))
  apply-read Mul v w = two_numbers (λ m n. in_range (m *ℤ n)) v w (λ m n. in_range-read (m *ℤ n))
  apply-read Div v w = two_numbers quotient v w quotient-read
  apply-read Rem v w = two_numbers remainder v w remainder-read
  apply-read Equal v w = two_numbers (λ m n. truth (int_eq m n)) v w (λ m n. refl)
  apply-read Unequal v w = two_numbers (λ m n. truth (not (int_eq m n))) v w (λ m n. refl)
  apply-read Less v w = two_numbers (λ m n. truth (int_lt m n)) v w (λ m n. refl)
  apply-read LessEqual v w = two_numbers (λ m n. truth (int_le m n)) v w (λ m n. refl)
  apply-read ItemAt v w = items v _ _ (λ vs. numbers w _ _ (λ n. at-read vs n))
  apply-read Push v w = items v _ _ (λ vs. push-read vs w)

  apply_one-read : (op : Prefix) (v : Value) → read_outcome reading (apply_one op v) ≡ apply_one op (read reading v)
  apply_one-read Negate v = numbers v _ _ (λ n. in_range-read (neg_ℤ n))
  apply_one-read Len v = items v _ _ (λ vs. ap (λ n. Val (Int (pos n))) (sym (count-read vs)))

  value_in-read : (scope : Scope) (x : Name) → read_outcome reading (value_in scope x) ≡ value_in (map read_variable scope) x
  value_in-read [] x = refl
  value_in-read (w ∷ scope) x =
      let e = value_in-read scope x in
      elim (same_name w.name x) as (λ b. read_outcome reading (if b then Val w.value else value_in scope x) ≡ (if b then Val (read reading w.value) else value_in (map read_variable scope) x)) [ true ↦ refl | false ↦ e ]

  bind-read : (scope : Scope) (x : Name) (v : Value) → map read_variable (bind scope x v) ≡ bind (map read_variable scope) x (read reading v)
  bind-read [] x v = refl
  bind-read (w ∷ scope) x v = ap (λ s. read_variable w ∷ s) (bind-read scope x v)

  set_in-read : (scope : Scope) (x : Name) (v : Value) → map read_variable (set_in scope x v) ≡ set_in (map read_variable scope) x (read reading v)
  set_in-read [] x v = refl
  set_in-read (w ∷ scope) x v =
      let e = ap (λ s. read_variable w ∷ s) (set_in-read scope x v) in
      elim (same_name w.name x) as (λ b. map read_variable (if b then (record w { value = v }) ∷ scope else w ∷ set_in scope x v) ≡ (if b then (record (read_variable w) { value = read reading v }) ∷ map read_variable scope else read_variable w ∷ set_in (map read_variable scope) x (read reading v))) [ true ↦ refl | false ↦ e ]

  take-read : (n : ℕ) (scope : Scope) → map read_variable (take n scope) ≡ take n (map read_variable scope)
  take-read zero scope = refl
  take-read (suc n) [] = refl
  take-read (suc n) (w ∷ scope) = ap (λ s. read_variable w ∷ s) (take-read n scope)

  mark-read : (vs : List Value) (ms : List Bool) → map (read_argument reading) (mark vs ms) ≡ mark (map (read reading) vs) ms
  mark-read [] ms = refl
  mark-read (v ∷ vs) [] = ap (λ as'. record { value = read reading v; marked = false } ∷ as') (mark-read vs [])
  mark-read (v ∷ vs) (m ∷ ms) = ap (λ as'. record { value = read reading v; marked = m } ∷ as') (mark-read vs ms)

  abbrev FollowsScope : (Scope → Run) → (Scope → Run) → Type 0
  FollowsScope next next' = (scope : Scope) → Law (next scope) (next' (map read_variable scope))

  bound : (ps : List Parameter) (vs : List Value) (next next' : Scope → Run) → FollowsScope next next' → Law (bind_all broken ps vs next) (bind_all broken ps (map (read reading) vs) next')
  bound [] [] next next' l = l []
  bound [] (v ∷ vs) next next' l = ends (Aborted Broken)
  bound (p ∷ ps) [] next next' l = ends (Aborted Broken)
  bound (p ∷ ps) (v ∷ vs) next next' l = bound ps vs _ _ (λ scope. l (record { name = p.name; value = v } ∷ scope))

  binds : (xs : List Name) (vs : List Value) (scope : Scope) (next next' : Scope → Run) → FollowsScope next next' → Law (bind_each broken scope xs vs next) (bind_each broken (map read_variable scope) xs (map (read reading) vs) next')
  binds [] [] scope next next' l = l scope
  binds [] (v ∷ vs) scope next next' l = ends (Aborted Broken)
  binds (x ∷ xs) [] scope next next' l = ends (Aborted Broken)
  binds (x ∷ xs) (v ∷ vs) scope next next' l =
      subst (λ s. Law (bind_each broken (bind scope x v) xs vs next) (bind_each broken s xs (map (read reading) vs) next')) (bind-read scope x v)
      (binds xs vs (bind scope x v) next next' l)

  takes_only : (vs : List Value) (next next' : Value → Run) → Follows next next' → Law (only vs next) (only (map (read reading) vs) next')
  takes_only [] next next' l = ends (Aborted Broken)
  takes_only (v ∷ []) next next' l = l v
  takes_only (v ∷ w ∷ vs) next next' l = ends (Aborted Broken)

  dereferences : (ps : List Parameter) (args : List Argument) (next next' : List Value → Run) → FollowsAll next next' → Law (dereference ps args next) (dereference ps (map (read_argument reading) args) next')
  dereferences ps [] next next' l = l []
  dereferences [] (a ∷ args) next next' l = ends (Aborted Broken)
  dereferences (p ∷ ps) (a ∷ args) next next' l =
      let rest = λ (v : Value). dereferences ps args (λ vs. next (v ∷ vs)) (λ vs. next' (read reading v ∷ vs)) (λ vs. l (v ∷ vs)) in
      let got = get_runs p.kind a.value (λ v. dereference ps args (λ vs. next (v ∷ vs))) (λ v. dereference ps (map (read_argument reading) args) (λ vs. next' (v ∷ vs))) rest in
      let here = rest a.value in
      elim a.marked as (λ m. Law (if m then get_from p.kind a.value (λ v. dereference ps args (λ vs. next (v ∷ vs))) else dereference ps args (λ vs. next (a.value ∷ vs)))
      (if m then get_from p.kind (read reading a.value) (λ v. dereference ps (map (read_argument reading) args) (λ vs. next' (v ∷ vs))) else dereference ps (map (read_argument reading) args) (λ vs. next' (read reading a.value ∷ vs)))) [ true ↦ got | false ↦ here ]

  proceeds_as : (c c' : Outcome) (next next' : Value → Run) → read_outcome reading c ≡ c' → Follows next next' → Law (proceed c next) (proceed c' next')
  proceeds_as c c' next next' e l = subst (λ d. Law (proceed c next) (proceed d next')) e (proceeds c next next' l)

  -- calls that keep the law
  record CallsFollow (calls : Calls) : Type 0 where
    plain : (g : Name) (args : List Value) (next next' : List Value → Run) → FollowsAll next next' → Law (calls.plain g args next) (calls.plain g (map (read reading) args) next')
    task : (g : Name) (args : List Argument) → run_task script g args calls.depth ≡ calls.task g args

  module _ (calls : Calls) (follow : CallsFollow calls) where
    remote : (retries others : ℕ) (g : Name) (marks : List Bool) (vs : List Value) (next next' : List Value → Run) → FollowsAll next next' →
        Law (Bears (Task g (mark vs marks) calls.depth retries others) (calls.task g (mark vs marks)) next) (Bears (Task g (mark (map (read reading) vs) marks) calls.depth retries others) (calls.task g (mark (map (read reading) vs) marks)) next')
    remote retries others g marks vs next next' l =
        let args = mark vs marks in
        subst (λ args'. Law (Bears (Task g args calls.depth retries others) (calls.task g args) next) (Bears (Task g args' calls.depth retries others) (calls.task g args') next')) (mark-read vs marks)
        (bears (Task g args calls.depth retries others) (calls.task g args) (calls.task g (map (read_argument reading) args)) next next' (ap serial_end (follow.task g (map (read_argument reading) args))) l)

    mutual
      evaluates : (e : Expr) (scope : Scope) (next next' : Value → Run) → Follows next next' → Law (evaluate calls e scope next) (evaluate calls e (map read_variable scope) next')
      evaluates (Num n) scope next next' l = l (Int n)
      evaluates (Var x) scope next next' l = proceeds_as _ _ next next' (value_in-read scope x) l
      evaluates (Empty t) scope next next' l = l (Items none)
      evaluates (Binary op a b) scope next next' l =
          evaluates a scope _ _ (λ v. evaluates b scope _ _ (λ w. proceeds_as _ _ next next' (apply-read op v w) l))
      evaluates (Unary op a) scope next next' l = evaluates a scope _ _ (λ v. proceeds_as _ _ next next' (apply_one-read op v) l)
      evaluates (ListOf items) scope next next' l =
          evaluates_all items scope _ _ (λ vs. subst (λ ws. Law (next (Items (values_of vs))) (next' (Items ws))) (values_of-read vs) (l (Items (values_of vs))))
      evaluates (Call g args) scope next next' l = evaluates_all args scope _ _ (λ vs. follow.plain g vs _ _ (λ ws. takes_only ws next next' l))
      evaluates (Remote retries g marks args) scope next next' l = evaluates_all args scope _ _ (λ vs. remote retries 0 g marks vs _ _ (λ rs. takes_only rs next next' l))
      evaluates (PutOf a) scope next next' l = evaluates a scope _ _ (λ v. bears (Put v) _ _ _ _ refl (λ rs. takes_only rs next next' l))
      evaluates (GetOf t a) scope next next' l = evaluates a scope _ _ (λ r. get_runs t r next next' l)

      evaluates_all : (es : Exprs) (scope : Scope) (next next' : List Value → Run) → FollowsAll next next' → Law (evaluate_all calls es scope next) (evaluate_all calls es (map read_variable scope) next')
      evaluates_all end scope next next' l = l []
      evaluates_all (also e es) scope next next' l = evaluates e scope _ _ (λ v. evaluates_all es scope _ _ (λ vs. l (v ∷ vs)))

    leaves : (before scope : Scope) (next next' : Scope → Run) → FollowsScope next next' → Law (leave calls before next scope) (leave calls (map read_variable before) next' (map read_variable scope))
    leaves before scope next next' l =
        let n = length before in
        subst (λ m. Law (next (take n scope)) (next' (take m (map read_variable scope)))) (sym (length-map before read_variable))
        (subst (λ s. Law (next (take n scope)) (next' s)) (take-read n scope) (l (take n scope)))

    -- what a turn does keeps the law
    abbrev FollowsTurn : (ℤ → Scope → (Scope → Run) → Run) → (ℤ → Scope → (Scope → Run) → Run) → Type 0
    FollowsTurn body body' = (i : ℤ) (scope : Scope) (next next' : Scope → Run) → FollowsScope next next' → Law (body i scope next) (body' i (map read_variable scope) next')

    turn : (n : ℕ) (i : ℤ) (body body' : ℤ → Scope → (Scope → Run) → Run) (scope : Scope) (next next' : Scope → Run) → FollowsTurn body body' → FollowsScope next next' → Law (turns calls n i body scope next) (turns calls n i body' (map read_variable scope) next')
    turn zero i body body' scope next next' f l = l scope
    turn (suc n) i body body' scope next next' f l = f i scope _ _ (λ after. turn n (i +ℤ pos 1) body body' after next next' f l)

    loops : (from to : ℤ) (body body' : ℤ → Scope → (Scope → Run) → Run) (scope : Scope) (next next' : Scope → Run) → FollowsTurn body body' → FollowsScope next next' → Law (turns_within calls from to body scope next) (turns_within calls from to body' (map read_variable scope) next')
    loops from to body body' scope next next' f l =
        let n = turn_count (to -ℤ from) in
        let run = turn n from body body' scope next next' f l in
        elim (nat_lt 10000 n) as (λ b. Law (if b then Ends (Aborted Loop) else turns calls n from body scope next) (if b then Ends (Aborted Loop) else turns calls n from body' (map read_variable scope) next')) [ true ↦ ends (Aborted Loop) | false ↦ run ]

    choice : (n : ℤ) (a a' b b' : Run) → Law a a' → Law b b' → Law (if is_zero n then b else a) (if is_zero n then b' else a')
    choice n a a' b b' la lb = elim (is_zero n) as (λ z. Law (if z then b else a) (if z then b' else a')) [ true ↦ lb | false ↦ la ]

    in_scope : (s s' : Scope) (next next' : Scope → Run) → map read_variable s ≡ s' → FollowsScope next next' → Law (next s) (next' s')
    in_scope s s' next next' e l = subst (λ z. Law (next s) (next' z)) e (l s)

    mutual
      executes : (s : Stmt) (scope : Scope) (next next' : Scope → Run) (return return' : List Value → Run) → FollowsScope next next' → FollowsAll return return' → Law (execute calls s scope next return) (execute calls s (map read_variable scope) next' return')
      executes (Let x e) scope next next' return return' l r = evaluates e scope _ _ (λ v. in_scope _ _ next next' (bind-read scope x v) l)
      executes (LetCall x xs g args) scope next next' return return' l r =
          evaluates_all args scope _ _ (λ vs. follow.plain g vs _ _ (λ ws. binds (x ∷ xs) ws scope next next' l))
      executes (LetRemote x xs retries g marks args) scope next next' return return' l r =
          evaluates_all args scope _ _ (λ vs. remote retries (length xs) g marks vs _ _ (λ rs. binds (x ∷ xs) rs scope next next' l))
      executes (Set x e) scope next next' return return' l r = evaluates e scope _ _ (λ v. in_scope _ _ next next' (set_in-read scope x v) l)
      executes (Print e) scope next next' return return' l r = evaluates e scope _ _ (λ v. prints v _ _ (l scope))
      executes (Return es) scope next next' return return' l r = evaluates_all es scope _ _ r
      executes (If e a b) scope next next' return return' l r =
          evaluates e scope _ _ (λ v. number_runs v _ _ (λ n. choice n _ _ _ _
          (executes_all a scope _ _ return return' (λ after. leaves scope after next next' l) r)
          (executes_all b scope _ _ return return' (λ after. leaves scope after next next' l) r)))
      executes (For x from to body) scope next next' return return' l r =
          evaluates from scope _ _ (λ v. evaluates to scope _ _ (λ w. number_runs v _ _ (λ m. number_runs w _ _ (λ n. loops m n _ _ scope next next'
          (λ i before k k' lk.
          subst (λ s. Law (execute_all calls body (bind before x (Int i)) (leave calls before k) return) (execute_all calls body s (leave calls (map read_variable before) k') return')) (bind-read before x (Int i))
          (executes_all body (bind before x (Int i)) _ _ return return' (λ after. leaves before after k k' lk) r))
          l))))

      executes_all : (b : Block) (scope : Scope) (next next' : Scope → Run) (return return' : List Value → Run) → FollowsScope next next' → FollowsAll return return' → Law (execute_all calls b scope next return) (execute_all calls b (map read_variable scope) next' return')
      executes_all done scope next next' return return' l r = l scope
      executes_all (step s rest) scope next next' return return' l r = executes s scope _ _ return return' (λ after. executes_all rest after next next' return return' l r) r

    enters : (f : Option Function) (args : List Value) (next next' : List Value → Run) → FollowsAll next next' → Law (enter calls f args next) (enter calls f (map (read reading) args) next')
    enters None args next next' l = ends (Aborted Broken)
    enters (Some f) args next next' l = bound f.parameters args _ _ (λ scope. executes_all f.body scope _ _ next next' (λ _. ends (Aborted Broken)) l)

  -- the task that a remote call makes is the run of its birth
  same_task : (n : ℕ) (g : Name) (args : List Argument) → n ≤ 32 → run_task script g args (33 - n) ≡ task_by (no_level n) (parameters_of (find script g)) (call_at script n g) args
  same_task zero g args h = refl
  same_task (suc n) g args h =
      let levels : 33 - (33 - suc n) ≡ suc n = omega arith in
      let shallow : nat_lt 32 (33 - suc n) ≡ false = search (rules, nat_tests) in
      ap (λ b. task_by b (parameters_of (find script g)) (call_at script (33 - (33 - suc n)) g) args) shallow ∙ ap (λ m. task_by false (parameters_of (find script g)) (call_at script m g) args) levels

  calls_follow : (n : ℕ) → n ≤ 33 → (g : Name) (args : List Value) (next next' : List Value → Run) → FollowsAll next next' → Law (call_at script n g args next) (call_at script n g (map (read reading) args) next')
  unfolding call_at
  calls_follow zero h g args next next' l = ends (Aborted TooDeep)
  calls_follow (suc n) h g args next next' l =
      enters (calls_below script n)
      (record { plain = calls_follow n (omega arith); task = λ g' args'. same_task n g' args' (omega arith) })
      (find script g) args next next' l

  tasks_follow : (b : Bool) (ps : List Parameter) (call : List Value → (List Value → Run) → Run) (args : List Argument) →
      ((vs : List Value) (next next' : List Value → Run) → FollowsAll next next' → Law (call vs next) (call (map (read reading) vs) next')) →
      Law (task_by b ps call args) (task_by b ps call (map (read_argument reading) args))
  tasks_follow true ps call args l = ends (Aborted TooDeep)
  tasks_follow false ps call args l = dereferences ps args _ _ (λ vs. l vs _ _ (λ ws. ends (Returned ws)))

  pub births_follow : (b : Birth) → Law (run_birth script b) (run_birth script (read_birth reading b))
  births_follow (Put v) = ends (Returned (v ∷ []))
  births_follow (Task g args depth retries others) = tasks_follow (nat_lt 32 depth) (parameters_of (find script g)) (call_at script (33 - depth) g) args (calls_follow (33 - depth) (omega arith) g)

pub law_of_replay : LawOfReplay
law_of_replay script reading spec base answers h g = (births_follow script reading (results_of spec) spec).by base answers h g
