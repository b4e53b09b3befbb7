-- The first of some lists stay the first, and are counted.
use Rattle.std.proofs.Common.{◌≡◌, ◌≤◌, ◌<◌, ℕ, zero, suc, ◌+◌, List, [], ◌∷◌, ◌++◌, length, take, refl, sym, ap, ◌∙◌, subst, arith, append-nil, append_assoc, length-append}
use Rattle.faulted_history.specs.declared.fault_list.FaultList.{FaultList}
use Rattle.fault_lists.specs.declared.first_lists.FirstLists.{FirstLists}
use Rattle.event_log.specs.Entries.{Event, Entry, In, Refused, Opened, Begun, Born, Got, Printed, Ended, Accepted, Faulted, Resolved, Released}
use Rattle.fault_lists.specs.declared.choice.FaultChoice.{FaultChoice}
use Rattle.fault_lists.specs.declared.seen.Seen.{Seen}
use Rattle.fault_lists.specs.Firsts.{Adds, Keeps}
use Rattle.fault_lists.specs.Lists.{lists_from, with_entry}

module _ {X : Type 0} where
  -- so many of a list are all, where it has no more
  take_all : (n : ℕ) (xs : List X) → length xs ≤ n → take n xs ≡ xs
  take_all n [] h = take_none n
    where
      take_none : (n : ℕ) → take {A = X} n [] ≡ []
      take_none zero = refl
      take_none (suc n) = refl
  take_all zero (x ∷ xs) h = absurd (omega (arith, h))
  take_all (suc n) (x ∷ xs) h = ap (λ ys. x ∷ ys) (take_all n xs (omega (arith, h)))

  -- what comes behind as many isn't among them
  take_short : (n : ℕ) (xs ys : List X) → n ≤ length xs → take n (xs ++ ys) ≡ take n xs
  take_short zero xs ys h = none xs
    where
      none : (xs : List X) → take 0 (xs ++ ys) ≡ take 0 xs
      none [] = zero_of ys
        where
          zero_of : (ys : List X) → take {A = X} 0 ys ≡ []
          zero_of [] = refl
          zero_of (y ∷ ys) = refl
      none (x ∷ xs) = refl
  take_short (suc n) [] ys h = absurd (omega (arith, h))
  take_short (suc n) (x ∷ xs) ys h = ap (λ zs. x ∷ zs) (take_short n xs ys (omega (arith, h)))

  length_take : (n : ℕ) (xs : List X) → n ≤ length xs → length (take n xs) ≡ n
  length_take zero [] h = refl
  length_take zero (x ∷ xs) h = refl
  length_take (suc n) [] h = absurd (omega (arith, h))
  length_take (suc n) (x ∷ xs) h = ap suc (length_take n xs (omega (arith, h)))

-- one list more, which is kept where fewer are kept than may be
one_kept : (n : ℕ) (all : List FaultList) (x : FaultList) → length (take n all) < n → take n (all ++ x ∷ []) ≡ take n all ++ x ∷ []
one_kept n all x few =
    let short : length all < n = fewer n all few in
    take_all n (all ++ x ∷ []) (omega (arith, short, length-append all (x ∷ []))) ∙ ap (λ xs. xs ++ x ∷ []) (sym (take_all n all (omega (arith, short))))
  where
    fewer : (n : ℕ) (all : List FaultList) → length (take n all) < n → length all < n
    fewer zero all few = absurd (omega (arith, few))
    fewer (suc n) [] few = omega arith
    fewer (suc n) (x ∷ all) few = omega (arith, fewer n all (omega (arith, few)))

enough : (n : ℕ) (all : List FaultList) → n ≤ length (take n all) → n ≤ length all
enough zero all h = omega arith
enough (suc n) [] h = absurd (omega (arith, h))
enough (suc n) (x ∷ all) h = omega (arith, enough n all (omega (arith, h)))

pub kept : (before after : FirstLists) (x : FaultList) → after.most ≡ before.most → length before.first < before.most → after.first ≡ before.first ++ x ∷ [] →
    after.count ≡ before.count + 1 → Adds before (x ∷ []) after
kept before after x most few first count = record {
  most = most;
  keeps = λ all h. record {
    first =
        first ∙ ap (λ xs. xs ++ x ∷ []) h.first
        ∙ sym (one_kept before.most all x (subst (λ xs. length xs < before.most) h.first few))
        ∙ ap (λ n. take n (all ++ x ∷ [])) (sym most);
    count = count ∙ ap (λ n. n + 1) h.count ∙ sym (length-append all (x ∷ []));
  };
}

pub counted : (before after : FirstLists) (x : FaultList) → after.most ≡ before.most → before.most ≤ length before.first → after.first ≡ before.first →
    after.count ≡ before.count + 1 → Adds before (x ∷ []) after
counted before after x most enough_kept first count = record {
  most = most;
  keeps = λ all h. record {
    first =
        first ∙ h.first
        ∙ sym (take_short before.most all (x ∷ []) (enough before.most all (subst (λ xs. before.most ≤ length xs) h.first enough_kept)))
        ∙ ap (λ n. take n (all ++ x ∷ [])) (sym most);
    count = count ∙ ap (λ n. n + 1) h.count ∙ sym (length-append all (x ∷ []));
  };
}

-- nothing is added
pub adds_none : (before : FirstLists) (none : List FaultList) → none ≡ [] → Adds before none before
adds_none before none is = record {
  most = refl;
  keeps = λ all h. subst (Keeps before) (sym (append-nil all) ∙ ap (λ xs. all ++ xs) (sym is)) h;
}

-- one after the other
pub adds_then : (before between after : FirstLists) (xs ys : List FaultList) → Adds before xs between → Adds between ys after → Adds before (xs ++ ys) after
adds_then before between after xs ys a b = record {
  most = b.most ∙ a.most;
  keeps = λ all h. subst (Keeps after) (append_assoc all xs ys) (b.keeps (all ++ xs) (a.keeps all h));
}

-- and that is what is to be added
pub adds_one : (before between after : FirstLists) (xs ys all : List FaultList) → Adds before xs between → Adds between ys after → all ≡ xs ++ ys → Adds before all after
adds_one before between after xs ys all a b is = subst (λ zs. Adds before zs after) (sym is) (adds_then before between after xs ys a b)

-- what is no event leads on to what is left behind it
step : (choice : FaultChoice) (place : ℕ) (seen : Seen) (rest : List Entry) (x : Entry) → ((e : Event) (seat : ℕ) → x ≡ In e seat → ⊥) →
    lists_from choice place seen (x ∷ rest) ≡ lists_from choice place (with_entry x seen) rest
step choice place seen rest (In e seat) other = absurd (other e seat refl)
step choice place seen rest (Refused refusal) other = refl
step choice place seen rest (Opened w n) other = refl
step choice place seen rest (Begun a w) other = refl
step choice place seen rest (Born o a birth) other = refl
step choice place seen rest (Got a o c) other = refl
step choice place seen rest (Printed v) other = refl
step choice place seen rest (Ended a cs) other = refl
step choice place seen rest (Accepted a) other = refl
step choice place seen rest (Faulted a o f) other = refl
step choice place seen rest (Resolved o f) other = refl
step choice place seen rest (Released o) other = refl

pub passed : (choice : FaultChoice) (place : ℕ) (seen then : Seen) (left rest : List Entry) (x : Entry) → left ≡ x ∷ rest →
    ((e : Event) (seat : ℕ) → x ≡ In e seat → ⊥) → then ≡ with_entry x seen → lists_from choice place seen left ≡ lists_from choice place then rest
passed choice place seen then left rest x is other noted =
    ap (lists_from choice place seen) is ∙ step choice place seen rest x other ∙ ap (λ t. lists_from choice place t rest) (sym noted)
