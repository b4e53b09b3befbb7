-- A worker's event takes no primary copy away, and what it logs of births and ends comes of a commit alone.
use Rattle.std.proofs.Common.{◌≡◌, ℕ, zero, suc, List, [], ◌∷◌, ◌++◌, refl, subst, ◌⊎◌, inl, inr}
use Rattle.std.specs.Prelude.{Bool, true, false, slice_get, Some, ◌+◌}
use Rattle.protocol.specs.Sets.{object_id}
use Rattle.sequence.proofs.Places.{and_left, and_right}
use Rattle.meaning.specs.Values.{Id, Outcome, Put, Value}
use Rattle.values.specs.Cells.{is_small}
use Rattle.event_log.specs.Breaks.{Among}
use Rattle.event_log.specs.Entries.{Accepted, Attempt, Begun, Born, Ended, Entry, Faulted, Got, In, Opened, Printed, Refused, Released, Resolved}
use Rattle.event_log.specs.Words.{attempt}
use Rattle.protocol.specs.Nodes.{NodeContext}
use Rattle.protocol.specs.Steps.{WorkerContext}
use Rattle.protocol.specs.Stores.{Store}
use Rattle.protocol_owed.proofs.Envelopes.{among-append_cases}
use Rattle.smallest_steps.proofs.SlotMoves as S
use Rattle.owed_laws.proofs.StoreMoves.{IsKept, Stores, is_mute, is_quiet}

-- the entries bear the put
abbrev pub IsNewPut : List Entry → Id → ℕ → Type 0
IsNewPut es o n = (a : Attempt) × (v : Value) × Among (Born o a (Put v)) es × (n ≡ 0)

-- they say that the attempt of that number of the task with that first object ended, with a content for the object that isn't small
pub record IsNewEnd (es : List Entry) (first o : Id) (n : ℕ) : Type 0 where
  pub contents : List Outcome
  pub place : ℕ
  pub content : Outcome
  pub ended : Among (Ended (attempt first n) contents) es
  pub is : o ≡ object_id first.owner (first.serial + place)
  pub has : slice_get contents place ≡ Some content
  pub big : is_small content ≡ false

abbrev pub IsNewIn : List Entry → Id → ℕ → Type 0
IsNewIn es o n = IsNewPut es o n ⊎ ((first : Id) × IsNewEnd es first o n)

pub ends_in : (es fs : List Entry) (first o : Id) (n : ℕ) (q : IsNewEnd es first o n) → Among (Ended (attempt first n) q.contents) fs → IsNewEnd fs first o n
ends_in es fs first o n q i =
    record { contents = q.contents; place = q.place; content = q.content; ended = i; is = q.is; has = q.has; big = q.big }

abbrev is_making : Entry → Bool
is_making (Born o a b) = true
is_making (Ended a c) = true
is_making _ = false

mute_makes_none : (x : Entry) → is_mute x ≡ true → is_making x ≡ false
mute_makes_none (Born o a b) e = absurd (cc)
mute_makes_none (Ended a c) e = absurd (cc)
mute_makes_none (In e seat) q = refl
mute_makes_none (Refused code) q = refl
mute_makes_none (Opened w n) q = refl
mute_makes_none (Begun a w) q = refl
mute_makes_none (Got a y c) q = refl
mute_makes_none (Printed v) q = refl
mute_makes_none (Accepted a) q = refl
mute_makes_none (Faulted a y f) q = refl
mute_makes_none (Resolved o f) q = refl
mute_makes_none (Released o) q = refl

mute_there : (es : List Entry) (x : Entry) → is_quiet es ≡ true → Among x es → is_making x ≡ false
mute_there [] x q (k, e) = absurd (cc)
mute_there (y ∷ es) x q (zero, e) = let same : y ≡ x = cc in subst (λ z. is_making z ≡ false) same (mute_makes_none y (and_left (is_mute y) (is_quiet es) q))
mute_there (y ∷ es) x q (suc k, e) = mute_there es x (and_right (is_mute y) (is_quiet es) q) (k, e)

never : true ≡ false → ⊥
never e = cc

put_before : (xs es : List Entry) → ((x : Entry) → Among x es → is_making x ≡ false) → (o : Id) (n : ℕ) → IsNewPut (xs ++ es) o n → IsNewPut xs o n
put_before xs es none o n (a, v, i, z) =
    elim (among-append_cases xs es (Born o a (Put v)) i) [ inl old ↦ (a, v, old, z) | inr new ↦ absurd (never (none _ new)) ]

end_before : (xs es : List Entry) → ((x : Entry) → Among x es → is_making x ≡ false) → (first o : Id) (n : ℕ) → IsNewEnd (xs ++ es) first o n →
    IsNewEnd xs first o n
end_before xs es none first o n q = elim (among-append_cases xs es (Ended (attempt first n) q.contents) q.ended) [
  | inl old ↦ ends_in (xs ++ es) xs first o n q old
  | inr new ↦ absurd (never (none _ new))
]

opened_makes_none : (w n : ℕ) (x : Entry) → Among x (Opened w n ∷ []) → is_making x ≡ false
opened_makes_none w n x (zero, e) = let same : Opened w n ≡ x = cc in subst (λ z. is_making z ≡ false) same refl
opened_makes_none w n x (suc k, e) = absurd (cc)

-- so far each of those primary copies is there, and nothing was made but as those entries say
module _ (before : Store) (made : List Entry) where
  pub record StaysThere (t : NodeContext) : Type 0 where
    pub copies : (o : Id) (n : ℕ) → Stores before o n → Stores t.node.store o n
    pub puts : (o : Id) (n : ℕ) → IsNewPut t.out.entries o n → IsNewPut made o n
    pub ends : (first o : Id) (n : ℕ) → IsNewEnd t.out.entries first o n → IsNewEnd made first o n

  abbrev pub Stays : WorkerContext → Type 0
  Stays h = StaysThere h.there

  pub there_stays : S.KeepsSlots StaysThere
  there_stays = record {
    opens = λ t w p. record {
      copies = p.copies;
      puts = λ o n q. p.puts o n (put_before t.out.entries (Opened w t.number ∷ []) (opened_makes_none w t.number) o n q);
      ends = λ f o n q. p.ends f o n (end_before t.out.entries (Opened w t.number ∷ []) (opened_makes_none w t.number) f o n q);
    };
    replies = λ t k x p. record { copies = p.copies; puts = p.puts; ends = p.ends };
    scheduler = λ t s p. record { copies = p.copies; puts = p.puts; ends = p.ends };
  }

  -- every step of a worker but the first part of a commit keeps it
  pub stays_kept : IsKept Stays
  stays_kept = record {
    logs = λ h es q p. record {
      copies = p.copies;
      puts = λ o n i. p.puts o n (put_before h.there.out.entries es (λ x. mute_there es x q) o n i);
      ends = λ f o n i. p.ends f o n (end_before h.there.out.entries es (λ x. mute_there es x q) f o n i);
    };
    says = λ h w m p. record { copies = p.copies; puts = p.puts; ends = p.ends };
    says_to_node = λ h n m p. record { copies = p.copies; puts = p.puts; ends = p.ends };
    worker = λ h x _ _ p. record { copies = p.copies; puts = p.puts; ends = p.ends };
    store = λ h s keeps p. record { copies = λ o n q. keeps o n (p.copies o n q); puts = p.puts; ends = p.ends };
    frees = λ h p. S.frees-kept StaysThere there_stays h.there h.me p;
    asks = λ h p. S.asks_slot-kept StaysThere there_stays h.there h.me p;
  }
