-- Whatever the smallest steps of a worker keep, each of its steps keeps, where no step takes a primary copy away, and what a commit logs of births
-- and ends is in the store once they are borne.
use Rattle.std.proofs.Common.{refl, ap, arith, sym, subst, ◌∙◌}
use Rattle.std.proofs.lemmas.Bool.{and_parts, eqb-true}
use Rattle.std.proofs.lemmas.Bool.Decides.{nat_tests}
use Rattle.meaning.proofs.BirthLaws.{at_test, same_id-refl, same_id-true}
use Rattle.meaning.specs.Births.{same_id}
use Rattle.std.specs.Prelude.{◌≡◌, ℕ, ◌==◌, ◌&&◌, not, Bool, true, false, if◌then◌else◌, List, [], ◌∷◌, Option, Some, None, ◌++◌, ◌||◌, take}
use Rattle.meaning.specs.Values.{Id, Outcome, Birth, Val}
use Rattle.values.specs.Cells.{is_small}
use Rattle.event_log.specs.Entries.{Attempt, Entry, In, Refused, Opened, Born, Ended}
use Rattle.protocol.specs.Messages.{Message, Endpoint}
use Rattle.protocol.specs.Jobs.{Stopped}
use Rattle.protocol.specs.Stores.{Copy, Store, brought_to_front, copy, is_copy_of, looked_up, with_ended, with_primary, with_secondary}
use Rattle.protocol.specs.Tables.{Execution, Worker}
use Rattle.std.specs.List.{filter, find, list_any}
use Rattle.protocol.specs.Steps.{WorkerContext, logs_all, says, says_to_node, with_worker, with_store, store_here}
use Rattle.protocol.specs.Runs.{gives_slot_back, asks_for_slot, leaves_if_free}
use Rattle.protocol.specs.Holders.{holds_ids}
use Rattle.protocol.specs.Commits.{keeps_contents, bears_all, stops_by, claim_step}
use Rattle.protocol.specs.Notices.{notice_step, notice_node_step}
use Rattle.protocol.specs.Ticks.{tick_step}
use Rattle.protocol.specs.Releases.{release_step}
use Rattle.protocol.specs.Deliveries.{reached}
use Rattle.smallest_steps.proofs.Plain.{KeepsPlainly}
use Rattle.smallest_steps.proofs.Plain as L
use Rattle.smallest_steps.proofs.Moves as S

-- ---- stores

abbrev pub Stores : Store → Id → ℕ → Type 0
Stores s o n = list_any (is_copy_of o n) s.primaries ≡ true

-- each primary copy is still there
abbrev pub KeepsPrimaries : Store → Store → Type 0
KeepsPrimaries s t = (o : Id) (n : ℕ) → Stores s o n → Stores t o n

pub looked_keeps : (s : Store) (o : Id) (n : ℕ) → KeepsPrimaries s (looked_up s o n)
looked_keeps s o n p m h =
    at_test (λ b. Stores (if b then s else brought_to_front s (find (is_copy_of o n) s.secondaries)) p m) (list_any (is_copy_of o n) s.primaries) (λ _. h)
    (λ _. front (find (is_copy_of o n) s.secondaries))
  where
    front : (x : Option Copy) → Stores (brought_to_front s x) p m
    front None = h
    front (Some x) = h

secondary_keeps : (s : Store) (o : Id) (n : ℕ) (c : Outcome) → KeepsPrimaries s (with_secondary s o n c)
secondary_keeps s o n c p m h =
    at_test (λ b. Stores (if b then s else record s { secondaries = take 16 (copy o n c ∷ filter (λ x. not (is_copy_of o n x)) s.secondaries) }) p m)
    (list_any (is_copy_of o n) s.primaries) (λ _. h) (λ _. h)

pub copy_same : (o : Id) (i : ℕ) (x : Copy) → is_copy_of o i x ≡ true → (x.object ≡ o) × (x.number ≡ i)
copy_same o i x e = let t = and_parts (same_id x.object o) (x.number == i) e in (same_id-true x.object o t.0, eqb-true x.number i t.1)

copy_is : (o : Id) (i : ℕ) (x : Copy) → x.object ≡ o → x.number ≡ i → is_copy_of o i x ≡ true
copy_is o i x e f =
    let t : same_id x.object o ≡ true = subst (λ z. same_id x.object z ≡ true) e (same_id-refl x.object) in
    let u : (x.number == i) ≡ true = grind (arith, nat_tests, f) in
    ap (λ c. c && (x.number == i)) t ∙ u

any_last : {X : Type 0} (t : X → Bool) (xs : List X) (y : X) → t y ≡ true → list_any t (xs ++ y ∷ []) ≡ true
any_last t [] y e = ap (λ c. c || false) e
any_last t (x ∷ xs) y e = or_true (t x) (list_any t (xs ++ y ∷ [])) (any_last t xs y e)
  where
    or_true : (a b : Bool) → b ≡ true → (a || b) ≡ true
    or_true true b f = refl
    or_true false b f = f

-- the copies that there were are there, or are taken over by the new one
still_there : (o z : Id) (i k : ℕ) (c : Outcome) (xs : List Copy) → list_any (is_copy_of o i) xs ≡ true → list_any (is_copy_of o i) (filter (λ x. not (is_copy_of z k x)) xs ++ copy z k c ∷ []) ≡ true
still_there o z i k c [] h = absurd (cc)
still_there o z i k c (x ∷ xs) h =
    at_test (λ t. is_copy_of z k x ≡ t → list_any (is_copy_of o i) ((if not t then x ∷ filter (λ y. not (is_copy_of z k y)) xs else filter (λ y. not (is_copy_of z k y)) xs) ++ copy z k c ∷ []) ≡ true) (is_copy_of z k x)
    (λ t e. by_first e (is_copy_of o i x) refl (λ r. still_there o z i k c xs r))
    (λ t e. go (is_copy_of o i x) (λ r. still_there o z i k c xs r) h) refl
  where
    go : (a : Bool) → (list_any (is_copy_of o i) xs ≡ true → list_any (is_copy_of o i) (filter (λ y. not (is_copy_of z k y)) xs ++ copy z k c ∷ []) ≡ true) → (a || list_any (is_copy_of o i) xs) ≡ true → (a || list_any (is_copy_of o i) (filter (λ y. not (is_copy_of z k y)) xs ++ copy z k c ∷ [])) ≡ true
    go true r e = refl
    go false r e = r e

    by_first : is_copy_of z k x ≡ true → (a : Bool) → is_copy_of o i x ≡ a → (list_any (is_copy_of o i) xs ≡ true → list_any (is_copy_of o i) (filter (λ y. not (is_copy_of z k y)) xs ++ copy z k c ∷ []) ≡ true) → list_any (is_copy_of o i) (filter (λ y. not (is_copy_of z k y)) xs ++ copy z k c ∷ []) ≡ true
    by_first e true f r =
        let m = copy_same z k x e in
        let n = copy_same o i x f in
        any_last (is_copy_of o i) (filter (λ y. not (is_copy_of z k y)) xs) (copy z k c) (copy_is o i (copy z k c) (sym m.0 ∙ n.0) (sym m.1 ∙ n.1))
    by_first e false f r = r (sym (ap (λ a. a || list_any (is_copy_of o i) xs) f) ∙ h)

-- the new copy is there
pub stores_now : (s : Store) (o : Id) (n : ℕ) (c : Outcome) → Stores (with_primary s o n c) o n
stores_now s o n c = any_last (is_copy_of o n) (filter (λ x. not (is_copy_of o n x)) s.primaries) (copy o n c) (copy_is o n (copy o n c) refl refl)

pub primary_keeps : (s : Store) (o : Id) (n : ℕ) (c : Outcome) → KeepsPrimaries s (with_primary s o n c)
primary_keeps s o n c p m h = still_there p o m n c s.primaries h

pub ended_keeps : (s : Store) (o : Id) (n : ℕ) (c : Outcome) → KeepsPrimaries s (with_ended s o n c)
ended_keeps s o n c p m h = at_test (λ b. Stores (if b then s else with_primary s o n c) p m) (is_small c) (λ _. h) (λ _. primary_keeps s o n c p m h)

-- no event, refusal, birth or end
abbrev pub is_mute : Entry → Bool
is_mute (In e seat) = false
is_mute (Refused code) = false
is_mute (Opened w n) = false
is_mute (Born o a b) = false
is_mute (Ended a c) = false
is_mute _ = true

abbrev pub is_quiet : List Entry → Bool
is_quiet [] = true
is_quiet (x ∷ es) = is_mute x && is_quiet es

pub record IsKept (P : WorkerContext → Type 0) : Type 0 where
  pub logs : (h : WorkerContext) (es : List Entry) → is_quiet es ≡ true → P h → P (logs_all h es)
  pub says : (h : WorkerContext) (w : ℕ) (m : Message) → P h → P (says h w m)
  pub says_to_node : (h : WorkerContext) (n : ℕ) (m : Message) → P h → P (says_to_node h n m)
  pub worker : (h : WorkerContext) (x : Worker) → x.node ≡ h.worker.node → x.is_live ≡ h.worker.is_live → P h → P (with_worker h x)
  -- no primary copy is taken away
  pub store : (h : WorkerContext) (s : Store) → KeepsPrimaries (store_here h) s → P h → P (with_store h s)
  pub frees : (h : WorkerContext) → P h → P (gives_slot_back h)
  pub asks : (h : WorkerContext) → P h → P (asks_for_slot h)

module _ (P : WorkerContext → Type 0) (kept : IsKept P) where
  plain : KeepsPlainly P
  plain = record {
    accepted = λ h a p. kept.logs h _ refl p;
    begun = λ h a w p. kept.logs h _ refl p;
    got = λ h a y c p. kept.logs h _ refl p;
    faulted = λ h a y f p. kept.logs h _ refl p;
    resolved = λ h o f p. kept.logs h _ refl p;
    released = λ h o p. kept.logs h _ refl p;
    said = kept.says;
    said_to_node = kept.says_to_node;
    worker = kept.worker;
    looked = λ h o number p. kept.store h _ (looked_keeps (store_here h) o number) p;
    copied = λ h o number c p. kept.store h _ (secondary_keeps (store_here h) o number c) p;
    primary = λ h o v p. kept.store h _ (primary_keeps (store_here h) o 0 (Val v)) p;
    ended = λ h o number c p. kept.store h _ (ended_keeps (store_here h) o number c) p;
    frees = kept.frees;
    asks = kept.asks;
  }

  pub reached-kept : (h : WorkerContext) (from : Endpoint) (m : Message) → P h → P (reached h from m)
  reached-kept h from m p = S.reached-kept P (L.keeps P plain) (L.heard P plain) h from m tt p

  pub tick_step-kept : (h : WorkerContext) → P h → P (tick_step h)
  tick_step-kept h p = S.tick_step-kept P (L.keeps P plain) h tt tt p

  pub notice_step-kept : (h : WorkerContext) (v : ℕ) → P h → P (notice_step h v)
  notice_step-kept h v p = S.notice_step-kept P (L.keeps P plain) h v p

  pub notice_node_step-kept : (h : WorkerContext) (m : ℕ) → P h → P (notice_node_step h m)
  notice_node_step-kept h m p = S.notice_node_step-kept P (L.keeps P plain) h m (λ _ _. tt) p

  pub release_step-kept : (h : WorkerContext) → P h → P (release_step h)
  release_step-kept h p = S.release_step-kept P (L.keeps P plain) h p

  pub leaves_if_free-kept : (h : WorkerContext) → P h → P (leaves_if_free h)
  leaves_if_free-kept h p = S.leaves_if_free-kept P (L.over P plain) h p

  pub holds_ids-kept : (h : WorkerContext) (e : Id) (os : List Id) → P h → P (holds_ids h e os)
  holds_ids-kept h e os p = S.holds_ids-kept P (L.keeps P plain) (L.births P plain) h e os p

  pub bears_all-kept : (h : WorkerContext) (a : Attempt) (bs : List Birth) → P h → P (bears_all h a bs)
  bears_all-kept h a bs p = S.bears_all-kept P (L.keeps P plain) (L.births P plain) h a bs p

  pub keeps_contents-kept : (h : WorkerContext) (o : Id) (number : ℕ) (cs : List Outcome) → P h → P (keeps_contents h o number cs)
  keeps_contents-kept h o number cs p = S.keeps_contents-kept P (L.keeps P plain) (L.births P plain) h o number cs p

  pub claim_step-kept : (h : WorkerContext) (j : ℕ) → P h → P (claim_step h j)
  claim_step-kept h j p = L.claim_step-kept P plain h j p

  pub stops_by-kept : (h : WorkerContext) (stop : Stopped) (r : Option Execution) → P h → P (stops_by h stop r)
  stops_by-kept h stop r p = L.stops_by-kept P plain h stop r p
