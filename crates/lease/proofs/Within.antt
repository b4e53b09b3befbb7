-- No more slots are in use than there are: each step of a scheduler keeps it.
use Rattle.std.proofs.Common.{◌≡◌, ℕ, suc, ◌+◌, ◌≤◌, List, [], ◌∷◌, ◌++◌, length, Some, None, Option, refl, sym, subst, arith, length-append}
use Rattle.std.specs.Prelude.{Bool, true, false, if◌then◌else◌, ◌||◌, nat_lt}
use Rattle.std.specs.List.{filter}
use Rattle.std.proofs.lemmas.Bool.Decides.{nat_tests}
use Rattle.event_log.specs.Entries.{Attempt}
use Rattle.number_lists.specs.of_protocol.Sets.{has, without_number, least, first_item, rest_of}
use Rattle.number_lists.specs.of_protocol.Nodes.{AskKey, AskReply, NodeContext, with_scheduler}
use Rattle.number_lists.specs.of_protocol.Slots.{asked, asked_by, asks_slot, forgets, frees, gives_worker, grants, grants_next, grants_queued, has_free_slot, has_no_slot_for, is_back, leases_idle, may_be_idle, reply_to, with_answered, with_idle, without_slot, without_worker}
use Rattle.lease.specs.Promises.{IsWithinSlots}

shorter : (b : Bool) (x : ℕ) (ys zs : List ℕ) → length ys ≤ length zs → length (if b then x ∷ ys else ys) ≤ suc (length zs)
shorter true x ys zs e = omega (arith, e)
shorter false x ys zs e = omega (arith, e)

fewer : (p : ℕ → Bool) (xs : List ℕ) → length (filter p xs) ≤ length xs
fewer p [] = omega arith
fewer p (x ∷ xs) = shorter (p x) x (filter p xs) xs (fewer p xs)

room : (h : NodeContext) → has_free_slot h.node.scheduler ≡ true → length h.node.scheduler.slot_holders + 1 ≤ h.node.scheduler.slots
room h e = grind (arith, nat_tests)

one_more : (xs : List ℕ) (w s : ℕ) → length xs + 1 ≤ s → length (xs ++ w ∷ []) ≤ s
one_more xs w s e = let f = length-append xs (w ∷ []) in omega (arith, e, f)

either : (b : Bool) (x y : NodeContext) → (b ≡ true → IsWithinSlots x) → (b ≡ false → IsWithinSlots y) → IsWithinSlots (if b then x else y)
either true x y f g = f refl
either false x y f g = g refl

idle_leased : (h : NodeContext) (k : AskKey) (w : Option ℕ) → has_free_slot h.node.scheduler ≡ true → IsWithinSlots (leases_idle h k w)
idle_leased h k None e = one_more h.node.scheduler.slot_holders _ _ (room h e)
idle_leased h k (Some w) e = one_more h.node.scheduler.slot_holders _ _ (room h e)

worker_given : (h : NodeContext) (k : AskKey) → has_free_slot h.node.scheduler ≡ true → IsWithinSlots (gives_worker h k)
worker_given h k e = idle_leased h k (least h.node.scheduler.idle) e

no_slot : (h : NodeContext) (k : AskKey) → IsWithinSlots h → IsWithinSlots (has_no_slot_for h k)
no_slot h k i = either (nat_lt (k.hops + 1) h.nodes) _ _ (λ _. i) (λ _. i)

asked_by_within : (h : NodeContext) (k : AskKey) (x : Option AskReply) → IsWithinSlots h → IsWithinSlots (asked_by h k x)
asked_by_within h k None i = either (has_free_slot h.node.scheduler) _ _ (worker_given h k) (λ _. no_slot h k i)
asked_by_within h k (Some x) i = i

queued_granted : (h : NodeContext) (k : Option AskKey) → IsWithinSlots h → has_free_slot h.node.scheduler ≡ true → IsWithinSlots (grants_queued h k)
queued_granted h None i e = i
queued_granted h (Some k) i e = worker_given (with_scheduler h (record h.node.scheduler { queue = rest_of h.node.scheduler.queue })) k e

next_granted : (h : NodeContext) (w : Option ℕ) → IsWithinSlots h → has_free_slot h.node.scheduler ≡ true → IsWithinSlots (grants_next h w)
next_granted h None i e = queued_granted h (first_item h.node.scheduler.queue) i e
next_granted h (Some w) i e = one_more h.node.scheduler.slot_holders w _ (room h e)

granted : (h : NodeContext) → IsWithinSlots h → IsWithinSlots (grants h)
granted h i = either (has_free_slot h.node.scheduler) _ _ (next_granted h (first_item h.node.scheduler.answered) i) (λ _. i)

freed : (h : NodeContext) (w : ℕ) → IsWithinSlots h → IsWithinSlots (frees h w)
freed h w i =
    let e : length (without_number h.node.scheduler.slot_holders w) ≤ length h.node.scheduler.slot_holders = fewer _ h.node.scheduler.slot_holders in
    either (has h.node.scheduler.slot_holders w) _ _ (λ _. granted (with_scheduler h (without_slot h.node.scheduler w)) (omega (arith, e, i))) (λ _. i)

-- ---- what the public calls come to

pub asked_within : (g h : NodeContext) (k : AskKey) → g ≡ asked h k → IsWithinSlots h → IsWithinSlots g
asked_within g h k e i = subst IsWithinSlots (sym e) (asked_by_within h k (reply_to h.node.scheduler k) i)

pub back_within : (g h : NodeContext) (w : ℕ) (a : Attempt) → g ≡ is_back h w a → IsWithinSlots h → IsWithinSlots g
back_within g h w a e i =
    subst IsWithinSlots (sym e) (either (may_be_idle h.node.scheduler w a) (with_scheduler h (with_idle h.node.scheduler w)) h (λ _. i) (λ _. i))

pub freed_within : (g h : NodeContext) (w : ℕ) → g ≡ frees h w → IsWithinSlots h → IsWithinSlots g
freed_within g h w e i = subst IsWithinSlots (sym e) (freed h w i)

pub slot_within : (g h : NodeContext) (w : ℕ) → g ≡ asks_slot h w → IsWithinSlots h → IsWithinSlots g
slot_within g h w e i =
    subst IsWithinSlots (sym e)
    (either (has h.node.scheduler.slot_holders w || has h.node.scheduler.answered w) h _ (λ _. i) (λ _. granted (with_scheduler h (with_answered h.node.scheduler w)) i))

pub forgot_within : (g h : NodeContext) (w : ℕ) → g ≡ forgets h w → IsWithinSlots h → IsWithinSlots g
forgot_within g h w e i = subst IsWithinSlots (sym e) (freed (with_scheduler h (without_worker h.node.scheduler w)) w i)
