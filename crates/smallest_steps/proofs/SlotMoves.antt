-- Whatever a node's answers to asks and the changes of its scheduler keep, each step of its slots keeps.
use Rattle.std.specs.Prelude.{ℕ, ◌+◌, Bool, true, false, if◌then◌else◌, [], ◌∷◌, Option, Some, None, ◌||◌, nat_lt}
use Rattle.step_laws.specs.of_event_log.Entries.{Attempt, Opened}
use Rattle.step_laws.specs.of_protocol.Sets.{first_item, has, least, rest_of}
use Rattle.step_laws.specs.of_protocol.Nodes.{AskKey, AskReply, Leased, Queued, Scheduler, SentOn, NodeContext, node_logs, with_scheduler}
use Rattle.step_laws.specs.of_protocol.Slots.{asked_by, asks_slot, forgets, frees, gives_worker, grants, grants_next, grants_queued, has_free_slot, has_no_slot_for, is_back}
use Rattle.step_laws.specs.of_protocol.Slots.{leases_idle, may_be_idle, next_in_circle, next_worker, queues, replies, replies_anew, with_answered, with_idle}
use Rattle.step_laws.specs.of_protocol.Slots.{without_slot, without_worker}

pub record KeepsSlots (Q : NodeContext → Type 0) : Type 0 where
  pub opens : (h : NodeContext) (w : ℕ) → Q h → Q (node_logs (record h { opened = h.opened + 1 }) (Opened w h.number ∷ []))
  pub replies : (h : NodeContext) (k : AskKey) (x : AskReply) → Q h → Q (replies h k x)
  pub scheduler : (h : NodeContext) (s : Scheduler) → Q h → Q (with_scheduler h s)

module _ (Q : NodeContext → Type 0) (kept : KeepsSlots Q) where
  either : (b : Bool) (x y : NodeContext) → Q x → Q y → Q (if b then x else y)
  either true x y p q = p
  either false x y p q = q

  leases_idle-kept : (h : NodeContext) (k : AskKey) (w : Option ℕ) → Q h → Q (leases_idle h k w)
  leases_idle-kept h k None p = kept.replies _ k (Leased (next_worker h)) (kept.scheduler _ _ (kept.opens h _ p))
  leases_idle-kept h k (Some w) p = kept.replies _ k (Leased w) (kept.scheduler h _ p)

  pub asked_by-kept : (h : NodeContext) (k : AskKey) (x : Option AskReply) → Q h → Q (asked_by h k x)
  asked_by-kept h k None p =
      either (has_free_slot h.node.scheduler) (gives_worker h k) (has_no_slot_for h k) (leases_idle-kept h k (least h.node.scheduler.idle) p)
      (either (nat_lt (k.hops + 1) h.nodes) (replies_anew h k (SentOn (next_in_circle h.nodes h.number))) (queues h k)
      (kept.replies _ k (SentOn (next_in_circle h.nodes h.number)) (kept.scheduler h _ p)) (kept.replies _ k Queued (kept.scheduler h _ p)))
  asked_by-kept h k (Some x) p = kept.replies h k x p

  grants_queued-kept : (h : NodeContext) (k : Option AskKey) → Q h → Q (grants_queued h k)
  grants_queued-kept h None p = p
  grants_queued-kept h (Some k) p =
      leases_idle-kept (with_scheduler h (record h.node.scheduler { queue = rest_of h.node.scheduler.queue })) k (least h.node.scheduler.idle)
      (kept.scheduler h _ p)

  grants_next-kept : (h : NodeContext) (w : Option ℕ) → Q h → Q (grants_next h w)
  grants_next-kept h None p = grants_queued-kept h (first_item h.node.scheduler.queue) p
  grants_next-kept h (Some w) p = kept.scheduler h _ p

  grants-kept : (h : NodeContext) → Q h → Q (grants h)
  grants-kept h p =
      either (has_free_slot h.node.scheduler) (grants_next h (first_item h.node.scheduler.answered)) h
      (grants_next-kept h (first_item h.node.scheduler.answered) p) p

  pub frees-kept : (h : NodeContext) (w : ℕ) → Q h → Q (frees h w)
  frees-kept h w p =
      let g : NodeContext = with_scheduler h (without_slot h.node.scheduler w) in
      either (has h.node.scheduler.slot_holders w) (grants g) h (grants-kept g (kept.scheduler h _ p)) p

  pub asks_slot-kept : (h : NodeContext) (w : ℕ) → Q h → Q (asks_slot h w)
  asks_slot-kept h w p =
      let g : NodeContext = with_scheduler h (with_answered h.node.scheduler w) in
      either (has h.node.scheduler.slot_holders w || has h.node.scheduler.answered w) h (grants g) p (grants-kept g (kept.scheduler h _ p))

  pub forgets-kept : (h : NodeContext) (w : ℕ) → Q h → Q (forgets h w)
  forgets-kept h w p = frees-kept (with_scheduler h (without_worker h.node.scheduler w)) w (kept.scheduler h _ p)

  pub is_back-kept : (h : NodeContext) (w : ℕ) (a : Attempt) → Q h → Q (is_back h w a)
  is_back-kept h w a p = either (may_be_idle h.node.scheduler w a) (with_scheduler h (with_idle h.node.scheduler w)) h (kept.scheduler h _ p) p
