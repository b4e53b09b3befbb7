-- Whatever the smallest steps of a node keep, each of its steps keeps; here its answers to asks are told apart from what else it says.
use Rattle.std.specs.Prelude.{ℕ, ◌+◌, [], ◌∷◌, Option, Some, None}
use Rattle.meaning.specs.Values.{Id, Outcome}
use Rattle.step_laws.specs.of_event_log.Entries.{Opened}
use Rattle.step_laws.specs.of_protocol.Messages.{Message, Endpoint, TheWorker, TheNode, Ask, Give, Elsewhere, Wait, Back, Push, Finished, FinishedAck, Failed, Where, At}
use Rattle.step_laws.specs.of_protocol.Messages.{Gone, Fetch, CopyOf, Missing, Hold, HoldAck, Unhold}
use Rattle.step_laws.specs.of_protocol.Stores.{Store, copy_in}
use Rattle.step_laws.specs.of_protocol.Nodes.{AskKey, AskReply, Scheduler, NodeContext, with_scheduler, with_store_there, node_logs, node_says}
use Rattle.step_laws.specs.of_protocol.Slots.{ask_key, asks_slot, fetched, forgets, frees, node_reached, node_reached_from, replies, reply_to}
use Rattle.smallest_steps.proofs.SlotMoves.{KeepsSlots}
use Rattle.smallest_steps.proofs.SlotMoves as S

pub record KeepsThere (Q : NodeContext → Type 0) : Type 0 where
  pub opens : (h : NodeContext) (w : ℕ) → Q h → Q (node_logs (record h { opened = h.opened + 1 }) (Opened w h.number ∷ []))
  pub answers : (h : NodeContext) (k : AskKey) (x : AskReply) → Q h → Q (replies h k x)
  pub copies : (h : NodeContext) (w : ℕ) (o : Id) (number : ℕ) (c : Outcome) → Q h → Q (node_says h w (CopyOf o number c))
  pub lacks : (h : NodeContext) (w : ℕ) (o : Id) (number : ℕ) → Q h → Q (node_says h w (Missing o number h.number))
  pub scheduler : (h : NodeContext) (s : Scheduler) → Q h → Q (with_scheduler h s)
  pub store : (h : NodeContext) (s : Store) → Q h → Q (with_store_there h s)

module _ (Q : NodeContext → Type 0) (kept : KeepsThere Q) where
  slots : KeepsSlots Q
  slots = record { opens = kept.opens; replies = kept.answers; scheduler = kept.scheduler }

  pub frees-kept : (h : NodeContext) (w : ℕ) → Q h → Q (frees h w)
  frees-kept h w p = S.frees-kept Q slots h w p

  pub asks_slot-kept : (h : NodeContext) (w : ℕ) → Q h → Q (asks_slot h w)
  asks_slot-kept h w p = S.asks_slot-kept Q slots h w p

  pub forgets-kept : (h : NodeContext) (w : ℕ) → Q h → Q (forgets h w)
  forgets-kept h w p = S.forgets-kept Q slots h w p

  fetched-kept : (h : NodeContext) (o : Id) (number w : ℕ) (c : Option Outcome) → Q h → Q (fetched h o number w c)
  fetched-kept h o number w None p = kept.lacks h w o number p
  fetched-kept h o number w (Some c) p = kept.copies _ w o number c (kept.store h _ p)

  node_reached_from-kept : (h : NodeContext) (w : ℕ) (m : Message) → Q h → Q (node_reached_from h w m)
  node_reached_from-kept h w (Ask a t) p = S.asked_by-kept Q slots h (ask_key a t) (reply_to h.node.scheduler (ask_key a t)) p
  node_reached_from-kept h w (Back a) p = S.is_back-kept Q slots h w a p
  node_reached_from-kept h w (Fetch o number) p = fetched-kept h o number w (copy_in h.node.store o number) p
  node_reached_from-kept h w (Unhold e o why) p = kept.store h _ p
  node_reached_from-kept h w (Give a t v) p = p
  node_reached_from-kept h w (Elsewhere a t m) p = p
  node_reached_from-kept h w (Wait a t) p = p
  node_reached_from-kept h w (Push a spec) p = p
  node_reached_from-kept h w (Finished a m rs) p = p
  node_reached_from-kept h w (FinishedAck a) p = p
  node_reached_from-kept h w (Failed a f) p = p
  node_reached_from-kept h w (Where o) p = p
  node_reached_from-kept h w (At o number ns kept) p = p
  node_reached_from-kept h w (Gone o f) p = p
  node_reached_from-kept h w (CopyOf o number c) p = p
  node_reached_from-kept h w (Missing o number m) p = p
  node_reached_from-kept h w (Hold e o) p = p
  node_reached_from-kept h w (HoldAck e o) p = p

  pub node_reached-kept : (h : NodeContext) (from : Endpoint) (m : Message) → Q h → Q (node_reached h from m)
  node_reached-kept h (TheWorker w) m p = node_reached_from-kept h w m p
  node_reached-kept h (TheNode k) m p = p
