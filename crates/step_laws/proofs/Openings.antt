-- How many workers each step of a node opens.
use Rattle.std.proofs.Common.{◌≡◌, ℕ, ◌+◌, Bool, true, false, if◌then◌else◌, List, [], ◌∷◌, ◌++◌, Option, Some, None, refl, sym, ap, ◌∙◌, arith}
use Rattle.std.specs.Prelude.{◌&&◌, ◌||◌, nat_lt, not}
use Rattle.protocol.specs.Sets.{first_item, has, is_empty, least, rest_of}
use Rattle.protocol.specs.Nodes.{AskKey, AskReply, Leased, Queued, SentOn, NodeContext, with_scheduler}
use Rattle.protocol.specs.Slots.{ask_key, asked, asked_by, asks_slot, fetched, forgets, frees, gives_worker, grants, grants_next, grants_queued, has_free_slot}
use Rattle.protocol.specs.Slots.{has_no_slot_for, leases_idle, may_be_idle, next_in_circle, node_reached, node_reached_from, queues, replies_anew, reply_to}
use Rattle.protocol.specs.Slots.{with_answered, with_idle, without_slot, without_worker}
use Rattle.meaning.specs.Values.{Id, Outcome}
use Rattle.protocol.specs.Messages.{Ask, At, Back, CopyOf, Elsewhere, Failed, Fetch, Finished, FinishedAck, Give, Gone, Hold, HoldAck, Message, Missing, Endpoint, Push, TheNode, TheWorker, Unhold, Wait, Where}
use Rattle.protocol.specs.Stores.{copy_in}
use Rattle.step_laws.specs.Opens.{asked_opens, asked_opens_by, death_opens, free_opens, grant_opens, one_if, reached_opens, reached_opens_by}

same_here : (n : ℕ) → n ≡ n + 0
same_here n = omega arith

-- a worker is opened where none is idle
given_by : (h : NodeContext) (k : AskKey) (xs : List ℕ) → (leases_idle h k (least xs)).opened ≡ h.opened + one_if (is_empty xs)
given_by h k [] = refl
given_by h k (x ∷ xs) = same_here h.opened

pub give_opens : (h : NodeContext) (k : AskKey) → (gives_worker h k).opened ≡ h.opened + one_if (is_empty h.node.scheduler.idle)
give_opens h k = given_by h k h.node.scheduler.idle

queued_by : (h : NodeContext) (b : Bool) (q : List AskKey) → (grants_queued h (first_item q)).opened ≡ h.opened + one_if (not (is_empty q) && is_empty h.node.scheduler.idle)
queued_by h b [] = same_here h.opened
queued_by h b (k ∷ q) = give_opens (with_scheduler h (record h.node.scheduler { queue = rest_of h.node.scheduler.queue })) k

next_by : (h : NodeContext) (ws : List ℕ) → (grants_next h (first_item ws)).opened ≡ h.opened + one_if (is_empty ws && (not (is_empty h.node.scheduler.queue) && is_empty h.node.scheduler.idle))
next_by h [] = queued_by h true h.node.scheduler.queue
next_by h (w ∷ ws) = same_here h.opened

grants_by : (h : NodeContext) (b : Bool) → (if b then grants_next h (first_item h.node.scheduler.answered) else h).opened
    ≡ h.opened + one_if (b && (is_empty h.node.scheduler.answered && (not (is_empty h.node.scheduler.queue) && is_empty h.node.scheduler.idle)))
grants_by h true = next_by h h.node.scheduler.answered
grants_by h false = same_here h.opened

pub grants_open : (h : NodeContext) → (grants h).opened ≡ h.opened + one_if (grant_opens h.node.scheduler)
grants_open h = grants_by h (has_free_slot h.node.scheduler)

frees_by : (h : NodeContext) (w : ℕ) (b : Bool) → (if b then grants (with_scheduler h (without_slot h.node.scheduler w)) else h).opened ≡ h.opened + one_if (b && grant_opens (without_slot h.node.scheduler w))
frees_by h w true = grants_open (with_scheduler h (without_slot h.node.scheduler w))
frees_by h w false = same_here h.opened

-- a slot that is given back opens a worker, or none
pub free_open : (h : NodeContext) (w : ℕ) → (frees h w).opened ≡ h.opened + one_if (free_opens h.node.scheduler w)
free_open h w = frees_by h w (has h.node.scheduler.slot_holders w)

pub death_open : (h : NodeContext) (w : ℕ) → (forgets h w).opened ≡ h.opened + one_if (death_opens h.node.scheduler w)
death_open h w = free_open (with_scheduler h (without_worker h.node.scheduler w)) w

-- an answered attempt that asks for its slot opens none
not_last : (xs : List ℕ) (w : ℕ) → is_empty (xs ++ w ∷ []) ≡ false
not_last [] w = refl
not_last (x ∷ xs) w = refl

never : (b c : Bool) → one_if (b && (false && c)) ≡ 0
never true c = refl
never false c = refl

asks_by : (h : NodeContext) (w : ℕ) (b : Bool) → (if b then h else grants (with_scheduler h (with_answered h.node.scheduler w))).opened ≡ h.opened
asks_by h w true = refl
asks_by h w false =
    let s = with_answered h.node.scheduler w in
    let c = not (is_empty s.queue) && is_empty s.idle in
    grants_open (with_scheduler h s)
    ∙ ap (λ b. h.opened + one_if (has_free_slot s && (b && c))) (not_last h.node.scheduler.answered w)
    ∙ ap (λ n. h.opened + n) (never (has_free_slot s) c) ∙ sym (same_here h.opened)

pub ask_slot_opens_none : (h : NodeContext) (w : ℕ) → (asks_slot h w).opened ≡ h.opened
ask_slot_opens_none h w = asks_by h w (has h.node.scheduler.slot_holders w || has h.node.scheduler.answered w)

no_slot_by : (h : NodeContext) (k : AskKey) (x : AskReply) (b : Bool) → (if b then replies_anew h k x else queues h k).opened ≡ h.opened
no_slot_by h k (Leased w) true = refl
no_slot_by h k (SentOn n) true = refl
no_slot_by h k Queued true = refl
no_slot_by h k x false = refl

asked_free : (h : NodeContext) (k : AskKey) (b : Bool) → (if b then gives_worker h k else has_no_slot_for h k).opened ≡ h.opened + one_if (b && is_empty h.node.scheduler.idle)
asked_free h k true = give_opens h k
asked_free h k false = no_slot_by h k (SentOn (next_in_circle h.nodes h.number)) (nat_lt (k.hops + 1) h.nodes) ∙ same_here h.opened

asked_as : (h : NodeContext) (k : AskKey) (o : Option AskReply) → (asked_by h k o).opened ≡ h.opened + one_if (asked_opens_by h.node.scheduler o)
asked_as h k None = asked_free h k (has_free_slot h.node.scheduler)
asked_as h k (Some x) = same_here h.opened

pub asked_open : (h : NodeContext) (k : AskKey) → (asked h k).opened ≡ h.opened + one_if (asked_opens h.node.scheduler k)
asked_open h k = asked_as h k (reply_to h.node.scheduler k)

back_by : (h g : NodeContext) (b : Bool) → g.opened ≡ h.opened → (if b then g else h).opened ≡ h.opened
back_by h g true e = e
back_by h g false e = refl

fetched_as : (h : NodeContext) (o : Id) (n w : ℕ) (c : Option Outcome) → (fetched h o n w c).opened ≡ h.opened
fetched_as h o n w None = refl
fetched_as h o n w (Some c) = refl

from_worker : (h : NodeContext) (w : ℕ) (m : Message) → (node_reached_from h w m).opened ≡ h.opened + one_if (reached_opens_by h.node.scheduler m)
from_worker h w (Ask a t) = asked_open h (ask_key a t)
from_worker h w (Back a) = back_by h (with_scheduler h (with_idle h.node.scheduler w)) (may_be_idle h.node.scheduler w a) refl ∙ same_here h.opened
from_worker h w (Fetch o n) = fetched_as h o n w (copy_in h.node.store o n) ∙ same_here h.opened
from_worker h w (Unhold e o why) = same_here h.opened
from_worker h w (Give a t v) = same_here h.opened
from_worker h w (Elsewhere a t n) = same_here h.opened
from_worker h w (Wait a t) = same_here h.opened
from_worker h w (Push a s) = same_here h.opened
from_worker h w (Finished a n rs) = same_here h.opened
from_worker h w (FinishedAck a) = same_here h.opened
from_worker h w (Failed a f) = same_here h.opened
from_worker h w (Where o) = same_here h.opened
from_worker h w (At o n ns kept) = same_here h.opened
from_worker h w (Gone o f) = same_here h.opened
from_worker h w (CopyOf o n c) = same_here h.opened
from_worker h w (Missing o n v) = same_here h.opened
from_worker h w (Hold e o) = same_here h.opened
from_worker h w (HoldAck e o) = same_here h.opened

-- a message that reaches a node opens one worker, or none
pub reached_open : (h : NodeContext) (sender : Endpoint) (m : Message) → (node_reached h sender m).opened ≡ h.opened + one_if (reached_opens h.node.scheduler sender m)
reached_open h (TheWorker w) m = from_worker h w m
reached_open h (TheNode n) m = same_here h.opened
