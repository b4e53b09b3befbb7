-- What a scheduler promises: no more slots in use than there are; where it wants memory; and what a message that finds none leaves of a node.
use Rattle.std.specs.Prelude.{Bool, false, length, nat_lt, true, ℕ, ◌≡◌, ◌≤◌, ◌⊎◌, ◌||◌}
use Rattle.event_log.specs.Entries.{Attempt}
use Rattle.number_lists.specs.of_protocol.Messages.{Ask, Back, Endpoint, Fetch, Message, TheNode, TheWorker}
use Rattle.number_lists.specs.of_protocol.Nodes.{NodeContext, Scheduler, with_store_there}
use Rattle.number_lists.specs.of_protocol.Sets.{has}
use Rattle.number_lists.specs.of_protocol.Slots.{may_be_idle}
use Rattle.number_lists.specs.of_protocol.Stores.{looked_up}

-- no more attempts have a slot than there are slots
abbrev pub IsWithinSlots : NodeContext → Type 0
IsWithinSlots h = length h.node.scheduler.slot_holders ≤ h.node.scheduler.slots

-- g is what a message that can't be answered leaves of h: all as it was, but that the copy that was fetched may count as the one used last
abbrev pub IsLeftBy : Message → NodeContext → NodeContext → Type 0
IsLeftBy (Fetch o n) h g = (g ≡ h) ⊎ (g ≡ with_store_there h (looked_up h.node.store o n))
IsLeftBy _ h g = g ≡ h

-- an answered attempt or an ask waits for a slot
abbrev pub is_waited_for : Scheduler → Bool
is_waited_for s = nat_lt 0 (length s.answered) || nat_lt 0 (length s.queue)

-- the worker has a slot, and someone waits for one: who gets it is noted
abbrev pub PassesOn : NodeContext → ℕ → Type 0
PassesOn h w = (has h.node.scheduler.slot_holders w ≡ true) × (is_waited_for h.node.scheduler ≡ true)

-- the worker comes to be idle, and isn't yet
abbrev pub ComesIdle : NodeContext → ℕ → Attempt → Type 0
ComesIdle h w a = (may_be_idle h.node.scheduler w a ≡ true) × (has h.node.scheduler.idle w ≡ false)

-- the worker neither has a slot nor asks for one: that it does is noted
abbrev pub ComesToAsk : NodeContext → ℕ → Type 0
ComesToAsk h w = (has h.node.scheduler.slot_holders w ≡ false) × (has h.node.scheduler.answered w ≡ false)

-- what the worker says makes the node note or send something: an ask and a Fetch are answered, and Back may make it idle
abbrev pub WantsMemoryFor : NodeContext → ℕ → Message → Type 0
WantsMemoryFor h w (Ask a t) = Unit {0}
WantsMemoryFor h w (Back a) = ComesIdle h w a
WantsMemoryFor h w (Fetch o n) = Unit {0}
WantsMemoryFor h w _ = ⊥

-- the same of what anyone says; what a node says to a node is passed over
abbrev pub WantsMemory : NodeContext → Endpoint → Message → Type 0
WantsMemory h (TheWorker w) m = WantsMemoryFor h w m
WantsMemory h (TheNode n) m = ⊥
