-- Worked examples of the definitions, which compute: stores, holders, plans, releases, asks and slots, what is handed in, and a run with a death.
use Rattle.std.specs.Prelude.{List, None, Some, [], codes, false, map, pos, true, ℕ, ◌≡◌, ◌∷◌}
use Rattle.protocol_data.specs.of_meaning.Values.{Birth, Int, Named, Outcome, Task, Val, main_birth}
use Rattle.protocol_data.specs.of_event_log.Entries.{Begun, Born, Claim, Commit, Deliver, Faulted, In, Kill, Notice, Opened, PutLost, Released, Resolved}
use Rattle.protocol_data.specs.of_event_log.Entries.{RetriesUsed, main_attempt}
use Rattle.protocol_data.specs.of_event_log.Entries.{Pinned, NoCopy, NoJob}
use Rattle.protocol_data.specs.of_event_log.Words.{attempt}
use Rattle.protocol.specs.Sets.{fault, object_id}
use Rattle.protocol.specs.Messages.{Ask, Elsewhere, Give, Envelope, Push, TheNode, TheWorker, Unhold, Wait, WasReleased, envelope}
use Rattle.protocol.specs.Jobs.{AtGet, Nothing, OfAnother}
use Rattle.protocol.specs.Stores.{Store, copy_in, empty_store, evict_refusal, evicted, looked_up, lose_refusal, with_primary, with_secondary, without_copies}
use Rattle.protocol.specs.Nodes.{NodeContext, new_node, no_out}
use Rattle.protocol.specs.Slots.{ask_key, asked, asks_slot, frees, is_back}
use Rattle.protocol.specs.Tables.{ByTask, Object, is_held, new_object, new_task, new_worker, put_object, with_content, with_holder, with_location}
use Rattle.protocol.specs.Tables.{without_holder, without_location, without_locations}
use Rattle.protocol.specs.Steps.{WorkerContext}
use Rattle.protocol.specs.Recovery.{counted_from, first_stop, members}
use Rattle.protocol.specs.Releases.{releases_all}
use Rattle.protocol.specs.Answers.{Refuses, answer}
use Rattle.protocol.specs.Plays.{Does, Doing, IsRun, Line, Seen, Settles, first_played, doing, plays}

-- ---- stores

-- some content
abbrev pub one : Outcome
one = Val (Int (pos 1))

-- secondary copies of worker 1's objects of these serials, put in this order
abbrev pub secondaries_of : Store → List ℕ → Store
secondaries_of s [] = s
secondaries_of s (k ∷ ks) = secondaries_of (with_secondary s (object_id 1 k) 0 one) ks

-- the serials of its secondary copies
abbrev pub kept : Store → List ℕ
kept s = map (λ x. x.object.serial) s.secondaries

-- secondary copies of o1.1 to o1.16 are put, o1.1 is looked up, then o1.17 is put
abbrev pub sixteen_kept : Store
sixteen_kept = with_secondary (looked_up (secondaries_of empty_store (counted_from 1 16)) (object_id 1 1) 0) (object_id 1 17) 0 one

-- a primary copy of o1.1, and a secondary one that comes beside it
abbrev pub one_pinned : Store
one_pinned = with_secondary (with_primary empty_store (object_id 1 1) 0 one) (object_id 1 1) 0 one

-- at most sixteen secondary copies are kept, those that were used last; a primary copy is pinned, and stands alone
pub record StoresKeep : Type 0 where
  pub last_used_first : kept sixteen_kept ≡ 17 ∷ 1 ∷ 16 ∷ 15 ∷ 14 ∷ 13 ∷ 12 ∷ 11 ∷ 10 ∷ 9 ∷ 8 ∷ 7 ∷ 6 ∷ 5 ∷ 4 ∷ 3 ∷ []
  pub gone : evict_refusal (object_id 1 2) sixteen_kept ≡ Some NoCopy
  pub there : evict_refusal (object_id 1 3) sixteen_kept ≡ None
  pub found : copy_in sixteen_kept (object_id 1 17) 0 ≡ Some one
  pub of_another_number : copy_in sixteen_kept (object_id 1 17) 1 ≡ None
  pub pinned : evict_refusal (object_id 1 1) one_pinned ≡ Some Pinned
  pub alone : kept one_pinned ≡ []
  pub not_evicted : copy_in (evicted one_pinned (object_id 1 1)) (object_id 1 1) 0 ≡ Some one
  pub lost : copy_in (without_copies one_pinned (object_id 1 1)) (object_id 1 1) 0 ≡ None
  pub nothing_to_lose : lose_refusal (object_id 1 1) (without_copies one_pinned (object_id 1 1)) ≡ Some NoCopy

-- ---- holders

-- o1.1, which was put
abbrev pub first_put : Object
first_put = put_object main_attempt [] 1

-- o1.2 comes to hold it, then holds it no more
abbrev pub held_once : Object
held_once = without_holder (object_id 1 2) (with_holder (object_id 1 2) first_put)

-- what was added and not removed holds; who was removed never holds again, whichever came first
pub record HoldersHold : Type 0 where
  pub by_none : is_held first_put ≡ false
  pub by_one : is_held (with_holder (object_id 1 2) first_put) ≡ true
  pub no_more : is_held held_once ≡ false
  pub not_revived : is_held (with_holder (object_id 1 2) held_once) ≡ false
  pub removed_first : is_held (with_holder (object_id 1 2) (without_holder (object_id 1 2) first_put)) ≡ false
  pub by_another : is_held (with_holder (object_id 1 3) held_once) ≡ true

-- ---- plans

-- a task of that many retries that dereferences these of worker 1's objects
abbrev pub made_from_these : List ℕ → ℕ → Birth
made_from_these ks retries = Task (codes "f") (map (λ k. record { value = Named (object_id 1 k); marked = true }) ks) 1 retries 0

-- an object of such a task, with a content at these nodes
abbrev pub made : List ℕ → ℕ → List ℕ → Object
made ks retries nodes =
    record (new_object (ByTask (new_task (made_from_these ks retries))) main_attempt []) { settled = Some 0; locations = nodes; all_locations = nodes }

-- what was put, and is lost
abbrev pub lost_put : Object
lost_put = without_locations first_put

-- node 1, with one slot, of so many nodes
abbrev pub node_of : ℕ → NodeContext
node_of nodes = record { number = 1; nodes = nodes; workers = 1; opened = 0; node = new_node 1; out = no_out }

-- worker 1 owns these
abbrev pub owner_of_these : List Object → WorkerContext
owner_of_these xs = record { me = 1; worker = record (new_worker 1) { objects = xs }; there = node_of 1 }

-- o1.1 is lost, o1.2 is whole and was made from it, o1.3 is lost and was made from o1.2
abbrev pub whole_between : WorkerContext
whole_between = owner_of_these (made [] 3 [] ∷ made (1 ∷ []) 3 (1 ∷ []) ∷ made (2 ∷ []) 3 [] ∷ [])

-- the same with all three lost
abbrev pub all_lost : WorkerContext
all_lost = owner_of_these (made [] 3 [] ∷ made (1 ∷ []) 3 [] ∷ made (2 ∷ []) 3 [] ∷ [])

-- o1.1 was put, o1.2 was made from it, and both are lost
abbrev pub put_is_lost : WorkerContext
put_is_lost = owner_of_these (lost_put ∷ made (1 ∷ []) 3 [] ∷ [])

-- the same with no retry left for o1.2
abbrev pub none_can_be_made : WorkerContext
none_can_be_made = owner_of_these (lost_put ∷ made (1 ∷ []) 0 [] ∷ [])

-- no retry is left for o1.1, from which o1.2 was made
abbrev pub no_retry_left : WorkerContext
no_retry_left = owner_of_these (made [] 0 [] ∷ made (1 ∷ []) 3 [] ∷ [])

-- what is made again, and what stops it: the first in birth order
pub record PlansAre : Type 0 where
  pub alone : members whole_between 3 ≡ 3 ∷ []
  pub can_be_made : first_stop whole_between (members whole_between 3) ≡ None
  pub with_arguments : members all_lost 3 ≡ 1 ∷ 2 ∷ 3 ∷ []
  pub up_to_it : members all_lost 2 ≡ 1 ∷ 2 ∷ []
  pub put_lost : first_stop put_is_lost (members put_is_lost 2) ≡ Some (fault PutLost (object_id 1 1))
  pub first_in_birth_order : first_stop none_can_be_made (members none_can_be_made 2) ≡ Some (fault PutLost (object_id 1 1))
  pub retries_used : first_stop no_retry_left (members no_retry_left 2) ≡ Some (fault RetriesUsed (object_id 1 1))

-- ---- releases

-- what was put on node 1 got a copy at node 2, then that of node 1 was missed: nobody knows whether it is gone, or came late
abbrev pub missed_put : Object
missed_put = without_location 1 (with_location 2 first_put)

-- made on node 2, lost, and made again on node 1
abbrev pub made_twice : Object
made_twice = with_content 1 1 [] None (without_locations (with_content 0 2 [] None (new_object (ByTask (new_task (made_from_these [] 3))) main_attempt [])))

-- then made a third time, on node 3, where it is small and the owner keeps it
abbrev pub kept_at_last : Object
kept_at_last = with_content 2 3 [] (Some one) (without_locations made_twice)

-- what is sent where worker 1's first object is that, and is released
abbrev pub told_at_release : Object → List Envelope
told_at_release x = (releases_all (owner_of_these (x ∷ [])) 1 1).there.out.envelopes

-- node n hears that its copies of o1.1 go
abbrev pub copies_go : ℕ → Envelope
copies_go n = envelope (TheWorker 1) (TheNode n) (Unhold (object_id 1 1) (object_id 1 1) WasReleased)

-- each node at which a copy was ever known is told once, in the order in which they came
pub record ReleasesTell : Type 0 where
  pub one_place : told_at_release first_put ≡ copies_go 1 ∷ []
  pub a_place_that_was_missed : told_at_release missed_put ≡ copies_go 1 ∷ copies_go 2 ∷ []
  pub a_place_of_an_earlier_content : told_at_release made_twice ≡ copies_go 2 ∷ copies_go 1 ∷ []
  pub none_for_what_is_kept : told_at_release kept_at_last ≡ copies_go 2 ∷ copies_go 1 ∷ []
  pub back_again : told_at_release (with_location 1 missed_put) ≡ copies_go 1 ∷ copies_go 2 ∷ []

-- ---- asks and slots

-- asks for the first attempts of o1.1 and o1.2 come to node 1 of two nodes; of the second, the first ask
abbrev pub two_asks : NodeContext
two_asks = asked (asked (node_of 2) (ask_key (attempt (object_id 1 1) 0) 0)) (ask_key (attempt (object_id 1 2) 0) 0)

-- then the ask of o1.2 that every node was asked before, twice
abbrev pub queued_twice : NodeContext
queued_twice = asked (asked two_asks (ask_key (attempt (object_id 1 2) 0) 1)) (ask_key (attempt (object_id 1 2) 0) 1)

-- one slot: the first ask gets a new worker, the second is sent on, the last waits, and is told so again. A slot that is given back goes to
-- who waits; an attempt that was answered comes before an ask
pub record AsksAre : Type 0 where
  pub opened : two_asks.out.entries ≡ Opened 2 1 ∷ []
  pub answers :
      queued_twice.out.envelopes
      ≡ envelope (TheNode 1) (TheWorker 1) (Give (attempt (object_id 1 1) 0) 0 2)
      ∷ envelope (TheNode 1) (TheWorker 1) (Elsewhere (attempt (object_id 1 2) 0) 0 2)
      ∷ envelope (TheNode 1) (TheWorker 1) (Wait (attempt (object_id 1 2) 0) 1)
      ∷ envelope (TheNode 1) (TheWorker 1) (Wait (attempt (object_id 1 2) 0) 1)
      ∷ []
  pub granted : (frees queued_twice 2).node.scheduler.slot_holders ≡ 3 ∷ []
  pub answered_first : (frees (asks_slot queued_twice 1) 2).node.scheduler.slot_holders ≡ 1 ∷ []
  pub still_queued : (frees (asks_slot queued_twice 1) 2).node.scheduler.queue ≡ ask_key (attempt (object_id 1 2) 0) 1 ∷ []
  pub idle_again : (is_back (frees two_asks 2) 2 (attempt (object_id 1 1) 0)).node.scheduler.idle ≡ 2 ∷ []
  pub not_by_another : (is_back (frees two_asks 2) 2 (attempt (object_id 1 2) 0)).node.scheduler.idle ≡ []

-- ---- what is handed in

-- main's first job is out
pub record HandedIn : Type 0 where
  pub nothing : answer (plays [] (first_played 1 4) (Does (Claim 1) ∷ [])).whole (Commit 1) Nothing ≡ Refuses NoJob
  pub of_another : answer (plays [] (first_played 1 4) (Does (Claim 1) ∷ [])).whole (Commit 1) OfAnother ≡ Refuses NoJob

-- ---- a run with a death

-- `remote(0) one()`
abbrev pub one_once : Birth
one_once = Task (codes "one") [] 1 0 0

-- main's first job asks for it and needs its content
abbrev pub death_doings : List Doing
death_doings = doing 1 (record { births = one_once ∷ []; prints = []; stop = AtGet (object_id 1 1) }) ∷ []

-- all goes on but the worker that was given; it is killed, and main is told
abbrev pub death_lines : List Line
death_lines = Settles (2 ∷ []) ∷ Does (Kill 2) ∷ Does (Notice 1 2) ∷ Settles [] ∷ []

-- `return get remote(0) one();`
abbrev pub death_run : Seen
death_run =
    record {
      log =
          Opened 1 1
          ∷ Begun main_attempt 1
          ∷ In (Claim 1) 0
          ∷ In (Commit 1) 0
          ∷ Born (object_id 1 1) main_attempt one_once
          ∷ In (Deliver 1) 0
          ∷ Opened 2 1
          ∷ In (Deliver 2) 0
          ∷ Begun (attempt (object_id 1 1) 0) 2
          ∷ In (Deliver 3) 0
          ∷ In (Kill 2) 0
          ∷ In (Notice 1 2) 0
          ∷ Resolved (object_id 1 1) (fault RetriesUsed (object_id 1 1))
          ∷ Faulted main_attempt (object_id 1 1) (fault RetriesUsed (object_id 1 1))
          ∷ Released (object_id 1 1)
          ∷ [];
      envelopes =
          envelope (TheWorker 1) (TheNode 1) (Ask (attempt (object_id 1 1) 0) 0)
          ∷ envelope (TheNode 1) (TheWorker 1) (Give (attempt (object_id 1 1) 0) 0 2)
          ∷ envelope (TheWorker 1) (TheWorker 2) (Push (attempt (object_id 1 1) 0) one_once)
          ∷ [];
      given =
          record {
            number = 1;
            attempt = main_attempt;
            spec = main_birth;
            base = object_id 1 1;
            births = [];
            prints = [];
            answers = [];
          }
          ∷ [];
    }

-- the run is that
abbrev pub DeathIs : Type 0
DeathIs = IsRun 1 4 death_doings death_lines death_run
