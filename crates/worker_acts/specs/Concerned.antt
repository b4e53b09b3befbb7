-- Whether a worker's step is about something that it has. Where it isn't, the step does nothing, and asks for no memory.
use Rattle.std.specs.Prelude.{Bool, false, is_some, List, None, not, Option, Some, true, ℕ, ◌||◌, ◌≡◌, ◌⊎◌}
use Rattle.protocol.specs.Messages.{At, CopyOf, Elsewhere, Endpoint, Envelope, Failed, Finished, FinishedAck, Give, Gone, Hold, HoldAck, Message, Missing, Push, TheNode, TheWorker, Unhold, Where}
use Rattle.protocol.specs.Numbered.{item_at}
use Rattle.protocol.specs.Sets.{has, is_empty}
use Rattle.protocol.specs.Steps.{WorkerContext, is_own, object_at}
use Rattle.protocol.specs.Tables.{is_waiting_for, knows_dead, task_of}
use Rattle.worker_steps.specs.Concerned.{has_use_of, is_asked_by, is_missed, may_begin}
use Rattle.worker_steps.specs.Looking.{SomeGoes}
use Rattle.commit_steps.specs.of_owner_steps.Asked.{has_ask}
use Rattle.worker_acts.specs.Acts.{act_step}
use Rattle.worker_acts.specs.declared.part.Act.{Act}
use Rattle.worker_acts.specs.declared.part.Act.TheVariants.{Claim, Commit, Receive, LearnNodeDied, LearnWorkerDied, Tick}

-- what a worker says: an attempt begins that never began, its owner hears of an attempt's end, an own object is asked for or held, or the own attempt
-- waits for it
abbrev pub concerns_by_worker : WorkerContext → ℕ → Message → Bool
concerns_by_worker h w (Push a spec) = may_begin h a
concerns_by_worker h w (Finished a n rs) = true
concerns_by_worker h w (FinishedAck a) = true
concerns_by_worker h w (Failed a f) = true
concerns_by_worker h w (Where o) = is_asked_by h w o
concerns_by_worker h w (At o number ns kept) = has_use_of h o number
concerns_by_worker h w (Gone o f) = is_waiting_for h.worker o
concerns_by_worker h w (Missing o number n) = is_missed h (TheWorker w) o
concerns_by_worker h w (Hold e o) = is_some (object_at h o)
concerns_by_worker h w (HoldAck e o) = is_some h.worker.run
concerns_by_worker h w (Unhold e o why) = is_own h o
concerns_by_worker h w _ = false

-- what a node says: an ask that stands is answered, or the own attempt waits for the object
abbrev pub concerns_by_node : WorkerContext → ℕ → Message → Bool
concerns_by_node h n (Give a t w) = has_ask t a (task_of (object_at h a.object))
concerns_by_node h n (Elsewhere a t m) = has_ask t a (task_of (object_at h a.object))
concerns_by_node h n (CopyOf o number c) = is_waiting_for h.worker o
concerns_by_node h n (Missing o number m) = is_missed h (TheNode n) o
concerns_by_node h n _ = false

-- a message reaches the worker
abbrev pub concerns : WorkerContext → Endpoint → Message → Bool
concerns h (TheWorker w) m = concerns_by_worker h w m
concerns h (TheNode n) m = concerns_by_node h n m

-- a message, if there is one
abbrev pub concerns_envelope : WorkerContext → Option Envelope → Bool
concerns_envelope h None = false
concerns_envelope h (Some l) = concerns h l.sender l.message

-- at a tick something may have to be sent again: the worker has an attempt, or objects of its own
abbrev pub has_to_send : WorkerContext → Bool
has_to_send h = is_some h.worker.run || not (is_empty h.worker.objects)

-- its step where these messages were sent so far; a claim takes no memory, and a death that is known changes nothing
abbrev pub concerns_act : List Envelope → Act → WorkerContext → Bool
concerns_act sent (Claim j) h = false
concerns_act sent (Commit d) h = is_some h.worker.run
concerns_act sent (Receive k) h = concerns_envelope h (item_at sent k)
concerns_act sent Tick h = has_to_send h
concerns_act sent (LearnWorkerDied v) h = not (knows_dead h.worker v)
concerns_act sent (LearnNodeDied n) h = not (has h.worker.dead_nodes n)

-- the step is about something that the worker has, or some object may be released behind it
abbrev pub AsksFor : List Envelope → Act → WorkerContext → Type 0
AsksFor sent act h = (concerns_act sent act h ≡ true) ⊎ SomeGoes (act_step sent act h).worker
