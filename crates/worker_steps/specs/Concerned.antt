-- Whether a message, or a call, is about something that the worker has. Where it isn't, the step does nothing, and asks for no memory.
use Rattle.std.specs.Prelude.{Bool, false, is_some, None, Option, Some, true, ℕ, if◌then◌else◌, not, ◌&&◌, ◌==◌, ◌||◌}
use Rattle.std.specs.List.{list_any}
use Rattle.meaning.specs.Values.{Id}
use Rattle.event_log.specs.Entries.{Attempt}
use Rattle.event_log.specs.Words.{same_attempt}
use Rattle.protocol.specs.Locations.{is_present, may_gain_location}
use Rattle.protocol.specs.Messages.{Endpoint, TheNode, TheWorker}
use Rattle.protocol.specs.Runs.{is_free}
use Rattle.protocol.specs.Steps.{WorkerContext, is_own, object_at}
use Rattle.protocol.specs.Tables.{Object, is_waiting_for}

-- a Push begins the attempt: the worker has none that goes on, and never began this one
abbrev pub may_begin : WorkerContext → Attempt → Bool
may_begin h a = is_free h.worker.run && not (list_any (λ b. same_attempt b a) h.worker.began)

-- locations of the content of that number may be added to the object, if there is one
abbrev pub may_locate_by : WorkerContext → ℕ → Option Object → Bool
may_locate_by h number None = false
may_locate_by h number (Some x) = is_present number x && may_gain_location h.worker.objects x

-- so of an own object
abbrev pub may_locate : WorkerContext → Id → ℕ → Bool
may_locate h o number = may_locate_by h number (object_at h o)

-- locations that are told are for the own table, or for the attempt, which waits
abbrev pub has_use_of : WorkerContext → Id → ℕ → Bool
has_use_of h o number = if is_own h o then may_locate h o number else is_waiting_for h.worker o

-- another worker asks for an own object
abbrev pub is_asked_by : WorkerContext → ℕ → Id → Bool
is_asked_by h w o = is_some (object_at h o) && not (w == h.me)

-- a copy of an own object is missing: another worker asks anew, or the own attempt waits for it
abbrev pub is_missed_by : WorkerContext → Endpoint → Id → Bool
is_missed_by h (TheWorker w) o = is_asked_by h w o
is_missed_by h (TheNode n) o = is_waiting_for h.worker o

-- so of any object; of another owner's object it is handed on
abbrev pub is_missed : WorkerContext → Endpoint → Id → Bool
is_missed h from o = if is_own h o then is_missed_by h from o else true
