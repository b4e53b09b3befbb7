-- Worked examples of what is owed: a birth and an end that pay, and altered ones in which the ask, or the acceptance, is missing.
use Rattle.std.specs.Prelude.{Bool, List, None, Some, [], false, true, ◌++◌, ◌∷◌}
use Rattle.meaning.specs.Values.{Items, Put, Val, Value, more, none}
use Rattle.event_log.specs.Entries.{Accepted, Begun, Born, Claim, Commit, Deliver, Ended, Entry, In, main_attempt}
use Rattle.event_log.specs.Rules.{Setting}
use Rattle.event_log.specs.Legal.{opening}
use Rattle.protocol.specs.Messages.{Ask, At, CopyOf, Fetch, Finished, FinishedAck, Hold, Envelope, Message, Missing, Push, TheNode, TheWorker, Where, envelope}
use Rattle.protocol.specs.Sets.{object_id}
use Rattle.protocol_owed.specs.Ends.{EndsAreReported}
use Rattle.protocol_owed.specs.Replies.{BirthIsAsked, FetchIsAnswered, FinishIsAcknowledged, Happening, HasFirstCopy, RequestIsTold}
use Rattle.protocol_owed.specs.Seen.{Scene}
use Rattle.owed_asks.specs.of_lease_discipline.Examples.{first_one, given_log, one_once, scene}

-- ---- a birth

-- main's first job bears the task, and its commit sends these envelopes
abbrev pub birth_comes : Setting → List Envelope → Happening
birth_comes s envelopes =
    record {
      before = scene s (opening ++ In (Claim 1) 0 ∷ []) [] (1 ∷ []);
      event = Commit 1;
      entries = Born (object_id 1 1) main_attempt one_once ∷ [];
      envelopes = envelopes;
      after = scene s (opening ++ In (Claim 1) 0 ∷ In (Commit 1) 0 ∷ Born (object_id 1 1) main_attempt one_once ∷ []) envelopes [];
    }

-- it is asked for; and altered, without its ask, or asked for at another node
pub record BirthsAreJudged : Type 0 where
  pub paid : (s : Setting) → BirthIsAsked (birth_comes s (envelope (TheWorker 1) (TheNode 1) (Ask first_one 0) ∷ []))
  pub unasked : (s : Setting) → BirthIsAsked (birth_comes s []) → ⊥
  pub elsewhere : (s : Setting) → BirthIsAsked (birth_comes s (envelope (TheWorker 1) (TheNode 2) (Ask first_one 0) ∷ [])) → ⊥

-- ---- an end

abbrev pub ended_network : List Envelope
ended_network = envelope (TheWorker 2) (TheWorker 1) (Finished first_one 1 (record { ids = []; kept = None } ∷ [])) ∷ []

-- worker 2 has told worker 1 that the attempt ended
abbrev pub end_comes : Setting → List Entry → List Envelope → Happening
end_comes s entries envelopes =
    record {
      before = scene s given_log ended_network (2 ∷ []);
      event = Deliver 1;
      entries = entries;
      envelopes = envelopes;
      after = scene s given_log ended_network (2 ∷ []);
    }

abbrev pub acknowledged : List Envelope
acknowledged = envelope (TheWorker 1) (TheWorker 2) (FinishedAck first_one) ∷ []

-- it is accepted and acknowledged; and altered, without the acceptance, or without the acknowledgement
pub record EndsAreJudged : Type 0 where
  pub paid : (s : Setting) → FinishIsAcknowledged (end_comes s (Accepted first_one ∷ []) acknowledged)
  pub unaccepted : (s : Setting) → FinishIsAcknowledged (end_comes s [] acknowledged) → ⊥
  pub unacknowledged : (s : Setting) → FinishIsAcknowledged (end_comes s (Accepted first_one ∷ []) []) → ⊥

-- ---- a Fetch

abbrev pub empty_list : Value
empty_list = Items none

-- main has put a list on node 1
abbrev pub put_log : List Entry
put_log = opening ++ In (Claim 1) 0 ∷ In (Commit 1) 0 ∷ Born (object_id 1 1) main_attempt (Put empty_list) ∷ []

-- or it was a task, and that ended on node 1 with a small content
abbrev pub ended_log : List Entry
ended_log = given_log ++ Begun first_one 2 ∷ Ended first_one (Val empty_list ∷ []) ∷ Accepted first_one ∷ []

-- a list of nine cells
abbrev pub long_list : Value
long_list =
    Items (more empty_list (more empty_list (more empty_list (more empty_list (more empty_list (more empty_list (more empty_list (more empty_list none))))))))

-- or it ended there with that, and wasn't accepted yet
abbrev pub unaccepted_log : List Entry
unaccepted_log = given_log ++ Begun first_one 2 ∷ Ended first_one (Val long_list ∷ []) ∷ []

-- worker 2 has sent a Fetch to node 1, which has a copy or not
abbrev pub fetch_scene : Setting → List Entry → Bool → Scene
fetch_scene s log has =
    record {
      setting = s;
      slots = 1;
      log = log;
      network = envelope (TheWorker 2) (TheNode 1) (Fetch (object_id 1 1) 0) ∷ [];
      slot_holders = λ n. [];
      keeps = λ n o number. has;
    }

abbrev pub fetch_comes : Setting → Bool → Message → Happening
fetch_comes s has answer =
    record {
      before = fetch_scene s put_log has;
      event = Deliver 1;
      entries = [];
      envelopes = envelope (TheNode 1) (TheWorker 2) answer ∷ [];
      after = fetch_scene s put_log has;
    }

-- the first copy answers it; and altered, by another content, or by a node that lost it on its own and says so. What an attempt ended with is a first
-- copy before it is accepted, but what ended small is in no store.
pub record FetchesAreJudged : Type 0 where
  pub paid : (s : Setting) → FetchIsAnswered (fetch_comes s true (CopyOf (object_id 1 1) 0 (Val empty_list))) 1 2 (object_id 1 1) 0
  pub other : (s : Setting) → FetchIsAnswered (fetch_comes s true (CopyOf (object_id 1 1) 0 (Val long_list))) 1 2 (object_id 1 1) 0 → ⊥
  pub withheld : (s : Setting) → FetchIsAnswered (fetch_comes s false (Missing (object_id 1 1) 0 1)) 1 2 (object_id 1 1) 0 → ⊥
  pub unaccepted : (s : Setting) → HasFirstCopy (fetch_scene s unaccepted_log false) 1 (object_id 1 1) 0
  pub small : (s : Setting) → HasFirstCopy (fetch_scene s ended_log false) 1 (object_id 1 1) 0 → ⊥

-- ---- a place

-- worker 2 has asked worker 1 where the list is
abbrev pub request_scene : Setting → Scene
request_scene s =
    record {
      setting = s;
      slots = 1;
      log = put_log;
      network = envelope (TheWorker 2) (TheWorker 1) (Where (object_id 1 1)) ∷ [];
      slot_holders = λ n. [];
      keeps = λ n o number. true;
    }

abbrev pub request_comes : Setting → Message → Happening
request_comes s answer =
    record {
      before = request_scene s;
      event = Deliver 1;
      entries = [];
      envelopes = envelope (TheWorker 1) (TheWorker 2) answer ∷ [];
      after = request_scene s;
    }

-- the place of the first copy answers it; and altered, another content
pub record RequestsAreJudged : Type 0 where
  pub paid : (s : Setting) → RequestIsTold (request_comes s (At (object_id 1 1) 0 (1 ∷ []) None))
  pub other : (s : Setting) → RequestIsTold (request_comes s (At (object_id 1 1) 0 [] (Some (Val long_list)))) → ⊥

-- ---- a report

-- main has put a list too; worker 2 was pushed the attempt, and that ended
abbrev pub report_scene : Setting → List Envelope → Scene
report_scene s envelopes =
    record {
      setting = s;
      slots = 1;
      log = given_log ++ Born (object_id 1 2) main_attempt (Put empty_list) ∷ Begun first_one 2 ∷ Ended first_one (Val empty_list ∷ []) ∷ [];
      network = envelope (TheWorker 1) (TheWorker 2) (Push first_one one_once) ∷ envelopes;
      slot_holders = λ n. [];
      keeps = λ n o number. false;
    }

-- it isn't told, though no Hold was sent, or only one for an object that was never born; and it needn't be yet, where a Hold of the list waits, which
-- the attempt's object names
pub record ReportsAreJudged : Type 0 where
  pub untold : (s : Setting) → EndsAreReported (report_scene s []) → ⊥
  pub unborn : (s : Setting) → EndsAreReported (report_scene s (envelope (TheWorker 2) (TheWorker 3) (Hold (object_id 1 1) (object_id 3 1)) ∷ [])) → ⊥
  pub waits : (s : Setting) → EndsAreReported (report_scene s (envelope (TheWorker 2) (TheWorker 1) (Hold (object_id 1 1) (object_id 1 2)) ∷ []))
