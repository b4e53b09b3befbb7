-- What messages are about, and the first of them that was not delivered.
use Rattle.std.specs.Prelude.{Bool, List, None, Option, Some, [], false, if◌then◌else◌, not, slice_get, true, ℕ, ◌&&◌, ◌+◌, ◌==◌, ◌∷◌}
use Rattle.meaning.specs.Births.{same_id}
use Rattle.meaning.specs.Values.{Id}
use Rattle.event_log.specs.Entries.{Attempt}
use Rattle.event_log.specs.Words.{same_attempt}
use Rattle.protocol_data.specs.declared.message.Endpoint.{Endpoint}
use Rattle.protocol_data.specs.declared.message.Endpoint.TheVariants.{TheNode, TheWorker}
use Rattle.protocol_data.specs.declared.message.Message.{Message}
use Rattle.protocol_data.specs.declared.message.Message.TheVariants.{Ask, Elsewhere, Failed, Finished, Give, Push, Where}
use Rattle.protocol_data.specs.declared.message.Message.TheVariants.{At, CopyOf, Fetch, Gone, Hold, HoldAck, Missing}
use Rattle.protocol_data.specs.declared.message.Envelope.{Envelope}
use Rattle.protocol_data.specs.declared.cluster_state.ClusterState.{ClusterState}
use Rattle.waits.specs.declared.topics.Topic.{Topic}
use Rattle.waits.specs.declared.topics.Topic.TheVariants.{AnswerTo, AskFor, EndOf, FetchOf, ForLent, HoldAckOf, HoldOf, PushOf, ReplyTo, SoughtBy}

abbrev pub is_worker : ℕ → Endpoint → Bool
is_worker w (TheWorker v) = v == w
is_worker w (TheNode n) = false

abbrev pub is_node : ℕ → Endpoint → Bool
is_node n (TheWorker w) = false
is_node n (TheNode m) = m == n

abbrev pub is_any_node : Endpoint → Bool
is_any_node (TheWorker w) = false
is_any_node (TheNode n) = true

abbrev pub is_ask_for : Attempt → ℕ → Message → Bool
is_ask_for a t (Ask b u) = same_attempt b a && (u == t)
is_ask_for a t _ = false

-- what answers an ask, but for the word that it waits
abbrev pub is_reply_to : Attempt → ℕ → Message → Bool
is_reply_to a t (Give b u w) = same_attempt b a && (u == t)
is_reply_to a t (Elsewhere b u n) = same_attempt b a && (u == t)
is_reply_to a t _ = false

abbrev pub is_push_of : Attempt → Message → Bool
is_push_of a (Push b spec) = same_attempt b a
is_push_of a _ = false

abbrev pub is_end_of : Attempt → Message → Bool
is_end_of a (Finished b n rs) = same_attempt b a
is_end_of a (Failed b f) = same_attempt b a
is_end_of a _ = false

-- what a worker that waits for the object is told of it; to the owner itself an At says that there is one more copy, and a worker's Missing that it asks
abbrev pub is_answer : ℕ → Id → Endpoint → Message → Bool
is_answer w o sender (At p k ns c) = same_id p o && not (o.owner == w)
is_answer w o sender (Gone p f) = same_id p o
is_answer w o sender (CopyOf p k c) = same_id p o
is_answer w o sender (Missing p k n) = same_id p o && is_any_node sender
is_answer w o sender _ = false

abbrev pub is_fetch_of : Id → Message → Bool
is_fetch_of o (Fetch p k) = same_id p o
is_fetch_of o _ = false

-- whoever says it needs the object
abbrev pub seeks : Id → Message → Bool
seeks o (Where p) = same_id p o
seeks o (Missing p k n) = same_id p o
seeks o _ = false

abbrev pub is_hold_of : Id → Id → Message → Bool
is_hold_of e o (Hold d p) = same_id d e && same_id p o
is_hold_of e o _ = false

abbrev pub is_hold_ack_of : Id → Id → Message → Bool
is_hold_ack_of e o (HoldAck d p) = same_id d e && same_id p o
is_hold_ack_of e o _ = false

-- the worker was given to an attempt, or is to run it
abbrev pub is_for_lent : ℕ → Endpoint → Message → Bool
is_for_lent w receiver (Give a t v) = v == w
is_for_lent w receiver (Push a spec) = is_worker w receiver
is_for_lent w receiver _ = false

abbrev pub is_about : Topic → Envelope → Bool
is_about (AskFor a t) l = is_ask_for a t l.message
is_about (ReplyTo a t) l = is_reply_to a t l.message
is_about (PushOf a) l = is_push_of a l.message
is_about (EndOf a) l = is_end_of a l.message
is_about (AnswerTo w o) l = is_worker w l.receiver && is_answer w o l.sender l.message
is_about (FetchOf w n o) l = is_worker w l.sender && is_node n l.receiver && is_fetch_of o l.message
is_about (SoughtBy w o) l = is_worker w l.sender && seeks o l.message
is_about (HoldOf e o) l = is_hold_of e o l.message
is_about (HoldAckOf e o) l = is_hold_ack_of e o l.message
is_about (ForLent w) l = is_for_lent w l.receiver l.message

-- there is a message, and it is about that
abbrev pub is_about_it : Topic → Option Envelope → Bool
is_about_it topic None = false
is_about_it topic (Some l) = is_about topic l

-- the number of the first message from a place on that is about that and was not delivered; the marks say of those from the place on which were
abbrev pub sent_from : Topic → List Envelope → ℕ → List Bool → Option ℕ
sent_from topic envelopes k [] = None
sent_from topic envelopes k (mark ∷ marks) =
    if not mark && is_about_it topic (slice_get envelopes k) then Some (k + 1) else sent_from topic envelopes (k + 1) marks

-- the number of the first message about that which was not delivered
abbrev pub sent : ClusterState → Topic → Option ℕ
sent c topic = sent_from topic c.network 0 c.delivered
