-- A log stays legal beside a larger network.
use Rattle.std.proofs.Common.{◌≡◌, ℕ, Bool, true, false, List, [], ◌∷◌, ◌++◌, Option, Some, None, inl, inr, refl, sym, ap, ◌∙◌, subst}
use Rattle.std.specs.Prelude.{is_some}
use Rattle.script_laws.specs.of_meaning.Values.{Id}
use Rattle.script_laws.specs.of_meaning.Runs.{Stop, Piece}
use Rattle.event_log.specs.Entries.{Attempt, Event, Commit, Deliver, Entry, In, Refused, Opened, Begun, Born, Got, Printed, Ended, Accepted, Faulted, Resolved, Released}
use Rattle.event_log.specs.Entries.{Refusal, NoMessage}
use Rattle.event_log.specs.Events.{refused_next}
use Rattle.event_log.specs.Rules.{Receiver, ToWorker, ToNode, worker_to, IsHeard, Setting, actor, IsOwn, Replays, Stops, Allowed}
use Rattle.event_log.specs.Causes.{unless, IsCauseOf, IsRefusal}
use Rattle.event_log.specs.Legal.{Happens, of_event, Unless, Answered, LegalFrom, opening}
use Rattle.event_log.specs.Laws.{with_receiver, LegalInLargerNetworks}

module _ (s : Setting) (receiver : ℕ → Option Receiver) (larger : (m : ℕ) (r : Receiver) → s.receiver m ≡ Some r → receiver m ≡ Some r) where
  abbrev t : Setting
  t = with_receiver s receiver

  same_worker : (m w : ℕ) (r : Option Receiver) → s.receiver m ≡ r → worker_to r ≡ Some w → worker_to (receiver m) ≡ Some w
  same_worker m w None e h = absurd (cc)
  same_worker m w (Some (ToWorker v)) e h = ap worker_to (larger m (ToWorker v) e) ∙ h
  same_worker m w (Some (ToNode n)) e h = absurd (cc)

  heard : (before : List Entry) (e : Event) → IsHeard s before e → IsHeard t before e
  heard before (Deliver m) (inl h) = inl (h.0, larger m (ToNode h.0) h.1)
  heard before (Deliver m) (inr h) = inr (h.0, larger m (ToWorker h.0) h.1, h.2)
  heard before e h = h

  same_actor : (before : List Entry) (e : Event) (w : ℕ) → actor s before e ≡ Some w → actor t before e ≡ Some w
  same_actor before (Deliver m) w h = same_worker m w (s.receiver m) refl h
  same_actor before e w h = h

  own : (before : List Entry) (w : ℕ) → IsOwn s before w → IsOwn t before w
  own before w h = record { event = h.event; now = h.now; own = same_actor before h.event w h.own; lives = h.lives }

  replays : (before : List Entry) (a : Attempt) (base : Id) (p : Piece) → Replays s before a base p → Replays t before a base p
  replays before a base p h = record { spec = h.spec; born = h.born; ended = h.ended; faulted = h.faulted; replayed = h.replayed }

  stops : (before : List Entry) (a : Attempt) (stop : Stop) → Stops s before a stop → Stops t before a stop
  stops before a stop h = record { base = h.base; p = h.p; replays = replays before a h.base h.p h.replays; own = h.own; prints = h.prints; stopped = h.stopped }

  -- the number of a refusal, where the network knows of more
  delivers : (m : ℕ) (code : Refusal) (handed : Bool) (o : Option Receiver) → s.receiver m ≡ o → IsCauseOf (unless (is_some o) NoMessage None) (Deliver m) code → IsCauseOf (unless (is_some (receiver m)) NoMessage None) (Deliver m) code
  delivers m code handed (Some r) e h = subst (λ o. IsCauseOf (unless (is_some o) NoMessage None) (Deliver m) code) (sym (larger m r e)) h
  delivers m code handed None e h = go (receiver m)
    where
      go : (o : Option Receiver) → IsCauseOf (unless (is_some o) NoMessage None) (Deliver m) code
      go None = h
      go (Some r) = (0, ap Some (sym h))

  refusal : (log : List Entry) (e : Event) (code : Refusal) → IsRefusal s log e code → IsRefusal t log e code
  refusal log (Deliver m) code h = (h.0, delivers m code h.0 (s.receiver m) refl h.1)
  refusal log e code h = h

  allowed : (before : List Entry) (x : Entry) → Allowed s before x → Allowed t before x
  allowed before (In e seat) h = h
  allowed before (Refused code) h = record { log = h.log; event = h.event; seat = h.seat; parts = h.parts; cause = refusal h.log h.event code h.cause }
  allowed before (Opened w n) h = record { event = h.event; now = h.now; heard = heard before h.event h.heard; next = h.next; lives = h.lives }
  allowed before (Begun a w) h = record {
    own = own before a.object.owner h.own;
    function = h.function;
    args = h.args;
    depth = h.depth;
    retries = h.retries;
    others = h.others;
    born = h.born;
    unreleased = h.unreleased;
    unresolved = h.unresolved;
    node = h.node;
    place = h.place;
    next = h.next;
    broken = h.broken;
    few = h.few;
  }
  allowed before (Born o a b) h = record { job = h.job; base = h.base; p = h.p; replays = replays before a h.base h.p h.replays; own = h.own; next = h.next }
  allowed before (Got a y c) h = record { worker = h.worker; runs = h.runs; own = own before h.worker h.own; needs = stops before a _ h.needs; content = h.content; untold = h.untold }
  allowed before (Printed v) h = record { worker = h.worker; job = h.job; base = h.base; p = h.p; replays = replays before _ h.base h.p h.replays; own = h.own; prints = h.prints }
  allowed before (Ended a c) h = record { worker = h.worker; job = h.job; stops = stops before a _ h.stops }
  allowed before (Accepted a) h = record { own = own before a.object.owner h.own; not_main = h.not_main; contents = h.contents; ended = h.ended; last = h.last; unresolved = h.unresolved; unspent = h.unspent; once = h.once }
  allowed before (Faulted a y f) h = record { worker = h.worker; runs = h.runs; own = own before h.worker h.own; needs = stops before a _ h.needs; reason = h.reason; cause = h.cause }
  allowed before (Resolved o f) h = record { own = own before o.owner h.own; not_main = h.not_main; once = h.once; reason = h.reason; cause = h.cause }
  allowed before (Released o) h = record { own = own before o.owner h.own; once = h.once; settled = h.settled; bearer = h.bearer; bore = h.bore; over = h.over; unheld = h.unheld }

  happens : (before : List Entry) (e : Event) (es : List Entry) → Happens s before e es → Happens t before e es
  happens before (Commit j) es h = (h.0, h.1, record { base = h.2.base; p = h.2.p; replays = replays before h.0 h.2.base h.2.p h.2.replays; own = h.2.own; prints = h.2.prints; ends = h.2.ends })
  happens before (Deliver m) es h = (h.0, larger m h.0 h.1)
  happens before e es h = h

  unless_refused : (b : Bool) (before : List Entry) (e : Event) (es : List Entry) → Unless b (Happens s before e es) → Unless b (Happens t before e es)
  unless_refused true before e es h = h
  unless_refused false before e es h = happens before e es h

  answered : (before : List Entry) (x : Entry) (es : List Entry) → Answered s before x es → Answered t before x es
  answered before (In e seat) es h = unless_refused (refused_next es) before e (of_event es) h
  answered before x es h = h

  legal_from : (before es : List Entry) → LegalFrom s before es → LegalFrom t before es
  legal_from before [] h = tt
  legal_from before (x ∷ es) h = (allowed before x h.0, answered before x es h.1, legal_from (before ++ x ∷ []) es h.2)

pub legal_in_larger_networks : LegalInLargerNetworks
legal_in_larger_networks s receiver log larger h = record { rest = h.rest; begins = h.begins; each = legal_from s receiver larger opening h.rest h.each }
