-- Own events: which there are, and that they stay own while their entries are logged.
use Rattle.std.proofs.Common.{◌≡◌, ℕ, ◌+◌, length, add-one, Bool, true, false, List, [], ◌∷◌, ◌++◌, Option, Some, None, refl, sym, ap, ◌∙◌, subst, append-nil, append_assoc}
use Rattle.std.specs.Prelude.{◌||◌, ◌&&◌, not, nat_lt}
use Rattle.std.specs.List.{flat_map, list_any}
use Rattle.std.proofs.lemmas.List.Concat.{flat_map-append}
use Rattle.event_log.specs.Entries.{Attempt, Event, Claim, Commit, Entry, In, Refused, Opened}
use Rattle.event_log.specs.Words.{worker_of, run_in, opened_in, opened}
use Rattle.event_log.specs.Events.{refused_next, accepted_events, goes_on, under_way_from, under_way, claim_in, claims, from_one, worker_of_job, join_in, kills_node, node_is_killed, node_lives, kills, on_node, node_of, is_live, tells, was_told}
use Rattle.event_log.specs.Rules.{Setting, actor, IsOwn, IsOwnCommit}
use Rattle.event_log.specs.Legal.{EachAllowed}
use Rattle.event_log.proofs.EventLaws.{accepted-append, word-more, from_one-more}
use Rattle.log_entries.proofs.of_sequence.Places.{slice_get-last}
use Rattle.event_log.proofs.WordLaws.{word_push}
use Rattle.event_log.proofs.Extending.{node_of-more}

-- an entry that is neither an event nor a refusal
abbrev pub is_plain : Entry → Bool
is_plain (In e seat) = false
is_plain (Refused code) = false
is_plain x = true

pub plain_unrefused : (x : Entry) (es : List Entry) → is_plain x ≡ true → refused_next (x ∷ es) ≡ false
plain_unrefused (In e seat) es h = absurd (cc)
plain_unrefused (Refused code) es h = absurd (cc)
plain_unrefused x es h = refl

plain_accepts : (x : Entry) → is_plain x ≡ true → accepted_events (x ∷ []) ≡ []
unfolding accepted_events
plain_accepts (In e seat) h = absurd (cc)
plain_accepts (Refused code) h = absurd (cc)
plain_accepts x h = refl

-- a plain entry leaves the events as accepted
pub accepted-plain : (log : List Entry) (x : Entry) → is_plain x ≡ true → accepted_events (log ++ x ∷ []) ≡ accepted_events log
accepted-plain log x h = accepted-append log (x ∷ []) (plain_unrefused x [] h) ∙ (ap (λ xs. accepted_events log ++ xs) (plain_accepts x h) ∙ append-nil (accepted_events log))

accepted-in : (log : List Entry) (e : Event) (seat : ℕ) → accepted_events (log ++ In e seat ∷ []) ≡ accepted_events log ++ e ∷ []
unfolding accepted_events
accepted-in log e seat = accepted-append log (In e seat ∷ []) refl

-- ---- the event under way

under_way_from-push : (now : Option Event) (log : List Entry) (x : Entry) → under_way_from now (log ++ x ∷ []) ≡ goes_on (under_way_from now log) x
unfolding under_way_from
under_way_from-push now [] x = refl
under_way_from-push now (y ∷ log) x = under_way_from-push (goes_on now y) log x

plain_goes_on : (now : Option Event) (x : Entry) → is_plain x ≡ true → goes_on now x ≡ now
plain_goes_on now (In e seat) h = absurd (cc)
plain_goes_on now (Refused code) h = absurd (cc)
plain_goes_on now x h = refl

pub under_way-in : (log : List Entry) (e : Event) (seat : ℕ) → under_way (log ++ In e seat ∷ []) ≡ Some e
under_way-in log e seat = under_way_from-push None log (In e seat)

pub under_way-plain : (log : List Entry) (x : Entry) (e : Event) → is_plain x ≡ true → under_way log ≡ Some e → under_way (log ++ x ∷ []) ≡ Some e
under_way-plain log x e h k = under_way_from-push None log x ∙ (plain_goes_on (under_way log) x h ∙ k)

-- ---- live workers

live_by : (log later : List Entry) (w : ℕ) → ((n : ℕ) → node_of w log ≡ Some n → node_of w later ≡ Some n) → ((n : ℕ) → list_any (kills w n) (accepted_events later) ≡ list_any (kills w n) (accepted_events log)) →
    (o : Option ℕ) → node_of w log ≡ o → on_node o false (λ n. not (list_any (kills w n) (accepted_events log))) ≡ true → on_node (node_of w later) false (λ n. not (list_any (kills w n) (accepted_events later))) ≡ true
live_by log later w f k None e h = absurd (cc)
live_by log later w f k (Some n) e h =
    subst (λ o. on_node o false (λ m. not (list_any (kills w m) (accepted_events later))) ≡ true) (sym (f n e)) (ap (λ b. not b) (k n) ∙ h)

-- a worker that lives goes on to live behind a plain entry
pub live-plain : (log : List Entry) (x : Entry) (w : ℕ) → is_plain x ≡ true → is_live w log ≡ true → is_live w (log ++ x ∷ []) ≡ true
unfolding is_live
live-plain log x w p h = live_by log (log ++ x ∷ []) w (node_of-more log (x ∷ []) w) (λ n. ap (λ xs. list_any (kills w n) xs) (accepted-plain log x p)) (node_of w log) refl h

list_any-spared : {X : Type 0} (p : X → Bool) (xs : List X) (y : X) → p y ≡ false → list_any p (xs ++ y ∷ []) ≡ list_any p xs
list_any-spared p [] y h = ap (λ b. b || false) h
list_any-spared p (x ∷ xs) y h = ap (λ b. p x || b) (list_any-spared p xs y h)

-- and behind an event that doesn't kill it
pub live-in : (log : List Entry) (e : Event) (seat w : ℕ) → ((n : ℕ) → kills w n e ≡ false) → is_live w log ≡ true → is_live w (log ++ In e seat ∷ []) ≡ true
unfolding is_live
live-in log e seat w q h =
    live_by log (log ++ In e seat ∷ []) w (node_of-more log (In e seat ∷ []) w)
    (λ n. ap (λ xs. list_any (kills w n) xs) (accepted-in log e seat) ∙ list_any-spared (kills w n) (accepted_events log) e (q n))
    (node_of w log) refl h

-- an opened worker lives where no kill of it was accepted
pub live_unless_killed : (log : List Entry) (w n : ℕ) → node_of w log ≡ Some n → list_any (kills w n) (accepted_events log) ≡ false → is_live w log ≡ true
unfolding is_live
live_unless_killed log w n e h = ap (λ o. on_node o false (λ m. not (list_any (kills w m) (accepted_events log)))) e ∙ ap (λ b. not b) h

from_one-last : {X : Type 0} (xs : List X) (x : X) → from_one (xs ++ x ∷ []) (length xs + 1) ≡ Some x
from_one-last xs x = ap (λ j. from_one (xs ++ x ∷ []) j) (add-one (length xs)) ∙ slice_get-last xs x (length xs) refl

-- the worker that is opened next is on the node
pub node_of-opened : (log : List Entry) (w n : ℕ) → node_of (length (opened log) + 1) (log ++ Opened w n ∷ []) ≡ Some n
node_of-opened log w n = ap (λ xs. from_one xs (length (opened log) + 1)) (word_push opened_in log (Opened w n)) ∙ from_one-last (opened log) n

-- ---- live nodes

-- a node lives behind a plain entry as before
pub node_lives-plain : (first n : ℕ) (log : List Entry) (x : Entry) → is_plain x ≡ true → node_lives first n (log ++ x ∷ []) ≡ node_lives first n log
unfolding node_lives node_is_killed
node_lives-plain first n log x p = ap (λ xs. (nat_lt 0 n && nat_lt n (first + length (flat_map join_in xs) + 1)) && not (list_any (kills_node n) xs)) (accepted-plain log x p)

-- and behind an event by which no node comes and that doesn't kill it
pub node_lives-in : (first n : ℕ) (log : List Entry) (e : Event) (seat : ℕ) → join_in e ≡ [] → kills_node n e ≡ false → node_lives first n (log ++ In e seat ∷ []) ≡ node_lives first n log
unfolding node_lives node_is_killed
node_lives-in first n log e seat j k =
    let a = accepted_events log in
    let joined : flat_map join_in (a ++ e ∷ []) ≡ flat_map join_in a = flat_map-append join_in a (e ∷ []) ∙ (ap (λ xs. flat_map join_in a ++ (xs ++ [])) j ∙ append-nil (flat_map join_in a)) in
    ap (λ xs. (nat_lt 0 n && nat_lt n (first + length (flat_map join_in xs) + 1)) && not (list_any (kills_node n) xs)) (accepted-in log e seat)
    ∙ ap (λ xs. (nat_lt 0 n && nat_lt n (first + length xs + 1)) && not (list_any (kills_node n) (a ++ e ∷ []))) joined
    ∙ ap (λ b. (nat_lt 0 n && nat_lt n (first + length (flat_map join_in a) + 1)) && not b) (list_any-spared (kills_node n) a e k)

-- ---- notices

-- a worker was told of as many deaths behind a plain entry
pub told-plain : (log : List Entry) (x : Entry) (w v : ℕ) → is_plain x ≡ true → was_told w v (log ++ x ∷ []) ≡ was_told w v log
unfolding was_told
told-plain log x w v p = ap (λ xs. list_any (tells w v) xs) (accepted-plain log x p)

-- and behind an event that doesn't tell it
pub told-in : (log : List Entry) (e : Event) (seat w v : ℕ) → tells w v e ≡ false → was_told w v (log ++ In e seat ∷ []) ≡ was_told w v log
unfolding was_told
told-in log e seat w v h = ap (λ xs. list_any (tells w v) xs) (accepted-in log e seat) ∙ list_any-spared (tells w v) (accepted_events log) e h

-- ---- jobs

pub job-more : (log es : List Entry) (j w : ℕ) → refused_next es ≡ false → worker_of_job j log ≡ Some w → worker_of_job j (log ++ es) ≡ Some w
job-more log es j w r h =
    subst (λ xs. from_one xs j ≡ Some w) (sym (ap (λ xs. flat_map claim_in xs) (accepted-append log es r) ∙ flat_map-append claim_in (accepted_events log) (accepted_events es)))
    (from_one-more (claims log) (flat_map claim_in (accepted_events es)) j w h)

-- ---- own events

-- at its event
pub own-in : (s : Setting) (log : List Entry) (e : Event) (seat w : ℕ) → actor s (log ++ In e seat ∷ []) e ≡ Some w → ((n : ℕ) → kills w n e ≡ false) → is_live w log ≡ true → IsOwn s (log ++ In e seat ∷ []) w
own-in s log e seat w a q h = record { event = e; now = under_way-in log e seat; own = a; lives = live-in log e seat w q h }

actor-plain : (s : Setting) (log : List Entry) (x : Entry) (e : Event) (w : ℕ) → is_plain x ≡ true → actor s log e ≡ Some w → actor s (log ++ x ∷ []) e ≡ Some w
actor-plain s log x (Commit j) w p h = job-more log (x ∷ []) j w (plain_unrefused x [] p) h
actor-plain s log x e w p h = h

-- and behind its entries
pub own-plain : (s : Setting) (log : List Entry) (x : Entry) (w : ℕ) → is_plain x ≡ true → IsOwn s log w → IsOwn s (log ++ x ∷ []) w
own-plain s log x w p h = record { event = h.event; now = under_way-plain log x h.event p h.now; own = actor-plain s log x h.event w p h.own; lives = live-plain log x w p h.lives }

pub own_claim : (s : Setting) (log : List Entry) (seat w : ℕ) → is_live w log ≡ true → IsOwn s (log ++ In (Claim w) seat ∷ []) w
own_claim s log seat w h = own-in s log (Claim w) seat w refl (λ n. refl) h

pub own_commit : (log : List Entry) (j seat : ℕ) (a : Attempt) (w : ℕ) → worker_of_job j log ≡ Some w → is_live w log ≡ true → worker_of a log ≡ Some w → IsOwnCommit (log ++ In (Commit j) seat ∷ []) a w
own_commit log j seat a w c h r = record {
  job = j;
  now = under_way-in log (Commit j) seat;
  own = job-more log (In (Commit j) seat ∷ []) j w refl c;
  runs = word-more (run_in a.object) log (In (Commit j) seat ∷ []) a.number w r;
  lives = live-in log (Commit j) seat w (λ n. refl) h;
}

pub own_commit-plain : (log : List Entry) (x : Entry) (a : Attempt) (w : ℕ) → is_plain x ≡ true → IsOwnCommit log a w → IsOwnCommit (log ++ x ∷ []) a w
own_commit-plain log x a w p h = record {
  job = h.job;
  now = under_way-plain log x (Commit h.job) p h.now;
  own = job-more log (x ∷ []) h.job w (plain_unrefused x [] p) h.own;
  runs = word-more (run_in a.object) log (x ∷ []) a.number w h.runs;
  lives = live-plain log x w p h.lives;
}

-- the commit of a job of the attempt's worker is an own event of the worker
pub own_by_commit : (s : Setting) (log : List Entry) (a : Attempt) (w : ℕ) → IsOwnCommit log a w → IsOwn s log w
own_by_commit s log a w h = record { event = Commit h.job; now = h.now; own = h.own; lives = h.lives }

-- entries one after the other, and more
pub each-append : (s : Setting) (before xs ys : List Entry) → EachAllowed s before xs → EachAllowed s (before ++ xs) ys → EachAllowed s before (xs ++ ys)
each-append s before [] ys h k = subst (λ b. EachAllowed s b ys) (append-nil before) k
each-append s before (x ∷ xs) ys h k = (h.0, each-append s (before ++ x ∷ []) xs ys h.1 (subst (λ b. EachAllowed s b ys) (sym (append_assoc before (x ∷ []) xs)) k))
