-- A run that was reached has no entry behind its opening only where no event came.
use Rattle.std.proofs.Common.{◌≡◌, ℕ, List, [], ◌∷◌, ◌++◌, refl, sym, ap, ◌∙◌, append_assoc, append-nil}
use Rattle.std.specs.Prelude.{Bool, false}
use Rattle.std.proofs.lemmas.List.{append_cancel_left}
use Rattle.event_log.specs.Entries.{Entry, Event, In, Refused}
use Rattle.event_log.specs.Legal.{opening}
use Rattle.protocol.specs.Answers.{Answer, Refuses, Takes, logged}
use Rattle.protocol.specs.Cluster.{ClusterState, first_whole}
use Rattle.protocol_owed.specs.Runs.{Handing, Running, after_event, after_events, answer_to, opening_run}
use Rattle.protocol_board.specs.Cores.{IsReached}
use Rattle.protocol_board.specs.Cores.{IsReachedRun, RunState, beside, first_state}
use Rattle.run_paths.specs.Paths.{NoneCame}

-- an event adds itself first
pub adds_itself : (e : Event) (seat : ℕ) (a : Answer) → (es : List Entry) × (logged e seat a ≡ In e seat ∷ es)
adds_itself e seat (Takes step) = (step.entries, refl)
adds_itself e seat (Refuses code) = (Refused code ∷ [], refl)

abbrev pub Adds : Running → List Handing → List Entry → Type 0
Adds r gs es = (after_events r gs).log ≡ r.log ++ es

pub events_add : (r : Running) (gs : List Handing) → (es : List Entry) × Adds r gs es
events_add r [] = ([], sym (append-nil r.log))
events_add r (g ∷ gs) =
    let k = events_add (after_event r g) gs in
    (logged g.event g.seat (answer_to r g) ++ k.0, k.1 ∙ append_assoc r.log (logged g.event g.seat (answer_to r g)) k.0)

pub one_adds : (r : Running) (g : Handing) (gs : List Handing) → (es : List Entry) × Adds r (g ∷ gs) (In g.event g.seat ∷ es)
one_adds r g gs =
    let k = events_add (after_event r g) gs in
    let i = adds_itself g.event g.seat (answer_to r g) in
    (i.0 ++ k.0, k.1 ∙ append_assoc r.log (logged g.event g.seat (answer_to r g)) k.0 ∙ ap (λ es. r.log ++ (es ++ k.0)) i.1)

pub first_stays : (nodes slots : ℕ) (gs : List Handing) → (after_events (opening_run nodes slots) gs).log ≡ opening →
    (after_events (opening_run nodes slots) gs).whole ≡ first_whole nodes slots
first_stays nodes slots [] e = refl
first_stays nodes slots (g ∷ gs) e =
    let k = one_adds (opening_run nodes slots) g gs in
    let i : opening ++ In g.event g.seat ∷ k.0 ≡ opening ++ [] = sym k.1 ∙ e in
    let j : In g.event g.seat ∷ k.0 ≡ [] = append_cancel_left opening (In g.event g.seat ∷ k.0) [] i in
    absurd (cc)

state_parts : (log : List Entry) (whole other : ClusterState) (nodes : ℕ) (halted : Bool) → log ≡ opening → whole ≡ other → halted ≡ false →
    ◌≡◌ {A = RunState} (record { log = log; whole = whole; first_nodes = nodes; is_halted = halted })
    (record { log = opening; whole = other; first_nodes = nodes; is_halted = false })
state_parts log whole other nodes halted e f g = cc

pub none_came : NoneCame
none_came script r k e goes_on =
    let at : IsReached (beside script r.first_nodes []) k.slots k.run = k.reached in
    let whole : k.run.whole ≡ first_whole r.first_nodes k.slots =
    sym (ap (λ (x : Running). x.whole) at.leads)
    ∙ first_stays r.first_nodes k.slots at.handings (ap (λ (x : Running). x.log) at.leads ∙ k.log ∙ e) in
    let first : r.whole ≡ first_whole r.first_nodes k.slots = sym (k.whole goes_on) ∙ whole in
    let slots : r.whole.slots ≡ k.slots = ap (λ (c : ClusterState). c.slots) first in
    state_parts r.log r.whole (first_whole r.first_nodes r.whole.slots) r.first_nodes r.is_halted e
    (first ∙ ap (first_whole r.first_nodes) (sym slots)) goes_on
