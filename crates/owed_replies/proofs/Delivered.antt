-- What a delivery to a live worker logs and sends, and who is there to receive it.
use Rattle.std.proofs.Common.{◌≡◌, ◌≤◌, ℕ, zero, suc, ◌+◌, List, [], ◌∷◌, ◌++◌, Some, None, Option, refl, ap, sym, subst, ◌∙◌, arith}
use Rattle.std.specs.Prelude.{Bool, true, false, if◌then◌else◌, ◌==◌, is_some}
use Rattle.std.proofs.lemmas.Bool.Decides.{nat_tests}
use Rattle.meaning.proofs.BirthLaws.{at_test}
use Rattle.meaning.proofs.BirthLaws.{made_from}
use Rattle.meaning.specs.Births.{Bearing, same_id}
use Rattle.meaning.specs.Readings.{IsBorn}
use Rattle.meaning.specs.Values.{Id, results_of}
use Rattle.event_log.specs.Breaks.{Among}
use Rattle.event_log.specs.Entries.{Accepted, Attempt, Begun, Born, Deliver, Entry, Opened, main_attempt, main_object}
use Rattle.event_log.specs.Entries.{NoMessage, Limit}
use Rattle.event_log.specs.Legal as L
use Rattle.event_log.specs.Legal.{opening}
use Rattle.event_log.specs.Rules.{Allowed, Setting}
use Rattle.std.specs.List.{flat_map}
use Rattle.event_log.specs.Words.{births, born_in, main_bearing, next_serial}
use Rattle.event_log.proofs.Growing.{entries_have_their_needs}
use Rattle.event_log.specs.Laws.{HasItsNeeds}
use Rattle.protocol.specs.Answers.{Answer, Refuses, Step, Takes, answer, decided, takes}
use Rattle.protocol.specs.Deliveries.{reached}
use Rattle.protocol.specs.Events.{delivered, delivered_by, is_live_worker, with_delivered}
use Rattle.protocol.specs.Jobs.{CommitInput, Job}
use Rattle.protocol.specs.Messages.{Envelope, Message, Endpoint, TheWorker, envelope}
use Rattle.protocol.specs.Nodes.{Node, Outbox}
use Rattle.protocol.specs.Numbered.{item_at}
use Rattle.protocol.specs.Refusals.{is_within_limits, refusal, unless}
use Rattle.protocol.specs.Releases.{release_step}
use Rattle.protocol.specs.Steps.{WorkerContext}
use Rattle.protocol.specs.Tables.{Worker}
use Rattle.protocol.specs.Cluster.{Transition, ClusterState, here, moved, node_at, worker_at, worker_does, worker_does_at, worker_does_by}
use Rattle.lease_discipline.specs.of_protocol_legal.Whole.{Between}
use Rattle.protocol_owed.specs.Seen.{IsCalm}
use Rattle.protocol_owed.proofs.Envelopes.{among-nothing}
use Rattle.lease_discipline.proofs.Told.{lives_there}
use Rattle.owed_replies.specs.Kept.{IsBornIn}
use Rattle.owed_replies.proofs.Quiet.{opened_lives}

-- ---- what is taken

pub record IsOut (m : Transition) (step : Step) : Type 0 where
  pub entries : step.entries ≡ m.out.entries
  pub envelopes : step.envelopes ≡ m.out.envelopes

pub taken_out : (m : Transition) (given : Option Job) (b : Bool) (step : Step) → (if b then takes m given else Refuses Limit) ≡ Takes step → IsOut m step
taken_out m given true step e = record { entries = sym (ap entries_in e); envelopes = sym (ap envelopes_in e) }
  where
    entries_in : Answer → List Entry
    entries_in (Takes s) = s.entries
    entries_in (Refuses code) = []

    envelopes_in : Answer → List Envelope
    envelopes_in (Takes s) = s.envelopes
    envelopes_in (Refuses code) = []
taken_out m given false step e = absurd (cc)

-- a delivery to a live worker
module _ (c : ClusterState) (i : ℕ) (handed : CommitInput) (step : Step) (from : Endpoint) (w : ℕ) (m : Message) (x : Worker) (node : Node)
    (sent : item_at c.network i ≡ Some (envelope from (TheWorker w) m)) (at : worker_at c w ≡ Some x) (live : x.is_live ≡ true) (home : node_at c x.node ≡ Some node)
    (answered : answer c (Deliver i) handed ≡ Takes step) where
  abbrev pub received : WorkerContext
  received = release_step (reached (here c w x node) from m)

  pub delivered_out : (step.entries ≡ received.there.out.entries) × (step.envelopes ≡ received.there.out.envelopes)
  delivered_out =
      let d : ClusterState = with_delivered c i in
      let f : WorkerContext → WorkerContext = λ h. reached h from m in
      let unrefused : refusal c (Deliver i) handed ≡ None = ap (λ y. unless (is_some y) NoMessage) sent in
      let g : (if is_within_limits (delivered c i).whole then takes (delivered c i) None else Refuses Limit) ≡ Takes step = ap (decided c (Deliver i) handed) (sym unrefused) ∙ answered in
      let out : (delivered c i).out ≡ (release_step (reached (here c w x node) from m)).there.out =
      ap (λ y. (delivered_by c i y).out) sent ∙
      ap (λ y. (if is_live_worker y then worker_does d w f else moved d).out) at ∙
      ap (λ b. (if b then worker_does d w f else moved d).out) live ∙
      ap (λ y. (worker_does_by d w f y).out) at ∙
      ap (λ y. (worker_does_at d w x f y).out) home in
      let q : IsOut (delivered c i) step = taken_out (delivered c i) None (is_within_limits (delivered c i).whole) step g in
      (q.entries ∙ ap (λ (o : Outbox). o.entries) out, q.envelopes ∙ ap (λ (o : Outbox). o.envelopes) out)

-- ---- what stands in a legal log

pub record IsSplit (x : Entry) (log : List Entry) : Type 0 where
  pub before : List Entry
  pub after : List Entry
  pub parts : log ≡ before ++ x ∷ after

pub split_at : (x : Entry) (log : List Entry) → Among x log → IsSplit x log
split_at x [] i = absurd (among-nothing x i)
split_at x (y ∷ log) (zero, e) = let same : y ≡ x = cc in record { before = []; after = log; parts = ap (λ z. z ∷ log) same }
split_at x (y ∷ log) (suc k, e) = let r = split_at x log (k, e) in record { before = y ∷ r.before; after = r.after; parts = ap (λ zs. y ∷ zs) r.parts }

-- what isn't of the opening was allowed where it stands
pub allowed_at : (s : Setting) (log : List Entry) → L.Legal s log → (x : Entry) → (x ≡ Opened 1 1 → ⊥) → (x ≡ Begun main_attempt 1 → ⊥) → Among x log →
    (before : List Entry) × Allowed s (opening ++ before) x × (after : List Entry) × (log ≡ opening ++ (before ++ x ∷ after))
allowed_at s log legal x not_first not_second i =
    let r = split_at x legal.rest (behind (subst (λ xs. Among x xs) legal.begins i)) in
    let needs : HasItsNeeds s (opening ++ r.before) x r.after = entries_have_their_needs s log legal r.before x r.after (legal.begins ∙ ap (λ xs. opening ++ xs) r.parts) in
    (r.before, needs.allowed, r.after, legal.begins ∙ ap (λ xs. opening ++ xs) r.parts)
  where
    behind : Among x (opening ++ legal.rest) → Among x legal.rest
    behind (zero, e) = let same : Opened 1 1 ≡ x = cc in absurd (not_first (sym same))
    behind (suc zero, e) = let same : Begun main_attempt 1 ≡ x = cc in absurd (not_second (sym same))
    behind (suc (suc k), e) = (k, e)

others_some : (w : ℕ) (xs : List Bearing) → (w == 1) ≡ false → 1 ≤ next_serial w xs
others_some w [] e = subst (λ b. 1 ≤ (if b then 0 else 1)) (sym e) (omega arith)
others_some w (x ∷ xs) e = let r = others_some w xs e in
    at_test (λ b. 1 ≤ (if b then results_of x.birth else 0) + next_serial w xs) (x.object.owner == w) (λ _. omega (arith, r)) (λ _. omega (arith, r))

-- serials begin with 1
serial_some : (w : ℕ) (xs : List Bearing) → 1 ≤ next_serial w (main_bearing ∷ xs)
serial_some w xs =
    at_test (λ b. (1 == w) ≡ b → 1 ≤ (if b then 1 else 0) + next_serial w xs) (1 == w) (λ _ _. omega arith)
    (λ _ e. let r = others_some w xs (turned e) in omega (arith, r)) refl
  where
    turned : (1 == w) ≡ false → (w == 1) ≡ false
    turned e = grind (arith, nat_tests)

pub born_serial : (s : Setting) (log : List Entry) → L.Legal s log → (o : Id) → IsBornIn log o → 1 ≤ o.serial
born_serial s log legal o (p, a, b, i, made) =
    let r = allowed_at s log legal (Born p a b) (λ e. absurd (cc)) (λ e. absurd (cc)) i in
    let next = r.1.next in
    let some = serial_some p.owner (flat_map born_in (opening ++ r.0)) in
    let from = made_from (record { object = p; birth = b }) o made in
    omega (arith, next, some, from)

-- main's own object is never accepted
pub accepted_other : (s : Setting) (log : List Entry) → L.Legal s log → (a : Attempt) → Among (Accepted a) log → same_id a.object main_object ≡ false
accepted_other s log legal a i =
    let r = allowed_at s log legal (Accepted a) (λ e. absurd (cc)) (λ e. absurd (cc)) i in r.1.not_main

-- the owner of what was born is there
pub owner_there : (s : Setting) (log : List Entry) (c : ClusterState) → Between s log c → IsCalm log → (y : Id) → IsBorn (births log) y → (x : Worker) × (worker_at c y.owner ≡ Some x) × (x.is_live ≡ true)
owner_there s log c b calm y born =
    let home = b.knows.calm.homes y born in
    lives_there s log c b y.owner (opened_lives log calm y.owner home.0 home.1)
