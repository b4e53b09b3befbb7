-- The worked examples of what is owed.
use Rattle.std.proofs.Common.{◌≡◌, ◌<◌, ℕ, zero, suc, Bool, true, false, List, [], ◌∷◌, Some, None, Option, refl, ap, sym, subst, ◌∙◌, inl, inr, arith}
use Rattle.meaning.specs.Births.{Part, birth_at, is_made_by, part_at, same_id}
use Rattle.meaning.proofs.BirthLaws.{first_is_made, made_owner}
use Rattle.std.specs.Prelude.{slice_get}
use Rattle.owed_laws.specs.Examples.{acknowledged, birth_comes, BirthsAreJudged, empty_list, end_comes, ended_log, ended_network, EndsAreJudged, fetch_comes}
use Rattle.owed_laws.specs.Examples.{fetch_scene, FetchesAreJudged, long_list, put_log, report_scene, ReportsAreJudged, request_comes, request_scene}
use Rattle.owed_laws.specs.Examples.{RequestsAreJudged, unaccepted_log}
use Rattle.meaning.specs.Values.{Argument, Birth, Id, Name, Outcome, Put, Task, Val, Value}
use Rattle.values.specs.Cells.{is_small}
use Rattle.event_log.specs.Breaks.{Among}
use Rattle.event_log.specs.Entries.{Accepted, Attempt, Born, Deliver, Ended, Entry, Released, main_attempt}
use Rattle.event_log.specs.Events.{accepted_events, node_of, was_lost}
use Rattle.event_log.specs.Rules.{Setting}
use Rattle.event_log.specs.Words.{attempt, births, worker_of}
use Rattle.protocol.specs.Messages.{Ask, At, CopyOf, EndedResult, Fetch, Finished, FinishedAck, Hold, HoldAck, Envelope, envelope, Message, Missing, Endpoint, Push, Reason}
use Rattle.protocol.specs.Messages.{TheNode, TheWorker, Unhold, Where}
use Rattle.protocol.specs.Numbered.{item_at}
use Rattle.protocol.specs.Sets.{object_id}
use Rattle.protocol_owed.specs.Ends.{EndsAreReported, HoldsAreAcknowledged, IsHoldOf}
use Rattle.protocol_owed.specs.Replies.{BirthIsAsked, FetchIsAnswered, FinishIsAcknowledged, HasFirstCopy, IsRequest, RequestIsTold, Says}
use Rattle.protocol_owed.specs.Seen.{IsContentOf, IsKnownAt, Tells, deliveries}
use Rattle.protocol_owed.proofs.Envelopes.{among-nothing}
use Rattle.owed_asks.specs.of_lease_discipline.Examples.{first_one, given_log, one_once}

-- ---- a birth

born_parts : (o : Id) (a : Attempt) (f : Name) (args : List Argument) (depth retries others : ℕ) →
    Among (Born o a (Task f args depth retries others)) (Born (object_id 1 1) main_attempt one_once ∷ []) → object_id 1 1 ≡ o
born_parts o a f args depth retries others (zero, e) = cc
born_parts o a f args depth retries others (suc k, e) = absurd (cc)

on_one : (n : ℕ) → ◌≡◌ {A = Option ℕ} (Some 1) (Some n) → 1 ≡ n
on_one n e = cc

birth_is_paid : (s : Setting) → BirthIsAsked (birth_comes s (envelope (TheWorker 1) (TheNode 1) (Ask first_one 0) ∷ []))
birth_is_paid s o a f args depth retries others n born place =
    let is : object_id 1 1 ≡ o = born_parts o a f args depth retries others born in
    let after = (birth_comes s (envelope (TheWorker 1) (TheNode 1) (Ask first_one 0) ∷ [])).after.log in
    let node : 1 ≡ n = on_one n (ap (λ (p : Id). node_of p.owner after) is ∙ place) in
    (zero, asked o n is node)
  where
    asked : (o : Id) (n : ℕ) → object_id 1 1 ≡ o → 1 ≡ n →
        ◌≡◌ {A = Option Envelope} (Some (envelope (TheWorker 1) (TheNode 1) (Ask first_one 0))) (Some (envelope (TheWorker o.owner) (TheNode n) (Ask
        (attempt o 0) 0)))
    asked o n e f =
        ap (λ (p : Id). Some (envelope (TheWorker p.owner) (TheNode 1) (Ask (attempt p 0) 0))) e ∙
        ap (λ m. Some (envelope (TheWorker o.owner) (TheNode m) (Ask (attempt o 0) 0))) f

asks_by : (s : Setting) (ls : List Envelope) → BirthIsAsked (birth_comes s ls) → Says (birth_comes s ls) (TheWorker 1) (TheNode 1) (Ask first_one 0)
asks_by s ls p = p (object_id 1 1) main_attempt _ _ _ _ _ 1 (zero, refl) refl

not_there : Among (envelope (TheWorker 1) (TheNode 1) (Ask first_one 0)) (envelope (TheWorker 1) (TheNode 2) (Ask first_one 0) ∷ []) → ⊥
not_there (zero, e) = numbers (ap (λ (l : Envelope). l.receiver) (same e))
  where
    same : ◌≡◌ {A = Option Envelope} (Some (envelope (TheWorker 1) (TheNode 2) (Ask first_one 0))) (Some (envelope (TheWorker 1) (TheNode 1) (Ask first_one 0))) →
        envelope (TheWorker 1) (TheNode 2) (Ask first_one 0) ≡ envelope (TheWorker 1) (TheNode 1) (Ask first_one 0)
    same f = cc

    numbers : TheNode 2 ≡ TheNode 1 → ⊥
    numbers f = let g : ◌≡◌ {A = ℕ} 2 1 = cc in omega (arith, g)
not_there (suc k, e) = absurd (cc)

pub births_are_judged : BirthsAreJudged
births_are_judged = record {
  paid = birth_is_paid;
  unasked = λ s p. among-nothing _ (asks_by s [] p);
  elsewhere = λ s p. not_there (asks_by s (envelope (TheWorker 1) (TheNode 2) (Ask first_one 0) ∷ []) p);
}

-- ---- an end

abbrev no_ids : List EndedResult
no_ids = record { ids = []; kept = None } ∷ []

end_parts : (w v : ℕ) (a : Attempt) (n : ℕ) (rs : List EndedResult) →
    ◌≡◌ {A = Option Envelope} (Some (envelope (TheWorker 2) (TheWorker 1) (Finished first_one 1 no_ids))) (Some (envelope (TheWorker w) (TheWorker v)
    (Finished a n rs))) →
    (2 ≡ w) × (1 ≡ v) × (first_one ≡ a)
end_parts w v a n rs e =
    let same : envelope (TheWorker 2) (TheWorker 1) (Finished first_one 1 no_ids) ≡ envelope (TheWorker w) (TheWorker v) (Finished a n rs) = cc in
    let from : TheWorker 2 ≡ TheWorker w = ap (λ (l : Envelope). l.sender) same in
    let to : TheWorker 1 ≡ TheWorker v = ap (λ (l : Envelope). l.receiver) same in
    let says : Finished first_one 1 no_ids ≡ Finished a n rs = ap (λ (l : Envelope). l.message) same in
    (cc, cc, cc)

first_number : (k : ℕ) → Deliver 1 ≡ Deliver k → 1 ≡ k
first_number k e = cc

end_is_paid : (s : Setting) → FinishIsAcknowledged (end_comes s (Accepted first_one ∷ []) acknowledged)
end_is_paid s w v a n rs brings =
    let parts = end_parts w v a n rs
    (subst (λ i. item_at ended_network i ≡ Some (envelope (TheWorker w) (TheWorker v) (Finished a n rs))) (sym (first_number brings.0 brings.1)) brings.2) in
    ((zero, sent w v a parts.0 parts.1 parts.2), λ _. (zero, ap (λ i. Some (Accepted i)) parts.2))
  where
    sent : (w v : ℕ) (a : Attempt) → 2 ≡ w → 1 ≡ v → first_one ≡ a →
        ◌≡◌ {A = Option Envelope} (Some (envelope (TheWorker 1) (TheWorker 2) (FinishedAck first_one))) (Some (envelope (TheWorker v) (TheWorker w)
        (FinishedAck a)))
    sent w v a e f g = cc

unaccepted_yet : Among (Accepted first_one) given_log → ⊥
unaccepted_yet (zero, e) = absurd (cc)
unaccepted_yet (suc zero, e) = absurd (cc)
unaccepted_yet (suc (suc zero), e) = absurd (cc)
unaccepted_yet (suc (suc (suc zero)), e) = absurd (cc)
unaccepted_yet (suc (suc (suc (suc zero))), e) = absurd (cc)
unaccepted_yet (suc (suc (suc (suc (suc zero)))), e) = absurd (cc)
unaccepted_yet (suc (suc (suc (suc (suc (suc zero))))), e) = absurd (cc)
unaccepted_yet (suc (suc (suc (suc (suc (suc (suc k)))))), e) = absurd (cc)

pub ends_are_judged : EndsAreJudged
ends_are_judged = record {
  paid = end_is_paid;
  unaccepted = λ s p. among-nothing _ ((p 2 1 first_one 1 no_ids (1, refl, refl)).1 unaccepted_yet);
  unacknowledged = λ s p. among-nothing _ (p 2 1 first_one 1 no_ids (1, refl, refl)).0;
}

-- ---- a Fetch

not_lacked : true ≡ false → ⊥
not_lacked e = cc

was_put : birth_at (births put_log) (object_id 1 1) ≡ Some (Put empty_list)
unfolding same_id
was_put = refl

fetch_is_paid : (s : Setting) → FetchIsAnswered (fetch_comes s true (CopyOf (object_id 1 1) 0 (Val empty_list))) 1 2 (object_id 1 1) 0
fetch_is_paid s = record {
  there = λ _. (Val empty_list, inl (empty_list, was_put, refl, refl), (zero, refl));
  first_copy = λ _. (Val empty_list, inl (empty_list, was_put, refl, refl), (zero, refl));
  lacking = λ e. absurd (not_lacked e);
}

no_end : (a : Attempt) (c : List Outcome) → Among (Ended a c) put_log → ⊥
no_end a c (zero, e) = absurd (cc)
no_end a c (suc zero, e) = absurd (cc)
no_end a c (suc (suc zero), e) = absurd (cc)
no_end a c (suc (suc (suc zero)), e) = absurd (cc)
no_end a c (suc (suc (suc (suc zero))), e) = absurd (cc)
no_end a c (suc (suc (suc (suc (suc k)))), e) = absurd (cc)

nothing_came : (s : Setting) → deliveries (fetch_scene s put_log false) ≡ []
unfolding accepted_events
nothing_came s = refl

nothing_lost : was_lost 1 (object_id 1 1) put_log ≡ false
unfolding was_lost accepted_events
nothing_lost = refl

first_is_there : (s : Setting) → HasFirstCopy (fetch_scene s put_log false) 1 (object_id 1 1) 0
first_is_there s = record {
  first = inl (record { value = empty_list; put = was_put; first = refl; place = refl });
  big = λ part c r. absurd (no_end (attempt part.born.object 0) r.contents r.ended);
  unlost = nothing_lost;
  kept = λ from e why came. among-nothing _ (subst (λ ls. Among (envelope from (TheNode 1) (Unhold e (object_id 1 1) why)) ls) (nothing_came s) came);
}

put_alone : (c : Outcome) → IsContentOf put_log (object_id 1 1) 0 c → c ≡ Val empty_list
put_alone c (inl (v, born, first, is)) = is ∙ same v (sym born ∙ was_put)
  where
    same : (v : Value) → ◌≡◌ {A = Option Birth} (Some (Put v)) (Some (Put empty_list)) → Val v ≡ Val empty_list
    same v e = cc
put_alone c (inr (part, r)) = absurd (no_end (attempt part.born.object 0) r.contents r.ended)

not_that : (c : Outcome) → c ≡ Val empty_list →
    Among (envelope (TheNode 1) (TheWorker 2) (CopyOf (object_id 1 1) 0 c)) (envelope (TheNode 1) (TheWorker 2) (CopyOf (object_id 1 1) 0 (Val long_list)) ∷ []) → ⊥
not_that c is (zero, e) = differ (content c (ap (λ (l : Envelope). l.message) (same c e)) ∙ is)
  where
    same : (c : Outcome) → ◌≡◌ {A = Option Envelope} (Some (envelope (TheNode 1) (TheWorker 2) (CopyOf (object_id 1 1) 0 (Val long_list))))
        (Some (envelope (TheNode 1) (TheWorker 2) (CopyOf (object_id 1 1) 0 c))) →
        envelope (TheNode 1) (TheWorker 2) (CopyOf (object_id 1 1) 0 (Val long_list)) ≡ envelope (TheNode 1) (TheWorker 2) (CopyOf (object_id 1 1) 0 c)
    same c f = cc

    content : (c : Outcome) → CopyOf (object_id 1 1) 0 (Val long_list) ≡ CopyOf (object_id 1 1) 0 c → Val long_list ≡ c
    content c f = cc

    differ : Val long_list ≡ Val empty_list → ⊥
    differ f = absurd (cc)
not_that c is (suc k, e) = absurd (cc)

-- ---- a place

abbrev at_first_copy : Message
at_first_copy = At (object_id 1 1) 0 (1 ∷ []) None

abbrev at_another : Message
at_another = At (object_id 1 1) 0 [] (Some (Val long_list))

-- the object that was asked for, and who asked
record AsksForIt (w : ℕ) (y : Id) : Type 0 where
  object : object_id 1 1 ≡ y
  asker : 2 ≡ w

asked_so : (w : ℕ) (y : Id) (m : Message) → envelope (TheWorker 2) (TheWorker 1) (Where (object_id 1 1)) ≡ envelope (TheWorker w) (TheWorker y.owner) m →
    IsRequest y m → AsksForIt w y
asked_so w y m e (inl is) = record {
  object = named (ap (λ (l : Envelope). l.message) e ∙ is);
  asker = sent_by (ap (λ (l : Envelope). l.sender) e);
}
  where
    named : Where (object_id 1 1) ≡ Where y → object_id 1 1 ≡ y
    named f = cc

    sent_by : TheWorker 2 ≡ TheWorker w → 2 ≡ w
    sent_by f = cc
asked_so w y m e (inr (number, n, is)) = absurd (apart (ap (λ (l : Envelope). l.message) e ∙ is))
  where
    apart : Where (object_id 1 1) ≡ Missing y number n → ⊥
    apart f = cc

one_message : (s : Setting) (k : ℕ) (l : Envelope) → item_at (request_scene s).network k ≡ Some l →
    envelope (TheWorker 2) (TheWorker 1) (Where (object_id 1 1)) ≡ l
one_message s zero l e = absurd (cc)
one_message s (suc zero) l e = cc
one_message s (suc (suc k)) l e = absurd (cc)

no_acceptance : (a : Attempt) → Among (Accepted a) put_log → ⊥
no_acceptance a (zero, e) = absurd (cc)
no_acceptance a (suc zero, e) = absurd (cc)
no_acceptance a (suc (suc zero), e) = absurd (cc)
no_acceptance a (suc (suc (suc zero)), e) = absurd (cc)
no_acceptance a (suc (suc (suc (suc zero))), e) = absurd (cc)
no_acceptance a (suc (suc (suc (suc (suc k)))), e) = absurd (cc)

-- it is known as number 0, on node 1
record IsKnownThere (number n : ℕ) : Type 0 where
  number_is : number ≡ 0
  node_is : 1 ≡ n

known_there : (number n : ℕ) → IsKnownAt put_log (object_id 1 1) number n → IsKnownThere number n
known_there number n (inl p) = record { number_is = p.first; node_is = on_one n p.place }
known_there number n (inr q) = absurd (no_acceptance _ q.accepted)

told_there : (s : Setting) (w : ℕ) (y : Id) (number n : ℕ) → AsksForIt w y → IsKnownAt put_log y number n →
    Tells put_log (request_comes s at_first_copy).envelopes y w number n
told_there s w y number n asks known =
    let there = known_there number n (subst (λ o. IsKnownAt put_log o number n) (sym asks.object) known) in
    subst (λ o. Tells put_log (request_comes s at_first_copy).envelopes o w number n) asks.object
    (subst (λ v. Tells put_log (request_comes s at_first_copy).envelopes (object_id 1 1) v number n) asks.asker
    (subst (λ i. Tells put_log (request_comes s at_first_copy).envelopes (object_id 1 1) 2 i n) (sym there.number_is)
    (subst (λ m. Tells put_log (request_comes s at_first_copy).envelopes (object_id 1 1) 2 0 m) there.node_is
    (record { nodes = 1 ∷ []; kept = None; told = (zero, refl); named = λ _. refl; known = λ c e. absurd (none_some c e) }))))
  where
    none_some : (c : Outcome) → ◌≡◌ {A = Option Outcome} None (Some c) → ⊥
    none_some c e = cc

place_is_paid : (s : Setting) → RequestIsTold (request_comes s at_first_copy)
place_is_paid s w y m number n (k, event, sent) request known unreleased =
    told_there s w y number n (asked_so w y m (one_message s k (envelope (TheWorker w) (TheWorker y.owner) m) sent) request) known

none_released : Among (Released (object_id 1 1)) put_log → ⊥
none_released (zero, e) = absurd (cc)
none_released (suc zero, e) = absurd (cc)
none_released (suc (suc zero), e) = absurd (cc)
none_released (suc (suc (suc zero)), e) = absurd (cc)
none_released (suc (suc (suc (suc zero))), e) = absurd (cc)
none_released (suc (suc (suc (suc (suc k)))), e) = absurd (cc)

-- what came with it
comes_with : (nodes : List ℕ) (kept : Option Outcome) →
    Among (envelope (TheWorker 1) (TheWorker 2) (At (object_id 1 1) 0 nodes kept)) (envelope (TheWorker 1) (TheWorker 2) at_another ∷ []) → kept ≡ Some (Val long_list)
comes_with nodes kept (zero, e) = content (ap (λ (l : Envelope). l.message) (same e))
  where
    same : ◌≡◌ {A = Option Envelope} (Some (envelope (TheWorker 1) (TheWorker 2) at_another))
        (Some (envelope (TheWorker 1) (TheWorker 2) (At (object_id 1 1) 0 nodes kept))) →
        envelope (TheWorker 1) (TheWorker 2) at_another ≡ envelope (TheWorker 1) (TheWorker 2) (At (object_id 1 1) 0 nodes kept)
    same f = cc

    content : at_another ≡ At (object_id 1 1) 0 nodes kept → kept ≡ Some (Val long_list)
    content f = cc
comes_with nodes kept (suc k, e) = absurd (cc)

other_is_refused : (s : Setting) → RequestIsTold (request_comes s at_another) → ⊥
other_is_refused s p =
    let told = p 2 (object_id 1 1) (Where (object_id 1 1)) 0 1 (1, refl, refl) (inl refl)
    (inl (record { value = empty_list; put = was_put; first = refl; place = refl })) none_released in
    differ (put_alone (Val long_list) (told.known (Val long_list) (comes_with told.nodes told.kept told.told)))
  where
    differ : Val long_list ≡ Val empty_list → ⊥
    differ f = absurd (cc)

pub requests_are_judged : RequestsAreJudged
requests_are_judged = record { paid = place_is_paid; other = other_is_refused }

-- ---- what ended there

is_long : is_small (Val long_list) ≡ false
unfolding is_small
is_long = refl

long_end : (a : Attempt) (c : List Outcome) → Among (Ended a c) unaccepted_log → c ≡ Val long_list ∷ []
long_end a c (zero, e) = absurd (cc)
long_end a c (suc zero, e) = absurd (cc)
long_end a c (suc (suc zero), e) = absurd (cc)
long_end a c (suc (suc (suc zero)), e) = absurd (cc)
long_end a c (suc (suc (suc (suc zero))), e) = absurd (cc)
long_end a c (suc (suc (suc (suc (suc zero)))), e) = absurd (cc)
long_end a c (suc (suc (suc (suc (suc (suc zero))))), e) = absurd (cc)
long_end a c (suc (suc (suc (suc (suc (suc (suc zero)))))), e) = absurd (cc)
long_end a c (suc (suc (suc (suc (suc (suc (suc (suc zero))))))), e) = sym (same a c e)
  where
    same : (a : Attempt) (c : List Outcome) → ◌≡◌ {A = Option Entry} (Some (Ended first_one (Val long_list ∷ []))) (Some (Ended a c)) → Val long_list ∷ [] ≡ c
    same a c f = cc
long_end a c (suc (suc (suc (suc (suc (suc (suc (suc (suc k)))))))), e) = absurd (cc)

long_content : (cs : List Outcome) (i : ℕ) (c : Outcome) → cs ≡ Val long_list ∷ [] → slice_get cs i ≡ Some c → is_small c ≡ false
long_content cs i c e f = by_place i (sym (ap (λ ds. slice_get ds i) e) ∙ f)
  where
    by_place : (j : ℕ) → ◌≡◌ {A = Option Outcome} (slice_get (Val long_list ∷ []) j) (Some c) → is_small c ≡ false
    by_place zero g = let same : Val long_list ≡ c = cc in subst (λ d. is_small d ≡ false) same is_long
    by_place (suc j) g = absurd (cc)

abbrev first_part : Part
first_part = record { born = record { object = first_one.object; birth = one_once }; place = 0 }

born_unaccepted : part_at (births unaccepted_log) (object_id 1 1) ≡ Some first_part
unfolding is_made_by
born_unaccepted = refl

born_ended : part_at (births ended_log) (object_id 1 1) ≡ Some first_part
unfolding is_made_by
born_ended = refl

ran_there : worker_of first_one unaccepted_log ≡ Some 2
unfolding same_id
ran_there = refl

never_lost : was_lost 1 (object_id 1 1) unaccepted_log ≡ false
unfolding was_lost accepted_events
never_lost = refl

only_fetched : (s : Setting) → deliveries (fetch_scene s unaccepted_log false) ≡ envelope (TheWorker 2) (TheNode 1) (Fetch (object_id 1 1) 0) ∷ []
unfolding accepted_events
only_fetched s = refl

no_word : (from : Endpoint) (e : Id) (why : Reason) →
    Among (envelope from (TheNode 1) (Unhold e (object_id 1 1) why)) (envelope (TheWorker 2) (TheNode 1) (Fetch (object_id 1 1) 0) ∷ []) → ⊥
no_word from e why (zero, f) = other (ap (λ (l : Envelope). l.message) (same f))
  where
    same : ◌≡◌ {A = Option Envelope} (Some (envelope (TheWorker 2) (TheNode 1) (Fetch (object_id 1 1) 0))) (Some (envelope from (TheNode 1) (Unhold e (object_id 1 1) why))) →
        envelope (TheWorker 2) (TheNode 1) (Fetch (object_id 1 1) 0) ≡ envelope from (TheNode 1) (Unhold e (object_id 1 1) why)
    same g = cc

    other : Fetch (object_id 1 1) 0 ≡ Unhold e (object_id 1 1) why → ⊥
    other g = absurd (cc)
no_word from e why (suc k, f) = absurd (cc)

ended_is_there : (s : Setting) → HasFirstCopy (fetch_scene s unaccepted_log false) 1 (object_id 1 1) 0
ended_is_there s = record {
  first = inr (record {
    part = first_part;
    content = Val long_list;
    ended = record { born = born_unaccepted; contents = Val long_list ∷ []; ended = (8, refl); content = refl };
    worker = 2;
    ran = ran_there;
    place = refl;
  });
  big = λ part c r. long_content r.contents part.place c (long_end (attempt part.born.object 0) r.contents r.ended) r.content;
  unlost = never_lost;
  kept = λ from e why came. no_word from e why (subst (λ ls. Among (envelope from (TheNode 1) (Unhold e (object_id 1 1) why)) ls) (only_fetched s) came);
}

no_copy : (c : Outcome) →
    Among (envelope (TheNode 1) (TheWorker 2) (CopyOf (object_id 1 1) 0 c)) (envelope (TheNode 1) (TheWorker 2) (Missing (object_id 1 1) 0 1) ∷ []) → ⊥
no_copy c (zero, e) = other (ap (λ (l : Envelope). l.message) (same e))
  where
    same : ◌≡◌ {A = Option Envelope} (Some (envelope (TheNode 1) (TheWorker 2) (Missing (object_id 1 1) 0 1))) (Some (envelope (TheNode 1) (TheWorker 2) (CopyOf
        (object_id 1 1) 0 c))) →
        envelope (TheNode 1) (TheWorker 2) (Missing (object_id 1 1) 0 1) ≡ envelope (TheNode 1) (TheWorker 2) (CopyOf (object_id 1 1) 0 c)
    same f = cc

    other : Missing (object_id 1 1) 0 1 ≡ CopyOf (object_id 1 1) 0 c → ⊥
    other f = absurd (cc)
no_copy c (suc k, e) = absurd (cc)

is_little : is_small (Val empty_list) ≡ true
unfolding is_small
is_little = refl

not_both : (b : Bool) → b ≡ true → b ≡ false → ⊥
not_both b e f = cc

pub fetches_are_judged : FetchesAreJudged
fetches_are_judged = record {
  paid = fetch_is_paid;
  other = λ s p. let r = p.there refl in not_that r.0 (put_alone r.0 r.1) r.2;
  withheld = λ s p. let r = p.first_copy (first_is_there s) in no_copy r.0 r.2;
  unaccepted = ended_is_there;
  small = λ s p. not_both (is_small (Val empty_list)) is_little (p.big first_part (Val empty_list) (record { born = born_ended; contents = Val empty_list ∷ []; ended = (8, refl); content = refl }));
}

-- ---- a report

abbrev report_network : List Envelope → List Envelope
report_network envelopes = envelope (TheWorker 1) (TheWorker 2) (Push first_one one_once) ∷ envelopes

abbrev one_hold : List Envelope
one_hold = envelope (TheWorker 2) (TheWorker 1) (Hold (object_id 1 1) (object_id 1 2)) ∷ []

not_main : first_one ≡ main_attempt → ⊥
not_main e = let f : ◌≡◌ {A = ℕ} 1 0 = ap (λ (a : Attempt). a.object.serial) e in omega (arith, f)

runs_first : (s : Setting) (envelopes : List Envelope) → worker_of first_one (report_scene s envelopes).log ≡ Some 2
unfolding same_id
runs_first s envelopes = refl

only_first : (s : Setting) (envelopes : List Envelope) (a : Attempt) (c : List Outcome) → Among (Ended a c) (report_scene s envelopes).log → first_one ≡ a
only_first s envelopes a c (zero, e) = absurd (cc)
only_first s envelopes a c (suc zero, e) = absurd (cc)
only_first s envelopes a c (suc (suc zero), e) = absurd (cc)
only_first s envelopes a c (suc (suc (suc zero)), e) = absurd (cc)
only_first s envelopes a c (suc (suc (suc (suc zero))), e) = absurd (cc)
only_first s envelopes a c (suc (suc (suc (suc (suc zero)))), e) = absurd (cc)
only_first s envelopes a c (suc (suc (suc (suc (suc (suc zero))))), e) = absurd (cc)
only_first s envelopes a c (suc (suc (suc (suc (suc (suc (suc zero)))))), e) = absurd (cc)
only_first s envelopes a c (suc (suc (suc (suc (suc (suc (suc (suc zero))))))), e) = absurd (cc)
only_first s envelopes a c (suc (suc (suc (suc (suc (suc (suc (suc (suc zero)))))))), e) = cc
only_first s envelopes a c (suc (suc (suc (suc (suc (suc (suc (suc (suc (suc k))))))))), e) = absurd (cc)

no_hold : (k v : ℕ) (e o : Id) → item_at (report_network []) k ≡ Some (envelope (TheWorker 2) (TheWorker v) (Hold e o)) → ⊥
no_hold zero v e o f = cc
no_hold (suc zero) v e o f =
    let same : envelope (TheWorker 1) (TheWorker 2) (Push first_one one_once) ≡ envelope (TheWorker 2) (TheWorker v) (Hold e o) = cc in
    let g : Push first_one one_once ≡ Hold e o = ap (λ (l : Envelope). l.message) same in
    absurd (cc)
no_hold (suc (suc k)) v e o f = cc

no_report : (n : ℕ) (rs : List EndedResult) → Among (envelope (TheWorker 2) (TheWorker 1) (Finished first_one n rs)) (report_network []) → ⊥
no_report n rs (zero, e) =
    let same : envelope (TheWorker 1) (TheWorker 2) (Push first_one one_once) ≡ envelope (TheWorker 2) (TheWorker 1) (Finished first_one n rs) = cc in
    let g : Push first_one one_once ≡ Finished first_one n rs = ap (λ (l : Envelope). l.message) same in
    absurd (cc)
no_report n rs (suc k, e) = absurd (cc)

untold_is_refused : (s : Setting) → EndsAreReported (report_scene s []) → ⊥
untold_is_refused s p =
    let r = p first_one (Val empty_list ∷ []) 2 (9, refl) not_main (runs_first s []) (λ k e o h. absurd (no_hold k o.owner e o h.held.there)) in
    no_report r.0 r.1 r.2

-- a Hold for an object that was never born excuses nothing
abbrev unborn_hold : List Envelope
unborn_hold = envelope (TheWorker 2) (TheWorker 3) (Hold (object_id 1 1) (object_id 3 1)) ∷ []

-- whatever was born is worker 1's
born_by_one : (s : Setting) (first : Id) (a : Attempt) (b : Birth) → Among (Born first a b) (report_scene s unborn_hold).log → first.owner ≡ 1
born_by_one s first a b (zero, e) = absurd (cc)
born_by_one s first a b (suc zero, e) = absurd (cc)
born_by_one s first a b (suc (suc zero), e) = absurd (cc)
born_by_one s first a b (suc (suc (suc zero)), e) = absurd (cc)
born_by_one s first a b (suc (suc (suc (suc zero))), e) = let is : object_id 1 1 ≡ first = cc in ap (λ (o : Id). o.owner) (sym is)
born_by_one s first a b (suc (suc (suc (suc (suc zero)))), e) = absurd (cc)
born_by_one s first a b (suc (suc (suc (suc (suc (suc zero))))), e) = absurd (cc)
born_by_one s first a b (suc (suc (suc (suc (suc (suc (suc zero)))))), e) = let is : object_id 1 2 ≡ first = cc in ap (λ (o : Id). o.owner) (sym is)
born_by_one s first a b (suc (suc (suc (suc (suc (suc (suc (suc zero))))))), e) = absurd (cc)
born_by_one s first a b (suc (suc (suc (suc (suc (suc (suc (suc (suc zero)))))))), e) = absurd (cc)
born_by_one s first a b (suc (suc (suc (suc (suc (suc (suc (suc (suc (suc k))))))))), e) = absurd (cc)

holds_of_three : (k v : ℕ) (e o : Id) → item_at (report_network unborn_hold) k ≡ Some (envelope (TheWorker 2) (TheWorker v) (Hold e o)) → o.owner ≡ 3
holds_of_three zero v e o f = absurd (cc)
holds_of_three (suc zero) v e o f =
    let same : envelope (TheWorker 1) (TheWorker 2) (Push first_one one_once) ≡ envelope (TheWorker 2) (TheWorker v) (Hold e o) = cc in
    let g : Push first_one one_once ≡ Hold e o = ap (λ (l : Envelope). l.message) same in
    absurd (cc)
holds_of_three (suc (suc zero)) v e o f =
    let same : envelope (TheWorker 2) (TheWorker 3) (Hold (object_id 1 1) (object_id 3 1)) ≡ envelope (TheWorker 2) (TheWorker v) (Hold e o) = cc in
    let g : Hold (object_id 1 1) (object_id 3 1) ≡ Hold e o = ap (λ (l : Envelope). l.message) same in
    let is : object_id 3 1 ≡ o = cc in
    ap (λ (p : Id). p.owner) (sym is)
holds_of_three (suc (suc (suc k))) v e o f = absurd (cc)

unborn_unreported : (n : ℕ) (rs : List EndedResult) → Among (envelope (TheWorker 2) (TheWorker 1) (Finished first_one n rs)) (report_network unborn_hold) → ⊥
unborn_unreported n rs (zero, e) =
    let same : envelope (TheWorker 1) (TheWorker 2) (Push first_one one_once) ≡ envelope (TheWorker 2) (TheWorker 1) (Finished first_one n rs) = cc in
    let g : Push first_one one_once ≡ Finished first_one n rs = ap (λ (l : Envelope). l.message) same in
    absurd (cc)
unborn_unreported n rs (suc zero, e) =
    let same : envelope (TheWorker 2) (TheWorker 3) (Hold (object_id 1 1) (object_id 3 1)) ≡
    envelope (TheWorker 2) (TheWorker 1) (Finished first_one n rs) = cc in
    let g : Hold (object_id 1 1) (object_id 3 1) ≡ Finished first_one n rs = ap (λ (l : Envelope). l.message) same in
    absurd (cc)
unborn_unreported n rs (suc (suc k), e) = absurd (cc)

unborn_is_refused : (s : Setting) → EndsAreReported (report_scene s unborn_hold) → ⊥
unborn_is_refused s p =
    let r = p first_one (Val empty_list ∷ []) 2 (9, refl) not_main (runs_first s unborn_hold) (λ k e o h.
    let born = h.born in
    let owner = made_owner (record { object = born.0; birth = born.2 }) o born.4 in
    let one = born_by_one s born.0 born.1 born.2 born.3 in
    let three = holds_of_three k o.owner e o h.held.there in
    absurd (omega (arith, owner, one, three))) in
    unborn_unreported r.0 r.1 r.2

hold_is_its : (s : Setting) → IsHoldOf (report_scene s one_hold) first_one 2 2 (object_id 1 1) (object_id 1 2)
hold_is_its s = record {
  spec = one_once;
  push = 1;
  pushed = record { there = refl; earlier = λ i less at. none i less at };
  entry = inl (first_is_made (record { object = first_one.object; birth = one_once }));
  born = (object_id 1 2, main_attempt, Put empty_list, (7, refl), first_is_made (record { object = object_id 1 2; birth = Put empty_list }));
  held = record { there = refl; behind = omega arith; between = λ i far less at. absurd (omega (arith, far, less)) };
}
  where
    none : (i : ℕ) → i < 1 → item_at (report_network one_hold) i ≡ Some (envelope (TheWorker 1) (TheWorker 2) (Push first_one one_once)) → ⊥
    none zero less at = cc
    none (suc i) less at = omega (arith, less)

no_younger : (n : ℕ) (l : Envelope) → 2 < n → item_at (report_network one_hold) n ≡ Some l → ⊥
no_younger zero l less at = omega (arith, less)
no_younger (suc zero) l less at = omega (arith, less)
no_younger (suc (suc zero)) l less at = omega (arith, less)
no_younger (suc (suc (suc k))) l less at = cc

never_told : (s : Setting) → HoldsAreAcknowledged (report_scene s one_hold) first_one 2 → ⊥
never_told s all =
    let ack = all 2 (object_id 1 1) (object_id 1 2) (hold_is_its s) in
    no_younger ack.number (envelope (TheWorker 1) (TheWorker 2) (HoldAck (object_id 1 1) (object_id 1 2))) ack.since ack.sent

waiting_is_allowed : (s : Setting) → EndsAreReported (report_scene s one_hold)
waiting_is_allowed s a c w ended other ran all =
    let is : first_one ≡ a = only_first s one_hold a c ended in
    let runner : 2 ≡ w = same_runner (sym (runs_first s one_hold) ∙ ap (λ b. worker_of b (report_scene s one_hold).log) is ∙ ran) in
    absurd (never_told s (subst (λ b. HoldsAreAcknowledged (report_scene s one_hold) b 2) (sym is) (subst (λ v. HoldsAreAcknowledged (report_scene s one_hold) a v) (sym runner) all)))
  where
    same_runner : ◌≡◌ {A = Option ℕ} (Some 2) (Some w) → 2 ≡ w
    same_runner e = cc

pub reports_are_judged : ReportsAreJudged
reports_are_judged = record { untold = untold_is_refused; unborn = unborn_is_refused; waits = waiting_is_allowed }
