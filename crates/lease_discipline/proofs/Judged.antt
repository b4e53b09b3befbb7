-- The worked examples of what is owed.
use Rattle.std.proofs.Common.{◌≡◌, ℕ, zero, suc, List, [], ◌∷◌, Some, Option, refl, ap, sym, subst, ◌∙◌, inl, arith}
use Rattle.std.specs.Prelude.{true, false, if◌then◌else◌, ◌==◌}
use Rattle.meaning.proofs.BirthLaws.{at_test}
use Rattle.meaning.specs.Values.{Birth, Outcome}
use Rattle.meaning.specs.Births.{birth_at, same_id}
use Rattle.event_log.specs.Breaks.{Among}
use Rattle.event_log.specs.Entries.{Attempt, Begun, Claim, Commit, Deliver, Ended, Entry, Refused, Tick, main_attempt}
use Rattle.event_log.specs.Entries.{NotReady}
use Rattle.event_log.specs.Events.{accepted_events, is_live}
use Rattle.event_log.specs.Rules.{Setting}
use Rattle.event_log.specs.Words.{births}
use Rattle.event_log.specs.Legal.{opening}
use Rattle.protocol_laws.specs.of_protocol.Messages.{Ask, Give, Envelope, Push, TheNode, TheWorker, Wait, envelope}
use Rattle.protocol_laws.specs.of_protocol.Numbered.{item_at}
use Rattle.protocol_laws.specs.of_protocol.Sets.{has, object_id}
use Rattle.protocol_laws.specs.of_protocol_owed.Courses.{course_from}
use Rattle.protocol_laws.specs.of_protocol_owed.Owed.{RepliesAreMade}
use Rattle.protocol_laws.specs.of_protocol_owed.Replies.{Brings, GiveIsBegun, Logs, Says}
use Rattle.protocol_laws.specs.of_protocol_owed.Turns.{AskStands, IsReady}
use Rattle.protocol_laws.proofs.of_protocol_owed.Envelopes.{among-nothing}
use Rattle.lease_discipline.specs.Examples.{ClaimsAreJudged, GivesBegin, SlotsAreJudged, TicksOweNothing, first_one, give_comes, given_log, given_network}
use Rattle.lease_discipline.specs.Examples.{nothing_comes}
use Rattle.lease_discipline.specs.Examples.{one_once, pushed, scene, waiting_network}

-- ---- a Give

-- the envelope that comes
give_parts : (n w : ℕ) (a : Attempt) (t v : ℕ) →
    ◌≡◌ {A = Option Envelope} (Some (envelope (TheNode 1) (TheWorker 1) (Give first_one 0 2))) (Some (envelope (TheNode n) (TheWorker w) (Give a t v))) →
    (1 ≡ w) × (first_one ≡ a) × (2 ≡ v)
give_parts n w a t v e =
    let same : envelope (TheNode 1) (TheWorker 1) (Give first_one 0 2) ≡ envelope (TheNode n) (TheWorker w) (Give a t v) = cc in
    let to : TheWorker 1 ≡ TheWorker w = ap (λ (l : Envelope). l.receiver) same in
    let says : Give first_one 0 2 ≡ Give a t v = ap (λ (l : Envelope). l.message) same in
    (cc, cc, cc)

second : (k : ℕ) → Deliver 2 ≡ Deliver k → 2 ≡ k
second k e = cc

born_one : birth_at (births given_log) (object_id 1 1) ≡ Some one_once
unfolding same_id
born_one = refl

brings : (s : Setting) (es : List Entry) (ls : List Envelope) (n w : ℕ) (a : Attempt) (t v : ℕ) →
    Brings (give_comes s es ls) (TheNode n) (TheWorker w) (Give a t v) → (1 ≡ w) × (first_one ≡ a) × (2 ≡ v)
brings s es ls n w a t v (k, e, at) = give_parts n w a t v
    (subst (λ i. item_at given_network i ≡ Some (envelope (TheNode n) (TheWorker w) (Give a t v))) (sym (second k e)) at)

give_is_paid : (s : Setting) → GiveIsBegun (give_comes s (Begun first_one 2 ∷ []) pushed)
give_is_paid s n w a t v spec b unbegun born =
    let parts = brings s (Begun first_one 2 ∷ []) pushed n w a t v b in
    let task : ◌≡◌ {A = Option Birth} (Some one_once) (Some spec) = sym born_one ∙ ap (λ (i : Attempt). birth_at (births given_log) i.object) parts.1 ∙ born in
    let is : one_once ≡ spec = cc in
    ((0, begun_same a v parts.1 parts.2), (0, pushed_same w v a spec parts.0 parts.2 parts.1 is))
  where
    begun_same : (a : Attempt) (v : ℕ) → first_one ≡ a → 2 ≡ v → ◌≡◌ {A = Option Entry} (Some (Begun first_one 2)) (Some (Begun a v))
    begun_same a v e f = cc

    pushed_same : (w v : ℕ) (a : Attempt) (spec : Birth) → 1 ≡ w → 2 ≡ v → first_one ≡ a → one_once ≡ spec →
        ◌≡◌ {A = Option Envelope} (Some (envelope (TheWorker 1) (TheWorker 2) (Push first_one one_once))) (Some (envelope (TheWorker w) (TheWorker v) (Push a spec)))
    pushed_same w v a spec e f g h = cc

main_object : main_attempt ≡ first_one → ⊥
main_object e = let f : ◌≡◌ {A = ℕ} 0 1 = ap (λ (a : Attempt). a.object.serial) e in omega (arith, f)

unbegun_yet : (w : ℕ) → Among (Begun first_one w) given_log → ⊥
unbegun_yet w (zero, e) = absurd (cc)
unbegun_yet w (suc zero, e) = main_object (let f : ◌≡◌ {A = Option Entry} (Some (Begun main_attempt 1)) (Some (Begun first_one w)) = e in cc)
unbegun_yet w (suc (suc zero), e) = absurd (cc)
unbegun_yet w (suc (suc (suc zero)), e) = absurd (cc)
unbegun_yet w (suc (suc (suc (suc zero))), e) = absurd (cc)
unbegun_yet w (suc (suc (suc (suc (suc zero)))), e) = absurd (cc)
unbegun_yet w (suc (suc (suc (suc (suc (suc zero))))), e) = absurd (cc)
unbegun_yet w (suc (suc (suc (suc (suc (suc (suc k)))))), e) = absurd (cc)

owed_by : (s : Setting) (es : List Entry) (ls : List Envelope) → GiveIsBegun (give_comes s es ls) →
    Logs (give_comes s es ls) (Begun first_one 2) × Says (give_comes s es ls) (TheWorker 1) (TheWorker 2) (Push first_one one_once)
owed_by s es ls g = g 1 1 first_one 0 2 one_once (2, refl, refl) unbegun_yet born_one

-- ---- a tick

no_end : (a : Attempt) (c : List Outcome) → Among (Ended a c) opening → ⊥
no_end a c (zero, e) = absurd (cc)
no_end a c (suc zero, e) = absurd (cc)
no_end a c (suc (suc k), e) = absurd (cc)

no_delivery : (k : ℕ) → Tick 1 ≡ Deliver k → ⊥
no_delivery k e = absurd (cc)

no_commit : (j : ℕ) → Tick 1 ≡ Commit j → ⊥
no_commit j e = absurd (cc)

tick_owes_nothing : (s : Setting) → RepliesAreMade (nothing_comes s)
tick_owes_nothing s = record {
  births = λ o a f args depth retries others n logged at. absurd (among-nothing _ logged);
  new_waits = λ w a y waits. absurd (no_commit waits.job waits.commit);
  elsewhere = λ n w a t m b last unbegun. absurd (no_delivery b.0 b.1);
  gives = λ n w a t v spec b unbegun born. absurd (no_delivery b.0 b.1);
  requests = λ w y m number n b is known kept. absurd (no_delivery b.0 b.1);
  accepted = λ y number n w m at logged came is. absurd (among-nothing _ logged);
  owner = λ y part number a born logged waits. absurd (among-nothing _ logged);
  locations = λ w a y number nodes content foreign b waits. absurd (no_delivery b.0 b.1);
  copies = λ n w a y number c b waits. absurd (no_delivery b.0 b.1);
  missing = λ n w y number m foreign b. absurd (no_delivery b.0 b.1);
  fetches = λ n w y number b. absurd (no_delivery b.0 b.1);
  holds = λ w e o b. absurd (no_delivery b.0 b.1);
  finishes = λ w v a n rs b. absurd (no_delivery b.0 b.1);
  acknowledged = λ v w a n b at. absurd (no_delivery b.0 b.1);
  ends = λ a c w ended other ran holds. absurd (no_end a c ended);
}

-- ---- a claim

first_ready : (s : Setting) → IsReady (scene s opening [] (1 ∷ [])) 1
unfolding is_live course_from accepted_events
first_ready s = record { node = 1; lives = record { place = refl; lives = refl }; slot = refl; goes_on = refl }

slotless : (s : Setting) → IsReady (scene s opening [] []) 1 → ⊥
slotless s r = none r.node r.slot
  where
    none : (n : ℕ) → has ((scene s opening [] []).slot_holders n) 1 ≡ true → ⊥
    none n e = at_test (λ b. has (if b then [] else []) 1 ≡ true → ⊥) (n == 1) (λ _ f. absurd (cc)) (λ _ f. absurd (cc)) e

pub claims_are_judged : ClaimsAreJudged
claims_are_judged = record {
  given_out = λ s. record {
    ready = λ w e r f. absurd (empty_not f);
    others = λ w e lives unready. absurd (unready (subst (λ v. IsReady (scene s opening [] (1 ∷ [])) v) (claimed w e) (first_ready s)));
  };
  not_refused = λ s c. c.ready 1 refl (first_ready s) refl;
  refused = λ s. record {
    ready = λ w e r f. slotless s (subst (λ v. IsReady (scene s opening [] []) v) (sym (claimed w e)) r);
    others = λ w e lives unready. refl;
  };
  not_given_out = λ s c. empty_not (c.others 1 refl (lives_one s) (slotless s));
}
  where
    claimed : (w : ℕ) → Claim 1 ≡ Claim w → 1 ≡ w
    claimed w e = cc

    empty_not : ◌≡◌ {A = List Entry} [] (Refused NotReady ∷ []) → ⊥
    empty_not e = cc

    lives_one : (s : Setting) → is_live 1 opening ≡ true
    lives_one s = (first_ready s).lives.lives

pub gives_begin : GivesBegin
gives_begin = record {
  paid = give_is_paid;
  unpushed = λ s g. among-nothing _ (owed_by s (Begun first_one 2 ∷ []) [] g).1;
  unbegun = λ s g. among-nothing _ (owed_by s [] pushed g).0;
}

pub ticks_owe_nothing : TicksOweNothing
ticks_owe_nothing = tick_owes_nothing

-- ---- slots

ask_stands : (s : Setting) → AskStands (scene s given_log waiting_network []) 1
ask_stands s = record { attempt = first_one; hops = 0; waits = (1, refl); ungiven = λ w g. none w g }
  where
    none : (w : ℕ) → Among (envelope (TheNode 1) (TheWorker 1) (Give first_one 0 w)) waiting_network → ⊥
    none w (zero, e) =
        let same : envelope (TheWorker 1) (TheNode 1) (Ask first_one 0) ≡ envelope (TheNode 1) (TheWorker 1) (Give first_one 0 w) = cc in
        let says : Ask first_one 0 ≡ Give first_one 0 w = ap (λ (l : Envelope). l.message) same in
        absurd (cc)
    none w (suc zero, e) =
        let same : envelope (TheNode 1) (TheWorker 1) (Wait first_one 0) ≡ envelope (TheNode 1) (TheWorker 1) (Give first_one 0 w) = cc in
        let says : Wait first_one 0 ≡ Give first_one 0 w = ap (λ (l : Envelope). l.message) same in
        absurd (cc)
    none w (suc (suc k), e) = absurd (cc)

pub slots_are_judged : SlotsAreJudged
slots_are_judged = record {
  free = λ s r. let e : ◌≡◌ {A = ℕ} 0 1 = r.none_free (inl (ask_stands s)) in omega (arith, e);
  twice = λ s r. let e : true ≡ false = r.distinct.0 in cc;
}
