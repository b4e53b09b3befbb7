-- A run beside a plan takes its lines when they are due.
use Rattle.std.proofs.Common.{◌≡◌, ◌⊎◌, ◌≤◌, inl, inr, ℕ, zero, suc, List, [], ◌∷◌, ◌++◌, Option, None, refl, sym, ap, ◌∙◌, subst, arith, append_assoc}
use Rattle.std.specs.Prelude.{Bool, true, false}
use Rattle.std.proofs.lemmas.List.{append_cancel_left}
use Rattle.meaning.specs.Syntax.{Script}
use Rattle.segment.specs.Jobs.{Done}
use Rattle.event_log.specs.Entries.{Claim, Commit, Entry, Event, In, Join}
use Rattle.event_log.specs.Events.{accepted_events}
use Rattle.event_log.specs.Legal.{opening}
use Rattle.protocol.specs.Answers.{answer, logged}
use Rattle.seats.specs.of_protocol_board.Cores.{Answers, Follows, Reply, RunState}
use Rattle.seats.specs.Ruled.{IsRuled, IsRuledRun, RuledIn, first_turn}
use Rattle.seats.specs.Turns.{Does, Plans, TurnState, choice}
use Rattle.run_examples.specs.Examples.{PlansAreTrue, late_join}
use Rattle.run_examples.proofs.Ruled.{adds_itself}

abbrev begins : ℕ → ℕ → TurnState
begins n slots = first_turn late_join (record { nodes = suc n; slots = slots })

-- the first turn claims main's first job
first_claims : (n slots : ℕ) → choice (begins n slots) ≡ Does (Claim 1)
unfolding accepted_events
first_claims n slots = refl

claim_is_no_join : (e : Event) → Does (Claim 1) ≡ Does e → e ≡ Join → ⊥
claim_is_no_join e i j =
    let k : Does (Claim 1) ≡ Does Join = i ∙ ap (λ x. Does x) j in
    cc

does_not_plan : (e : Event) → Does (Claim 1) ≡ Plans e → ⊥
does_not_plan e i = cc

not_first : (n slots : ℕ) (e : Event) (ran : Option Done) (taken : ℕ) → IsRuled (begins n slots) e ran taken → e ≡ Join → ⊥
not_first n slots e ran taken (inl (inl (chosen, same), bare, free)) j = claim_is_no_join e (sym (first_claims n slots) ∙ chosen) j
not_first n slots e ran taken (inl (inr (chosen, same), bare, free)) j = absurd (does_not_plan e (sym (first_claims n slots) ∙ chosen))
not_first n slots (Commit i) ran taken (inr (hands, out, same)) j = cc
not_first n slots e ran taken (inr (hands, out, same)) j = absurd hands

-- another event than the join is the first of the log
abbrev BeginsElse : List Entry → Type 0
BeginsElse log = (e : Event) × (seat : ℕ) × (es : List Entry) × (e ≡ Join → ⊥) × (log ≡ opening ++ In e seat ∷ es)

-- no event came, or the first found no memory, or another came first
abbrev Begun : ℕ → ℕ → TurnState → Type 0
Begun n slots t = (t ≡ begins n slots) ⊎ ((t.run.is_halted ≡ true) × (t.run.log ≡ opening)) ⊎ BeginsElse t.run.log

begins_else_more : (log more : List Entry) → BeginsElse log → BeginsElse (log ++ more)
begins_else_more log more (e, seat, es, other, is) =
    (e, seat, es ++ more, other, ap (λ l. l ++ more) is ∙ append_assoc opening (In e seat ∷ es) more)

-- ---- behind one event more

module _ (n slots : ℕ) (t u : TurnState) (e : Event) (seat : ℕ) (done : Option Done) (told : Reply) where
  by_first : (taken : ℕ) → IsRuled (begins n slots) e done taken → Answers (begins n slots).run e seat done u.run told → Begun n slots u
  by_first taken ruled answers = follows (answers.follows refl)
    where
      follows : Follows (begins n slots).run e seat done u.run told → Begun n slots u
      follows (inl out) = inr (inl (out.halted, out.same))
      follows (inr (handed, is_handed, is)) =
          let k = adds_itself e seat (answer (begins n slots).run.whole e handed) in
          inr (inr (e, seat, k.0, not_first n slots e done taken ruled, is.log ∙ ap (λ es. opening ++ es) k.1))

  by_halted : t.run.is_halted ≡ true → t.run.log ≡ opening → Answers t.run e seat done u.run told → Begun n slots u
  by_halted halted same answers =
      let k : u.run ≡ t.run = (answers.halted halted).0 in
      inr (inl (ap (λ (r : RunState). r.is_halted) k ∙ halted, ap (λ (r : RunState). r.log) k ∙ same))

  by_else : BeginsElse t.run.log → Answers t.run e seat done u.run told → Begun n slots u
  by_else other answers = by_halt t.run.is_halted refl
    where
      unlogged : u.run.log ≡ t.run.log → Begun n slots u
      unlogged same = inr (inr (subst BeginsElse (sym same) other))

      follows : Follows t.run e seat done u.run told → Begun n slots u
      follows (inl out) = unlogged out.same
      follows (inr (handed, is_handed, is)) =
          inr (inr (subst BeginsElse (sym is.log) (begins_else_more t.run.log (logged e seat (answer t.run.whole e handed)) other)))

      by_halt : (b : Bool) → t.run.is_halted ≡ b → Begun n slots u
      by_halt true f = unlogged (ap (λ (r : RunState). r.log) (answers.halted f).0)
      by_halt false f = follows (answers.follows f)

  begun_more : (taken : ℕ) → Begun n slots t → IsRuled t e done taken → Answers t.run e seat done u.run told → Begun n slots u
  begun_more taken (inl same) ruled answers =
      by_first taken (subst (λ (x : TurnState). IsRuled x e done taken) same ruled) (subst (λ (x : TurnState). Answers x.run e seat done u.run told) same answers)
  begun_more taken (inr (inl (halted, same))) ruled answers = by_halted halted same answers
  begun_more taken (inr (inr other)) ruled answers = by_else other answers

begun_in : (script : Script) (n slots k : ℕ) (t : TurnState) → RuledIn script k (begins n slots) t → Begun n slots t
unfolding RuledIn
begun_in script n slots zero t same = inl same
begun_in script n slots (suc k) t (before, e, seat, done, told, taken, way, ruled, is_true, answers, follows) =
    begun_more n slots before t e seat done told taken (begun_in script n slots k before way) ruled answers

-- ---- the log

not_empty : (seat : ℕ) (after : List Entry) → opening ≡ opening ++ In Join seat ∷ after → ⊥
not_empty seat after i =
    let k : [] ≡ In Join seat ∷ after = append_cancel_left opening [] (In Join seat ∷ after) i in
    cc

same_event : (e : Event) (seat from : ℕ) (es after : List Entry) → In e seat ∷ es ≡ In Join from ∷ after → e ≡ Join
same_event e seat from es after i = cc

no_join_first : (n slots : ℕ) (t : TurnState) (seat : ℕ) (after : List Entry) → Begun n slots t → t.run.log ≡ opening ++ In Join seat ∷ after → ⊥
no_join_first n slots t seat after (inl same) i = not_empty seat after (sym (ap (λ (x : TurnState). x.run.log) same) ∙ i)
no_join_first n slots t seat after (inr (inl (halted, same))) i = not_empty seat after (sym same ∙ i)
no_join_first n slots t seat after (inr (inr (e, from, es, other, is))) i =
    other (same_event e from seat es after (append_cancel_left opening (In e from ∷ es) (In Join seat ∷ after) (sym is ∙ i)))

on_cluster : (script : Script) (nodes slots : ℕ) → 1 ≤ nodes → (r : RunState) → IsRuledRun script false late_join (record { nodes = nodes; slots = slots }) None r →
    (seat : ℕ) (after : List Entry) → r.log ≡ opening ++ In Join seat ∷ after → ⊥
on_cluster script zero slots some r ruled seat after i = omega (arith, some)
on_cluster script (suc n) slots some r ruled seat after i =
    let way = ruled refl in
    no_join_first n slots way.0 seat after (begun_in script n slots way.3.0 way.0 way.3.1) (ap (λ (x : RunState). x.log) way.1 ∙ i)

pub plans_are_true : PlansAreTrue
plans_are_true script size cluster r over seat after i = on_cluster script size.nodes size.slots cluster.a_node r over.ruled seat after i
