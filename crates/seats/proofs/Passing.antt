-- What an event passes: a line of the plan, whose event it is, or none, and then it is the run's own, or the run is open.
use Rattle.std.proofs.Common.{◌≡◌, ◌⊎◌, ℕ, true, false, Bool, Option, Some, None, refl, sym, ap, ◌∙◌, inl, inr}
use Rattle.std.specs.Prelude.{slice_get, [], not}
use Rattle.std.proofs.lemmas.Bool.{not-true}
use Rattle.segment.specs.Jobs.{Done}
use Rattle.event_files.specs.declared.plan.PlanLine.{PlanLine}
use Rattle.event_log.specs.Books.{totals_of}
use Rattle.event_log.specs.Entries.{Event, Claim, Commit, Deliver}
use Rattle.protocol.specs.Settling.{next}
use Rattle.seats.specs.Outside.{MayApply, Passes, is_outside}
use Rattle.seats.specs.Ruled.{HandsIn, IsRuled}
use Rattle.seats.specs.Turns.{Choice, Does, Ends, Plans, TurnState, busy, choice, due, or_claim, or_message, or_plan, or_wait, past_line}

-- ---- what a turn does of itself

abbrev done_event : Event → Choice → Event
done_event other (Does e) = e
done_event other _ = other

-- one of these, if it is a delivery or a claim
module _ (test : Event → Bool) (delivers : (k : ℕ) → test (Deliver k) ≡ true) (claims : (w : ℕ) → test (Claim w) ≡ true) where
  own_last : (o : Option Event) (slot : Option PlanLine) (e : Event) → or_wait o (or_plan slot Ends) ≡ Does e → test e ≡ true
  own_last None None e h = absurd cc
  own_last None (Some line) e h = absurd cc
  own_last (Some (Commit j)) slot e h = absurd cc
  own_last (Some x) None e h = absurd cc
  own_last (Some x) (Some line) e h = absurd cc

  own_claim : (o first : Option Event) (slot : Option PlanLine) (e : Event) → or_claim o (or_wait first (or_plan slot Ends)) ≡ Does e → test e ≡ true
  own_claim (Some (Claim w)) first slot e h = sym (ap test (ap (done_event e) h)) ∙ claims w
  own_claim None first slot e h = own_last first slot e h
  own_claim (Some x) first slot e h = own_last first slot e h

  own_plan : (o : Option PlanLine) (other : Choice) (e : Event) → (other ≡ Does e → test e ≡ true) → or_plan o other ≡ Does e → test e ≡ true
  own_plan None other e next h = next h
  own_plan (Some line) other e next h = absurd cc

  own_message : (o : Option Event) (other : Choice) (e : Event) → (other ≡ Does e → test e ≡ true) → or_message o other ≡ Does e → test e ≡ true
  own_message (Some (Deliver k)) other e next h = sym (ap test (ap (done_event e) h)) ∙ delivers k
  own_message None other e next h = next h
  own_message (Some x) other e next h = next h

  pub does_own : (t : TurnState) (e : Event) → choice t ≡ Does e → test e ≡ true
  does_own t e h =
      let slot = slice_get t.plan t.taken in
      let first = next t.run.whole [] in
      let claim = next t.run.whole (busy t.out) in
      let claims_next = or_claim claim (or_wait first (or_plan slot Ends)) in
      let planned = or_plan (due (totals_of t.run.log).commits slot) claims_next in
      own_message first planned e (own_plan (due (totals_of t.run.log).commits slot) claims_next e (own_claim claim first slot e)) h

does_inside : (t : TurnState) (e : Event) → choice t ≡ Does e → is_outside e ≡ false
does_inside t e h = not-true (is_outside e) (does_own (λ x. not (is_outside x)) (λ k. refl) (λ w. refl) t e h)

pub true_or_false : {A : Type 0} (b : Bool) → b ≡ false → b ≡ true → A
true_or_false b f t = absurd cc

-- the event is the run's own, or the run is open
abbrev pub IsAllowed : Bool → Event → Type 0
IsAllowed is_open e = is_outside e ≡ true → is_open ≡ true

-- so is what hands in what was handed on a job
hands_own : (e : Event) (handed : Option Done) → HandsIn e handed → is_outside e ≡ false
hands_own (Commit j) (Some d) h = refl
hands_own e handed h = absurd h

own_allowed : (is_open : Bool) (e : Event) → is_outside e ≡ false → IsAllowed is_open e
own_allowed is_open e own = λ from_outside. true_or_false (is_outside e) own from_outside

-- what an event passes
abbrev pub IsPast : Bool → TurnState → Event → ℕ → Type 0
IsPast is_open t e taken =
    ((taken ≡ t.taken) × IsAllowed is_open e) ⊎ ((taken ≡ past_line t.plan t.taken) × (choice t ≡ Plans e) × (t.given_up ≡ None))

ruled_past : (is_open : Bool) (t : TurnState) (e : Event) (handed : Option Done) (taken : ℕ) → IsRuled t e handed taken → IsPast is_open t e taken
ruled_past is_open t e handed taken (inl (inl (chosen, same), bare, free)) = inl (same, own_allowed is_open e (does_inside t e chosen))
ruled_past is_open t e handed taken (inl (inr (chosen, same), bare, free)) = inr (same, chosen, free)
ruled_past is_open t e handed taken (inr (hands, out, same)) = inl (same, own_allowed is_open e (hands_own e handed hands))

pub past_of : (is_open : Bool) (t : TurnState) (e : Event) (handed : Option Done) (taken : ℕ) → Passes is_open t e handed taken → IsPast is_open t e taken
past_of is_open t e handed taken (inl ruled) = ruled_past is_open t e handed taken ruled
past_of is_open t e handed taken (inr (opened, same)) = inl (same, λ from_outside. opened)

-- ---- what passes

pub call_passes : (is_open : Bool) (t : TurnState) (e : Event) (handed : Option Done) → MayApply is_open t e handed → Passes is_open t e handed t.taken
call_passes is_open t e handed (inl (hands, out)) = inl (inr (hands, out, refl))
call_passes is_open t e handed (inr opened) = inr (opened, refl)

pub turn_passes : (is_open : Bool) (t : TurnState) (e : Event) → choice t ≡ Does e → t.given_up ≡ None → Passes is_open t e None t.taken
turn_passes is_open t e chosen free = inl (inl (inl (chosen, refl), refl, free))

pub line_passes : (is_open : Bool) (t : TurnState) (e : Event) → choice t ≡ Plans e → t.given_up ≡ None → Passes is_open t e None (past_line t.plan t.taken)
line_passes is_open t e chosen free = inl (inl (inr (chosen, refl), refl, free))
