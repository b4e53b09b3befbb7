-- From the trap of an object to the attempt whose own code trapped.
use Rattle.std.proofs.Common.{◌≡◌, ◌∙◌, ℕ, suc, List, Option, Some, None, refl, ap, sym}
use Rattle.meaning.specs.Values.{Id}
use Rattle.event_log.specs.Entries.{Attempt, Entry}
use Rattle.trap_sources.specs.Chains.{origin_from, origin_step, trap_got, trap_origin, trapped_of}

no_origin : (log : List Entry) (o : Id) → trap_origin log 0 o ≡ None
unfolding trap_origin
no_origin log o = refl

one_origin : (log : List Entry) (n : ℕ) (o : Id) →
    trap_origin log (suc n) o ≡ origin_from (λ a. origin_step (trap_origin log n) a (trap_got log a)) (trapped_of log o)
unfolding trap_origin
one_origin log n o = refl

-- what the step from an object comes to
stepped : (log : List Entry) (n m : ℕ) (o : Id) (found : Option Attempt) (whole : Option Attempt) → n ≡ suc m → found ≡ trapped_of log o →
    trap_origin log n o ≡ whole → origin_from (λ a. origin_step (trap_origin log m) a (trap_got log a)) found ≡ whole
stepped log n m o found whole e made h =
    ap (origin_from (λ a. origin_step (trap_origin log m) a (trap_got log a))) made ∙ sym (one_origin log m o) ∙ ap (λ k. trap_origin log k o) (sym e) ∙ h

-- none is left
pub none_left : (log : List Entry) (n : ℕ) (o : Id) (whole : Option Attempt) → n ≡ 0 → trap_origin log n o ≡ whole → None ≡ whole
none_left log n o whole e h = sym (no_origin log o) ∙ ap (λ k. trap_origin log k o) (sym e) ∙ h

-- no attempt of the object ended with a trap
pub nothing_trapped : (log : List Entry) (n m : ℕ) (o : Id) (whole : Option Attempt) → n ≡ suc m → None ≡ trapped_of log o →
    trap_origin log n o ≡ whole → None ≡ whole
nothing_trapped log n m o whole e none h = stepped log n m o None whole e none h

-- its own code trapped
pub own_trapped : (log : List Entry) (n m : ℕ) (o : Id) (a : Attempt) (whole : Option Attempt) → n ≡ suc m → Some a ≡ trapped_of log o →
    None ≡ trap_got log a → trap_origin log n o ≡ whole → Some a ≡ whole
own_trapped log n m o a whole e made none h =
    ap (origin_step (trap_origin log m) a) none ∙ stepped log n m o (Some a) whole e made h

-- it got a trap
pub next_trapped : (log : List Entry) (n m : ℕ) (o : Id) (a : Attempt) (y : Id) (whole : Option Attempt) → n ≡ suc m → Some a ≡ trapped_of log o →
    Some y ≡ trap_got log a → trap_origin log n o ≡ whole → trap_origin log m y ≡ whole
next_trapped log n m o a y whole e made got h =
    ap (origin_step (trap_origin log m) a) got ∙ stepped log n m o (Some a) whole e made h
