-- The members of a plan stand in birth order, and a stop is that of the first that can't be made again.
use Rattle.std.proofs.Common.{◌≡◌, ℕ, zero, suc, ◌+◌, ◌≤◌, Bool, List, [], ◌∷◌, Option, Some, None, refl, ap, arith}
use Rattle.std.specs.Prelude.{if◌then◌else◌}
use Rattle.std.specs.List.{filter}
use Rattle.protocol_data.proofs.of_meaning.BirthLaws.{at_test}
use Rattle.protocol_data.specs.of_event_log.Entries.{Fault}
use Rattle.protocol.specs.Sets.{has}
use Rattle.protocol.specs.Steps.{WorkerContext}
use Rattle.protocol.specs.Recovery.{counted_from, first_stop, members, members_below, or_fault, stop_at}
use Rattle.protocol.specs.Laws.{CanBeMade, IsFirstStop, Rises}

rises_from : (c d : ℕ) (ks : List ℕ) → c ≤ d → Rises d ks → Rises c ks
rises_from c d [] b r = tt
rises_from c d (k ∷ ks) b r = let a = r.0 in (omega (arith, a, b), r.1)

rises_filtered : (p : ℕ → Bool) (c n : ℕ) → Rises c (filter p (counted_from c n))
rises_filtered p c zero = tt
rises_filtered p c (suc n) =
    at_test (λ b. Rises c (if b then c ∷ filter p (counted_from (c + 1) n) else filter p (counted_from (c + 1) n))) (p c)
    (λ b. (omega arith, rises_filtered p (c + 1) n)) (λ b. rises_from c (c + 1) (filter p (counted_from (c + 1) n)) (omega arith) (rises_filtered p (c + 1) n))

pub in_birth_order : (h : WorkerContext) (k : ℕ) → Rises 1 (members h k)
in_birth_order h k = rises_filtered (has (members_below h k (k ∷ []))) 1 k

stop_behind : (h : WorkerContext) (k : ℕ) (ks : List ℕ) (f : Fault) → stop_at h k ≡ None → IsFirstStop h ks f → IsFirstStop h (k ∷ ks) f
stop_behind h k ks f g rest =
    record {
      before = k ∷ rest.before;
      serial = rest.serial;
      behind = rest.behind;
      parts = ap (λ xs. k ∷ xs) rest.parts;
      none_before = (g, rest.none_before);
      stops = rest.stops;
    }

at_stop : (h : WorkerContext) (k : ℕ) (ks : List ℕ) (f : Fault) (r : Option Fault) → stop_at h k ≡ r → (first_stop h ks ≡ Some f → IsFirstStop h ks f) → or_fault r (first_stop h ks) ≡ Some f → IsFirstStop h (k ∷ ks) f
at_stop h k ks f None g next t = stop_behind h k ks f g (next t)
at_stop h k ks f (Some x) g next t = record { before = []; serial = k; behind = ks; parts = refl; none_before = tt; stops = cc }

pub is_first_stop : (h : WorkerContext) (ks : List ℕ) (f : Fault) → first_stop h ks ≡ Some f → IsFirstStop h ks f
is_first_stop h [] f e = absurd (cc)
is_first_stop h (k ∷ ks) f e = at_stop h k ks f (stop_at h k) refl (λ t. is_first_stop h ks f t) e

at_none : (h : WorkerContext) (k : ℕ) (ks : List ℕ) (r : Option Fault) → stop_at h k ≡ r → (first_stop h ks ≡ None → CanBeMade h ks) → or_fault r (first_stop h ks) ≡ None → CanBeMade h (k ∷ ks)
at_none h k ks None g next t = (g, next t)
at_none h k ks (Some x) g next t = absurd (cc)

pub no_stop : (h : WorkerContext) (ks : List ℕ) → first_stop h ks ≡ None → CanBeMade h ks
no_stop h [] e = tt
no_stop h (k ∷ ks) e = at_none h k ks (stop_at h k) refl (λ t. no_stop h ks t) e
