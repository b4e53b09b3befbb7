-- How the logic stores faults.
use Rattle.std.specs.Prelude.{◌≡◌, ℕ, refl, cond, ◌==◌}
use Rattle.std.specs.Coded.{Coded, code_by, coded×, coded_ℕ}
use Rattle.ids.specs.of_meaning.Values.{Id}
use Rattle.ids.specs.Codes.{id_code}
use Rattle.values.specs.declared.fault.FaultKind.{FaultKind}
use Rattle.values.specs.declared.fault.FaultKind.TheVariants.{OwnerDied, PutLost, RetriesUsed}
use Rattle.values.specs.Faults.{Fault}

abbrev kind_number : FaultKind → ℕ
kind_number OwnerDied = 0
kind_number PutLost = 1
kind_number RetriesUsed = 2

abbrev kind_at : ℕ → FaultKind
kind_at n = cond (n == 0) OwnerDied (cond (n == 1) PutLost RetriesUsed)

pub kind_again : (k : FaultKind) → kind_at (kind_number k) ≡ k
kind_again OwnerDied = refl
kind_again PutLost = refl
kind_again RetriesUsed = refl

abbrev pub kind_code : Coded FaultKind
kind_code = code_by ℕ coded_ℕ kind_number kind_at kind_again

abbrev pub fault_code : Coded Fault
fault_code = code_by (FaultKind × Id) (coded× kind_code id_code) (λ f. (f.kind, f.object)) (λ p. record { kind = p.0; object = p.1 }) (λ _. refl)
