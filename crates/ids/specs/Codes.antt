-- How the logic stores ids.
use Rattle.std.specs.Prelude.{ℕ}
use Rattle.std.proofs.Common.{refl}
use Rattle.std.specs.Coded.{Coded, code_by, coded×, coded_ℕ}
use Rattle.meaning.specs.Values.{Id}
use Rattle.ids.specs.Attempts.{Attempt}

abbrev pub id_code : Coded Id
id_code = code_by (ℕ × ℕ) (coded× coded_ℕ coded_ℕ) (λ o. (o.owner, o.serial)) (λ p. record { owner = p.0; serial = p.1 }) (λ _. refl)

abbrev pub attempt_code : Coded Attempt
attempt_code = code_by (Id × ℕ) (coded× id_code coded_ℕ) (λ a. (a.object, a.number)) (λ p. record { object = p.0; number = p.1 }) (λ _. refl)
