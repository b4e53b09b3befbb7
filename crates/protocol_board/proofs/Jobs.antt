-- The job of a number stands at the place before it.
use Rattle.std.proofs.Common.{◌≡◌, ℕ, zero, suc, ◌+◌, ◌<◌, ◌⊎◌, List, length, Option, Some, None, refl, ap}
use Rattle.std.specs.Prelude.{slice_get, slice_set}
use Rattle.std.specs.Option.{option_flatten}
use Rattle.segment.specs.Jobs.{JobParts}
use Rattle.protocol.specs.Numbered.{item_at, changed_by}
use Rattle.number_lists.proofs.Places.{item_there, no_item, set_over}
use Rattle.protocol_board.specs.Replays.{job_at, handed_in}

pub job_there : (jobs : List (Option JobParts)) (i n : ℕ) (job : Option JobParts) → n ≡ 1 + i → slice_get jobs i ≡ Some job → job_at jobs n ≡ job
job_there jobs i n job e g = ap option_flatten (item_there jobs i n job e g)

pub no_job : (jobs : List (Option JobParts)) (n : ℕ) → (n ≡ 0) ⊎ (length jobs < n) → job_at jobs n ≡ None
no_job jobs n h = ap option_flatten (no_item jobs n h)

pub taken_out : (jobs : List (Option JobParts)) (i n : ℕ) → i < length jobs → n ≡ 1 + i → handed_in jobs n ≡ slice_set jobs i None
taken_out jobs i n h e = set_over jobs i n None h e

unchanged : (jobs : List (Option JobParts)) (n : ℕ) (job : Option (Option JobParts)) → job ≡ None → changed_by jobs n (λ x. None) job ≡ jobs
unchanged jobs zero job e = refl
unchanged jobs (suc i) None e = refl
unchanged jobs (suc i) (Some x) e = absurd (cc)

pub none_out : (jobs : List (Option JobParts)) (n : ℕ) → (n ≡ 0) ⊎ (length jobs < n) → handed_in jobs n ≡ jobs
none_out jobs n h = unchanged jobs n (item_at jobs n) (no_item jobs n h)
