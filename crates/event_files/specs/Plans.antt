-- What a line of a plan says, how it is written and how it is read.
use Rattle.std.specs.Prelude.{◌≡◌, ℕ, ◌<◌, ◌^◌, Bool, true, false, List, ◌++◌, if◌then◌else◌, Option, Some, None, codes}
use Rattle.std.specs.Fmt.{decimal}
use Rattle.log_entries.specs.Texts.{event_text}
use Rattle.log_entries.specs.declared.event.Event.{Event}
use Rattle.log_entries.specs.declared.event.Event.TheVariants.{Claim, Commit, Deliver}
use Rattle.event_files.specs.declared.plan.PlanLine.{PlanLine}
use Rattle.event_files.specs.Lines.{IsEvent}
use Rattle.event_files.specs.Reading.{go_on, parted, number_in, event_in}

-- the event comes from outside, as a plan may have it: claims, commits and deliveries are the run's own
abbrev pub is_outside : Event → Bool
is_outside (Claim w) = false
is_outside (Commit j) = false
is_outside (Deliver m) = false
is_outside _ = true

-- the event comes from outside, and the numbers fit their types
abbrev pub IsPlanLine : PlanLine → Type 0
IsPlanLine p = (p.commits < 2 ^ 64) × IsEvent p.event × (is_outside p.event ≡ true)

-- C EVENT
abbrev pub plan_line_text : PlanLine → List ℕ
plan_line_text p = decimal p.commits ++ (codes " " ++ event_text p.event)

abbrev pub planned : Event → Option Event
planned e = if is_outside e then Some e else None

abbrev pub plan_line_at : ℕ → Event → PlanLine
plan_line_at commits event = record { commits = commits; event = event }

unfoldable pub plan_line_in : List ℕ → Option PlanLine
plan_line_in bytes =
    go_on (parted 32 bytes) (λ x. go_on (number_in 64 x.0) (λ n. go_on (event_in x.1) (λ e. go_on (planned e) (λ p. Some (plan_line_at n p)))))
