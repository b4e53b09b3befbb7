-- What the code's turns stand for.
use Rattle.segment.specs.Jobs.{JobParts}
use Rattle.seats.specs.Turns.{Choice, Does, Plans, Waits, Ends, Told, GaveJob, Did, WasRefused, MustWait, IsOver}
use Rattle.seats.specs.declared.choice.Choice as coded
use Rattle.seats.specs.declared.choice.Choice.TheVariants as choices
use Rattle.seats.specs.declared.turn.Turn as turned
use Rattle.seats.specs.declared.turn.Turn.TheVariants as turns

abbrev pub choice_of : coded.Choice → Choice
choice_of (choices.Does e) = Does e
choice_of (choices.Plans e) = Plans e
choice_of choices.Waits = Waits
choice_of choices.Ends = Ends

abbrev pub told_of : turned.Turn JobParts → Told
told_of (turns.Job job) = GaveJob job
told_of turns.Did = Did
told_of (turns.Refused refusal) = WasRefused refusal
told_of turns.Again = MustWait
told_of turns.End = IsOver
