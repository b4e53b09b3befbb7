-- Why a run on threads is refused.
use Rattle.std.proofs.Common.{ℕ, List, Option, None, Some, inl, inr}
use Rattle.std.specs.Prelude.{IfSome}
use Rattle.meaning.specs.Syntax.{Script}
use Rattle.event_files.specs.declared.plan.PlanLine.{PlanLine}
use Rattle.run_commands.specs.of_protocol_board.Cores.{Size}
use Rattle.raysim_streams.specs.declared.Failure.TheVariants.{Read, Write, Closed}
use Rattle.raysim_streams.specs.declared.CommandRefusal.{CommandRefusal}
use Rattle.raysim_streams.specs.declared.CommandRefusal.TheVariants.{At, NoMemory, Stopped, BadLine, WrongJob, Failed}
use Rattle.script_commands.specs.Scripts.{Counts, Explains, IsAllowed, IsScript}
use Rattle.raysim_commands.specs.ThreadReports.{ExplainsInputs, ExplainsPlan, ExplainsThreads, IsPlan, IsStop}

-- a script is refused for the other commands' causes
pub explains_script : (text plan : Option (List ℕ)) (a b : Counts) (r : CommandRefusal) → Explains text a (0, 0) r → ExplainsInputs text plan a b r
explains_script text plan a b (At code span) h = h
explains_script text plan a b NoMemory h = tt
explains_script text plan a b (Stopped code) h = absurd h
explains_script text plan a b (BadLine line) h = absurd h
explains_script text plan a b (WrongJob line) h = absurd h
explains_script text plan a b (Failed Read) h = inl h
explains_script text plan a b (Failed Write) h = let bad : ⊥ = cc in absurd bad
explains_script text plan a b (Failed Closed) h = let bad : ⊥ = cc in absurd bad

allowed : (known : Option (List ℕ)) (script : Script) → IfSome known (λ t. IsScript t script) → IfSome known IsAllowed
allowed None script is = tt
allowed (Some t) script is = (script, is)

bad_line : (text plan : Option (List ℕ)) (a b : Counts) (n : ℕ) → IfSome text IsAllowed → ExplainsPlan plan b (BadLine n) → ExplainsInputs text plan a b (BadLine n)
bad_line None plan a b n is h = tt
bad_line (Some t) None a b n is h = tt
bad_line (Some t) (Some p) a b n is h = (is, h)

-- the plan isn't read
pub explains_no_plan : (text plan : Option (List ℕ)) (a b : Counts) (script : Script) (r : CommandRefusal) → IfSome text (λ t. IsScript t script) →
    ExplainsPlan plan b r → ExplainsInputs text plan a b r
explains_no_plan text plan a b script (BadLine n) is h = bad_line text plan a b n (allowed text script is) h
explains_no_plan text plan a b script NoMemory is h = tt
explains_no_plan text plan a b script (Failed Read) is h = inr (h, allowed text script is)
explains_no_plan text plan a b script (Failed Write) is h = absurd h
explains_no_plan text plan a b script (Failed Closed) is h = absurd h
explains_no_plan text plan a b script (At code span) is h = absurd h
explains_no_plan text plan a b script (Stopped code) is h = absurd h
explains_no_plan text plan a b script (WrongJob n) is h = absurd h

-- a run is, of what was read, where that is known
pub explains_stop : (size : Size) (threads : ℕ) (text plan : Option (List ℕ)) (a b h w : Counts) (script : Script) (lines : List PlanLine) (r : CommandRefusal) →
    IfSome text (λ t. IsScript t script) → IfSome plan (λ p. IsPlan p lines) → IsStop script lines size threads r →
    ExplainsThreads size threads text plan a b h w r
explains_stop size threads text plan a b h w script lines NoMemory is_script is_plan stop = tt
explains_stop size threads None plan a b h w script lines (Stopped code) is_script is_plan stop = tt
explains_stop size threads (Some t) None a b h w script lines (Stopped code) is_script is_plan stop = tt
explains_stop size threads (Some t) (Some p) a b h w script lines (Stopped code) is_script is_plan stop = (script, lines, is_script, is_plan, stop)
explains_stop size threads text plan a b h w script lines (At code span) is_script is_plan stop = absurd stop
explains_stop size threads text plan a b h w script lines (BadLine line) is_script is_plan stop = absurd stop
explains_stop size threads text plan a b h w script lines (WrongJob line) is_script is_plan stop = absurd stop
explains_stop size threads text plan a b h w script lines (Failed failure) is_script is_plan stop = absurd stop
