-- The line of a refusal: its number, and the cause in words.
use Rattle.std.specs.Prelude.{ℕ, List, ◌++◌, codes}
use Rattle.std.specs.Fmt.{decimal}
use Rattle.log_entries.specs.declared.refusal.Refusal.{Refusal}
use Rattle.log_entries.specs.declared.refusal.Refusal.TheVariants as refusals
use Rattle.log_entries.specs.Refusals.{code_of}
use Rattle.raysim_explain.specs.declared.reason.RefusalCause.{RefusalCause}
use Rattle.raysim_explain.specs.declared.reason.RefusalCause.TheVariants as causes
use Rattle.raysim_explain.specs.Texts.{cause_of}

-- the cause of a refusal
abbrev pub reason_of : Refusal → RefusalCause
reason_of refusals.Pinned = causes.Pinned
reason_of refusals.NoCopy = causes.NoCopy
reason_of refusals.NoWorker = causes.NoWorker
reason_of refusals.NotReady = causes.NotReady
reason_of refusals.NoJob = causes.NoJob
reason_of refusals.Stale = causes.Stale
reason_of refusals.NoMessage = causes.NoMessage
reason_of refusals.NotDead = causes.NotDead
reason_of refusals.NoNode = causes.NoNode
reason_of refusals.Limit = causes.Limit
reason_of refusals.Halted = causes.Halted
reason_of refusals.NoMemory = causes.NoMemory

-- refused 31: A claim of a worker that has nothing to run, or whose job is out.
abbrev pub refusal_text : Refusal → List ℕ
refusal_text r = codes "refused " ++ (decimal (code_of r) ++ (codes ": " ++ cause_of (reason_of r)))
