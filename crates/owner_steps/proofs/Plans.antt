-- A plan that can be carried out is remade, and one that can't be is given up with its fault: so the owner recovers.
use Rattle.std.proofs.Common.{◌≡◌, ◌∙◌, List, None, Option, Some, Result, Ok, Err, ap, refl, sym, ℕ}
use Rattle.meaning.specs.Values.{Id}
use Rattle.event_log.specs.Entries.{Fault}
use Rattle.protocol.specs.Steps.{WorkerContext}
use Rattle.protocol.specs.Recovery.{first_stop, gives_up, members, recovers, recovers_by, remakes}
use Rattle.lineage.specs.Plans.{planned, planned_by}
use Rattle.lineage.specs.declared.recovery.Plan.{Plan}
use Rattle.lineage.specs.declared.recovery.Stop.{Stop}
use Rattle.lineage.specs.declared.recovery.Stop.TheVariants.{CannotBeRemade, NoMemory}

abbrev carried : WorkerContext → Id → Result Plan Stop → WorkerContext
carried h o (Ok plan) = remakes h plan.serials
carried h o (Err (CannotBeRemade f)) = gives_up h o f
carried h o (Err NoMemory) = h

carried_by : (h : WorkerContext) (o : Id) (ks : List ℕ) (f : Option Fault) → recovers_by h o ks f ≡ carried h o (planned_by ks f)
carried_by h o ks None = refl
carried_by h o ks (Some f) = refl

pub remade : (h : WorkerContext) (o : Id) (plan : Plan) → Ok plan ≡ planned h o.serial → remakes h plan.serials ≡ recovers h o
remade h o plan e = ap (carried h o) e ∙ sym (carried_by h o (members h o.serial) (first_stop h (members h o.serial)))

pub stopped : (h : WorkerContext) (o : Id) (f : Fault) → Err (CannotBeRemade f) ≡ planned h o.serial → gives_up h o f ≡ recovers h o
stopped h o f e = ap (carried h o) e ∙ sym (carried_by h o (members h o.serial) (first_stop h (members h o.serial)))
