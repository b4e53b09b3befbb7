use Rattle.std.proofs.Common.{subst}
use Rattle.protocol_core.specs.Limits.{IsWithin}
use Rattle.protocol_core.specs.Meant.{IsSoundLog}
use Rattle.protocol_core.specs.States.{IsSoundRun}
use Rattle.protocol_core.specs.Views.{state_of}
use Rattle.protocol_core.proofs.Meant.{meant}
use Rattle.protocol_core.proofs.Paid.{within}
use Rattle.protocol_core.proofs.cores.Core.log.Goals as goal

pub returns-clause-meant : goal.returns-clause-meant
returns-clause-meant g c =
    let kept = c.self.invariant.0 in
    subst (λ d. IsSoundLog g.S.ScriptName.script d) c.self.view_is
    (meant g.S.ScriptName.script (state_of c.self.inside.state) c.legal_logs_read_as_serial.ensures c.main_begins_the_serial_run.ensures
    kept.legal kept.reached)

pub returns-clause-within : goal.returns-clause-within
returns-clause-within g c =
    subst (λ d. IsWithin g.S.ScriptName.script d) c.self.view_is (within g.S.ScriptName.script (state_of c.self.inside.state) c.self.invariant.0)

pub returns-clause-sound : goal.returns-clause-sound
returns-clause-sound g c = subst (λ d. IsSoundRun g.S.ScriptName.script d) c.self.view_is c.self.invariant.0
