use Rattle.std.proofs.Common.{subst}
use Rattle.script_check.specs.Scripts.{IsWellTyped}
use Rattle.protocol_core.specs.Views.{state_of}
use Rattle.protocol_core.proofs.Cursors.{first_in}
use Rattle.protocol_core.proofs.Kept.{kept_first}
use Rattle.protocol_core.proofs.cores.Core.new.Goals as goal

pub invariant_of-result : goal.invariant_of-result
invariant_of-result g c =
    let typed = subst IsWellTyped c.requires c.functions.ensures.well_typed in (
      kept_first g.S.ScriptName.script (state_of c.in_ok-state.state) c.args.cluster.nodes c.args.cluster.slots c.opening_is_sound.ensures c.sound_is_legal.ensures typed c.nodes.ensures.cluster.a_node c.nodes.ensures.cluster.nodes c.nodes.ensures.cluster.a_slot c.in_ok-state.ensures,
      first_in (state_of c.in_ok-state.state) c.args.cluster.nodes c.args.cluster.slots c.in_ok-state.ensures,
    )
