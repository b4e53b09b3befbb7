use Rattle.std.proofs.Common.{rules}
use Rattle.script_check.specs.Trees.{script_of}
use Rattle.run_commands.proofs.Trying.{table_so, tried_so}
use Rattle.run_commands.proofs.faults_command.try_faults.Goals as goal

pub returns-clause-told : goal.returns-clause-told
returns-clause-told g c =
    tried_so (script_of c.args.script.now) g.S.ScriptName.script c.args.cluster c.args.choice c.args.most c.args.log.now _ _
    (search rules) (search rules) (search rules) (table_so _ _ _ _ _ _ _ c.in_ok-table.ensures (search rules) (search rules) (search rules)) (search rules)
