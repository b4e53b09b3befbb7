use Rattle.std.proofs.Common.{◌≡◌, ◌∙◌, refl, rules}
use Rattle.std.specs.Prelude.{string_bytes}
use Rattle.script_check.specs.Trees.{script_of}
use Rattle.run_commands.specs.of_protocol_board.Replays.{Play, from_first}
use Rattle.run_commands.specs.SimReports.{first_play}
use Rattle.raysim_commands.proofs.Migrated.{history_so, too_long_so}
use Rattle.raysim_commands.proofs.migrate_command.migrate_script.Goals as goal

pub returns-in_ok-written-in-Ok-clause-written : goal.returns-in_ok-written-in-Ok-clause-written
returns-in_ok-written-in-Ok-clause-written g c =
    let first : Play = c.new-replay.result in
    let same : from_first first ≡ first = search rules in
    let begins : first ≡ first_play c.args.cluster = search rules in
    history_so (script_of c.args.script.now) g.S.ScriptName.script c.args.cluster c.args.lines.now (from_first first) c.play.new.self c.log.result.now
    (string_bytes c.in_ok-written-in-Ok.field-0) (search rules) (same ∙ begins) (search rules) (search rules) (search rules) (search rules) (search rules)

pub returns-in-Err-TooLong-clause-stopped : goal.returns-in-Err-TooLong-clause-stopped
returns-in-Err-TooLong-clause-stopped g c =
    let stop = too_long_so (script_of c.args.script.now) g.S.ScriptName.script c.args.cluster c.args.lines.now (from_first c.new-replay.result)
    c.new-replay.result c.play.new.self (search rules) (search rules) (search rules) (search rules) in
    (refl, (c.play.new.self, stop))
