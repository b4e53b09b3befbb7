use Rattle.std.proofs.Common.{rules, ◌≡◌, subst}
use Rattle.std.specs.Prelude.{string_bytes}
use Rattle.script_check.specs.Scripts.{IsWellTyped}
use Rattle.script_check.specs.Trees.{script_of}
use Rattle.replay_laws.specs.of_seats.Ends.{size_of}
use Rattle.raysim_commands.proofs.Replayed.{at_limit_so, over_so, run_on_so}
use Rattle.raysim_commands.proofs.thread_run.run_script.Goals as goal

pub returns-in_ok-outputs_behind-in-Over-clause-run : goal.returns-in_ok-outputs_behind-in-Over-clause-run
returns-in_ok-outputs_behind-in-Over-clause-run g c =
    let script = g.S.ScriptName.script in
    let out = c.in_ok-outputs_behind-in-Over.field-0 in
    let sized : size_of c.new-board.result ≡ c.args.cluster = search rules in
    let over = over_so script c.args.threads c.args.plan.lines (size_of c.new-board.result) c.args.cluster c.in_ok-board.field-0 c.in-Over.board sized
    c.in-Over.is c.in_ok-board.ensures in
    run_on_so c.runs_replay.ensures.again c.runs_replay.ensures.same script (script_of c.args.script.now) c.requires.script
    (subst (λ s. IsWellTyped (script_of s)) c.script.ensures c.functions.ensures.well_typed) c.args.plan.lines c.args.cluster c.args.threads c.args.form
    c.in-Over.board (string_bytes out.report) (string_bytes out.history) out.status c.nodes.ensures.cluster.a_node c.requires.some.1 c.requires.outside over.0 over.1
    (search rules)

pub returns-in-AtLimit-clause-stopped : goal.returns-in-AtLimit-clause-stopped
returns-in-AtLimit-clause-stopped g c =
    let sized : size_of c.new-board.result ≡ c.args.cluster = search rules in
    let k = at_limit_so g.S.ScriptName.script c.args.threads c.args.plan.lines (size_of c.new-board.result) c.args.cluster c.in_ok-board.field-0
    c.in-AtLimit.board sized c.in-AtLimit.is c.in_ok-board.ensures in
    c.at_limit-refusal.ensures c.args.plan.lines c.args.cluster c.args.threads k.0 k.1
