use Rattle.protocol_core.specs.Steps.{reply_of}
use Rattle.protocol_core.specs.Views.{state_of}
use Rattle.protocol_core.proofs.Cursors.{past_behind}
use Rattle.protocol_core.proofs.Meant.{meant}
use Rattle.protocol_core.proofs.Paid.{limited, paid}
use Rattle.protocol_core.proofs.Shown.{as_shown}
use Rattle.protocol_core.proofs.steps.step.Goals as goal

-- of a halted run, whose log stays: a sound run's log reads as the serial run
pub returns-then-state-clause-meant : goal.returns-then-state-clause-meant
returns-then-state-clause-meant g c =
    meant g.S.ScriptName.script (state_of c.args.state.now) c.legal_logs_read_as_serial.ensures c.main_begins_the_serial_run.ensures
    c.requires.kept.legal c.requires.kept.reached

-- the event leaves no undelivered message before the cursor
pub cursor_behind-requires : goal.cursor_behind-requires
cursor_behind-requires g c =
    past_behind (state_of c.args.state.now) (state_of c.taken-told.new.state) c.args.event c.args.seat c.args.done
    (reply_of c.taken-told.result) c.args.cursor.now c.taken-told.ensures.follows c.requires.first.past

-- and so it does behind the event
pub returns-clause-meant : goal.returns-clause-meant
returns-clause-meant g c =
    meant g.S.ScriptName.script (state_of c.taken-told.new.state) c.legal_logs_read_as_serial.ensures c.main_begins_the_serial_run.ensures
    c.taken-told.ensures.kept.legal c.taken-told.ensures.kept.reached

-- the event is answered as the log before it shows
pub returns-clause-shown : goal.returns-clause-shown
returns-clause-shown g c =
    as_shown g.S.ScriptName.script (state_of c.args.state.now) (state_of c.taken-told.new.state) c.args.event c.args.seat c.args.done
    (reply_of c.taken-told.result) c.refusals_are_as_shown.ensures c.requires.kept (λ goes. c.taken-told.ensures.follows)

-- it pays what it owes, by log, network and slots before and after it
pub returns-clause-paid : goal.returns-clause-paid
returns-clause-paid g c =
    paid g.S.ScriptName.script (state_of c.args.state.now) (state_of c.taken-told.new.state) c.args.event c.args.seat c.args.done
    (reply_of c.taken-told.result) c.requires.kept c.taken-told.ensures.is_true (λ goes. c.taken-told.ensures.follows)

-- it is refused 37 exactly where it would have passed a limit by the counts of the log
pub returns-clause-limited : goal.returns-clause-limited
returns-clause-limited g c =
    limited g.S.ScriptName.script (state_of c.args.state.now) (state_of c.taken-told.new.state) c.args.event c.args.seat c.args.done
    (reply_of c.taken-told.result) c.requires.kept (λ goes. c.taken-told.ensures.follows)
