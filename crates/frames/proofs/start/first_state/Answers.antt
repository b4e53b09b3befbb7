use Rattle.std.proofs.Common.{map, ap}
use Rattle.std.specs.Prelude.{reverse}
use Rattle.frame_code.specs.Views.{code_of}
use Rattle.frames.specs.Values.{value_of}
use Rattle.frames.specs.Machines.{caller_of}
use Rattle.frames.proofs.Starting.{task_starts}
use Rattle.frames.proofs.start.first_state.Goals as goal

pub returns : goal.returns
returns c script g f same numbered count =
    task_starts script g f (code_of c.args.code.now) same c.args.function c.task_entry-pc.result c.args.arguments.now
    (map value_of c.in_ok-registers.registers.items) (reverse (map caller_of c.new.result.items)) numbered count c.task_entry-pc.ensures
    c.in_ok-registers.ensures (ap (λ cs. reverse (map caller_of cs)) c.new.ensures.items)
