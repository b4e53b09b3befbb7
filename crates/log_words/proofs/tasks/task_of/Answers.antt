use Rattle.std.proofs.Common.{sym, ◌∙◌}
use Rattle.log_words.proofs.Making.{born_stands, main_stands, unborn_stands}
use Rattle.log_words.proofs.tasks.task_of.Goals as goal

pub returns-then-is_main : goal.returns-then-is_main
returns-then-is_main c = main_stands c.args.log.now c.args.object (sym c.is_main.ensures ∙ c.if-is_main.true)

pub returns-in-Some : goal.returns-in-Some
returns-in-Some c =
    born_stands c.args.log.now c.args.object c.in-Some.task c.born_with.result (sym c.is_main.ensures ∙ c.if-is_main.false) c.born_with.ensures c.in-Some.is

pub returns-in-None : goal.returns-in-None
returns-in-None c =
    unborn_stands c.args.log.now c.args.object c.born_with.result (sym c.is_main.ensures ∙ c.if-is_main.false) c.born_with.ensures c.in-None.is
