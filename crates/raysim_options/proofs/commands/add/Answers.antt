use Rattle.std.proofs.Common.{◌∙◌, ◌||◌, ap₂}
use Rattle.std.proofs.lemmas.Result.{IfOk-weaker}
use Rattle.clap.specs.Words.{AddsArg}
use Rattle.clap.specs.declared.builder.command.Command.{Command}
use Rattle.raysim_options.proofs.commands.add.Goals as goal

pub returns-clause-app : goal.returns-clause-app
returns-clause-app c = IfOk-weaker c.arg.result _ _ (λ (m : Command) (adds : AddsArg c.args.command c.args.arg m). adds.shape c.requires.one) c.arg.ensures

pub returns-clause-local : goal.returns-clause-local
returns-clause-local c =
    IfOk-weaker c.arg.result _ _ (λ (m : Command) (adds : AddsArg c.args.command c.args.arg m). adds.globals ∙ ap₂ (λ x y. x || y) c.requires.none c.requires.one)
    c.arg.ensures
