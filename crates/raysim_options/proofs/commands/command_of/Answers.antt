use Rattle.std.proofs.Common.{◌∙◌, ap}
use Rattle.std.specs.List.{fold}
use Rattle.clap.specs.Simple.{app_of_fields}
use Rattle.clap.specs.Words.{app_of, with_rule}
use Rattle.raysim_options.specs.Subcommands.{with_parameter}
use Rattle.raysim_options.proofs.Folds.{fold_rest}
use Rattle.raysim_options.proofs.commands.command_of.Goals as goal

pub loop-rest-init : goal.loop-rest-init
loop-rest-init c = record {
  app = ap (λ a. fold with_parameter a c.args.subcommand.now.parameters.now) (ap app_of_fields c.about-command.ensures ∙ c.new.ensures.app);
  local = ap (λ f. f.has_globals) c.about-command.ensures ∙ c.new.ensures.local;
}

pub loop-rest-preserved : goal.loop-rest-preserved
loop-rest-preserved c =
    let before = app_of c.loop-rest.command in record {
      app = fold_rest with_parameter before _ _ c.loop-rest.rest.now _ c.in-len1-up.len_at_least
          (c.in_ok-command.ensures.app ∙ ap (with_rule before) c.arg.ensures.rule) c.loop-rest.invariant.app;
      local = c.in_ok-command.ensures.local;
    }
