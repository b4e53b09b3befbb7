use Rattle.std.proofs.Common.{◌∙◌, ap, true}
use Rattle.clap.specs.Simple.{app_of_fields}
use Rattle.clap.specs.Words.{App}
use Rattle.clap.specs.declared.builder.command.Command.{Command}
use Rattle.clap.specs.declared.builder.command.Command.TheOpen.{Command-F}
use Rattle.raysim_options.proofs.commands.top.Goals as goal

abbrev with_settings : App → App
with_settings a = record a { top = record a.top { has_version = true; subcommand_required = true } }

pub returns : goal.returns
returns c =
    ap app_of_fields c.subcommand_required.ensures
    ∙ (ap (λ (f : Command-F Command). app_of_fields (record f { subcommand_required = true })) c.version.ensures
    ∙ ap with_settings (ap app_of_fields c.about.ensures ∙ c.new.ensures.app))
