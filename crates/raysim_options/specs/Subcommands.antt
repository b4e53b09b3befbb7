-- What the tables of subcommands and their parameters are to `clap`.
use Rattle.std.specs.Prelude.{List}
use Rattle.std.specs.List.{fold}
use Rattle.clap.specs.Words.{App, Rule, Text, new_app, with_rule, with_subcommand}
use Rattle.raysim_options.specs.App.{flag, needed, needed_text, number, optional, required_app, text}
use Rattle.raysim_options.specs.declared.subcommands.Kind.{Kind}
use Rattle.raysim_options.specs.declared.subcommands.Kind.TheVariants.{Needed, Optional, Flag, Number, Worded, NeededWorded}
use Rattle.raysim_options.specs.declared.subcommands.Parameter.{Parameter}
use Rattle.raysim_options.specs.declared.subcommands.Subcommand.{Subcommand}

abbrev pub rule_of_kind : Kind → Text → Rule
rule_of_kind Needed id = needed id
rule_of_kind Optional id = optional id
rule_of_kind Flag id = flag id
rule_of_kind (Number most) id = number id most
rule_of_kind (Worded value) id = text id
rule_of_kind (NeededWorded value) id = needed_text id

abbrev pub rule_for : Parameter → Rule
rule_for p = rule_of_kind p.kind p.id.now

-- a command with one more parameter
abbrev pub with_parameter : App → Parameter → App
with_parameter a p = with_rule a (rule_for p)

-- a subcommand with its parameters
abbrev pub subcommand_app : Subcommand → App
subcommand_app s = fold with_parameter (new_app s.name.now) s.parameters.now

-- a command with one more subcommand
abbrev pub with_entry : App → Subcommand → App
with_entry a s = with_subcommand a (subcommand_app s).top

-- raysim with these subcommands
abbrev pub table_app : List Subcommand → App
table_app ss = fold with_entry required_app ss
