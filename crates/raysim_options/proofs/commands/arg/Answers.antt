use Rattle.std.proofs.Common.{rules, ◌≡◌, ◌∙◌, ap, sym, Bool, true, pos, Some}
use Rattle.clap.specs.Words.{Rule, Text, new_rule, rule_of}
use Rattle.clap.specs.declared.builder.ArgAction.TheVariants.{SetTrue}
use Rattle.clap.specs.declared.builder.arg.Arg.{Arg}
use Rattle.clap.specs.declared.builder.value_parser.ValueParser.TheVariants.{Signed}
use Rattle.raysim_options.specs.Subcommands.{rule_of_kind}
use Rattle.raysim_options.proofs.commands.arg.Goals as goal

abbrev is_global : Arg → Bool
is_global a = a.global

abbrev with_long : Text → Rule → Rule
with_long id r = record r { long = Some id }

abbrev with_value : Rule → Rule
with_value r = record r { value_names = 1 }

abbrev with_need : Rule → Rule
with_need r = record r { required = true }

-- of each kind of parameter: the word or option that is made for it is the rule that the definitions have
pub returns-in-Needed : goal.returns-in-Needed
returns-in-Needed c =
    let id = c.args.parameter.now.id.now in
    let start : rule_of c.help-arg.result ≡ new_rule id = ap rule_of c.help-arg.ensures ∙ c.new.ensures.rule in record {
      rule = ap rule_of c.required.ensures ∙ (ap with_need start ∙ sym (ap (λ k. rule_of_kind k id) c.in-Needed.is));
      local = ap is_global c.required.ensures ∙ (ap is_global c.help-arg.ensures ∙ c.new.ensures.optional.1);
    }

pub returns-in-Optional : goal.returns-in-Optional
returns-in-Optional c =
    let id = c.args.parameter.now.id.now in
    let start : rule_of c.help-arg.result ≡ new_rule id = ap rule_of c.help-arg.ensures ∙ c.new.ensures.rule in record {
      rule = start ∙ sym (ap (λ k. rule_of_kind k id) c.in-Optional.is);
      local = ap is_global c.help-arg.ensures ∙ c.new.ensures.optional.1;
    }

pub returns-in-Flag : goal.returns-in-Flag
returns-in-Flag c =
    let id = c.args.parameter.now.id.now in
    let start : rule_of c.help-arg.result ≡ new_rule id = ap rule_of c.help-arg.ensures ∙ c.new.ensures.rule in
    let named : rule_of c.long.result ≡ with_long id (new_rule id) = ap rule_of c.long.ensures ∙ ap (with_long id) start in record {
      rule = ap rule_of c.action.ensures ∙ (ap (λ (r : Rule). record r { action = Some SetTrue }) named ∙ sym (ap (λ k. rule_of_kind k id) c.in-Flag.is));
      local = ap is_global c.action.ensures ∙ (ap is_global c.long.ensures ∙ (ap is_global c.help-arg.ensures ∙ c.new.ensures.optional.1));
    }

pub returns-in-Number : goal.returns-in-Number
returns-in-Number c =
    let id = c.args.parameter.now.id.now in
    let start : rule_of c.help-arg.result ≡ new_rule id = ap rule_of c.help-arg.ensures ∙ c.new.ensures.rule in
    let named : rule_of c.long-in-Number.result ≡ with_long id (new_rule id) = ap rule_of c.long-in-Number.ensures ∙ ap (with_long id) start in
    let valued : rule_of c.value_name.result ≡ with_value (with_long id (new_rule id)) = ap rule_of c.value_name.ensures ∙ ap with_value named in
    let parser : c.value_parser.result.value_parser ≡ Some (Signed (pos 1) (pos c.in-Number.most)) = search rules in record {
      rule = ap rule_of c.value_parser.ensures.others ∙ (ap (λ p. record (rule_of c.value_name.result) { parser = p }) parser
          ∙ (ap (λ (r : Rule). record r { parser = Some (Signed (pos 1) (pos c.in-Number.most)) }) valued ∙ sym (ap (λ k. rule_of_kind k id) c.in-Number.is)));
      local = ap is_global c.value_parser.ensures.others
          ∙ (ap is_global c.value_name.ensures ∙ (ap is_global c.long-in-Number.ensures ∙ (ap is_global c.help-arg.ensures ∙ c.new.ensures.optional.1)));
    }

pub returns-in-Worded : goal.returns-in-Worded
returns-in-Worded c =
    let id = c.args.parameter.now.id.now in
    let start : rule_of c.help-arg.result ≡ new_rule id = ap rule_of c.help-arg.ensures ∙ c.new.ensures.rule in
    let named : rule_of c.long-in-Worded.result ≡ with_long id (new_rule id) = ap rule_of c.long-in-Worded.ensures ∙ ap (with_long id) start in record {
      rule = ap rule_of c.value_name-in-Worded.ensures ∙ (ap with_value named ∙ sym (ap (λ k. rule_of_kind k id) c.in-Worded.is));
      local = ap is_global c.value_name-in-Worded.ensures
          ∙ (ap is_global c.long-in-Worded.ensures ∙ (ap is_global c.help-arg.ensures ∙ c.new.ensures.optional.1));
    }

pub returns-in-NeededWorded : goal.returns-in-NeededWorded
returns-in-NeededWorded c =
    let id = c.args.parameter.now.id.now in
    let start : rule_of c.help-arg.result ≡ new_rule id = ap rule_of c.help-arg.ensures ∙ c.new.ensures.rule in
    let named : rule_of c.long-in-NeededWorded.result ≡ with_long id (new_rule id) = ap rule_of c.long-in-NeededWorded.ensures ∙ ap (with_long id) start in
    let valued : rule_of c.value_name-in-NeededWorded.result ≡ with_value (with_long id (new_rule id)) =
    ap rule_of c.value_name-in-NeededWorded.ensures ∙ ap with_value named in record {
      rule = ap rule_of c.required-in-NeededWorded.ensures ∙ (ap with_need valued ∙ sym (ap (λ k. rule_of_kind k id) c.in-NeededWorded.is));
      local = ap is_global c.required-in-NeededWorded.ensures
          ∙ (ap is_global c.value_name-in-NeededWorded.ensures
          ∙ (ap is_global c.long-in-NeededWorded.ensures ∙ (ap is_global c.help-arg.ensures ∙ c.new.ensures.optional.1)));
    }
