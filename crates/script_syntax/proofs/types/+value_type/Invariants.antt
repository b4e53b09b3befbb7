use Rattle.script_syntax.proofs.types.+value_type.Given as goal

abbrev pub decreases-value_type : goal.decreases-value_type
decreases-value_type l = l.levels
