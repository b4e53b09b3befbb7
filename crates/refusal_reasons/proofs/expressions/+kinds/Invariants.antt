use Rattle.std.proofs.Common.{◌+◌, ◌*◌}
use Rattle.refusal_reasons.proofs.expressions.+kinds.Given as goal

abbrev pub decreases-kind_of : goal.decreases-kind_of
decreases-kind_of l = 3 * l.levels

abbrev pub decreases-kind_met : goal.decreases-kind_met
decreases-kind_met l = 3 * l.levels + 1

abbrev pub decreases-prefixed : goal.decreases-prefixed
decreases-prefixed l = 3 * l.levels + 2

abbrev pub decreases-list_kind : goal.decreases-list_kind
decreases-list_kind l = 3 * l.levels + 1

abbrev pub decreases-check_arguments : goal.decreases-check_arguments
decreases-check_arguments l = 3 * l.levels + 1

abbrev pub decreases-check_marked : goal.decreases-check_marked
decreases-check_marked l = 3 * l.levels + 1
