use Rattle.std.proofs.Common.{◌≤◌, List, ap, arith, length, subst}
use Rattle.std.proofs.lemmas.Bool.Decides.{nat_tests}
use mathlib.Core.List.{IsPrefix}
use Rattle.log_entries.specs.declared.entry.Entry.{Entry}
use Rattle.shared_log.proofs.Prefixes.{prefix_shorter}
use Rattle.shared_log.proofs.prefix.LogPrefix.begins.Goals as goal

pub returns-clause-begins : goal.returns-clause-begins
returns-clause-begins g c is =
    let both = c.learn.new.self.log in
    let this : IsPrefix c.self.inside.seen.log both = subst (λ (l : List Entry). IsPrefix l both) (ap (λ s. s.log) c.again-both.ensures) c.learn.ensures.2 in
    let few : c.self.inside.entries ≤ c.other.inside.entries = grind (arith, nat_tests) in
    let less : length c.self.inside.seen.log ≤ length c.other.inside.seen.log = omega (arith, few, c.self.invariant.0, c.other.invariant.0) in
    rw (← c.self.view_is, ← c.other.view_is) (prefix_shorter c.self.inside.seen.log c.other.inside.seen.log both this c.learn.ensures.3 less)
