use Rattle.std.proofs.Common.{◌≡◌, ◌≤◌, ◌-◌, ◌++◌, map}
use Rattle.meaning.specs.Values.{Named}
use Rattle.meaning.specs.Runs.{ids_from, past}
use Rattle.frames.specs.Values.{value_of}
use Rattle.frames.proofs.course.name_from.Given as goal

-- those that are named, and those that are left
abbrev pub invariant-loop : goal.invariant-loop
invariant-loop l = record {
  within : l.counter ≤ l.count;
  named : map value_of l.references.items ++ map Named (ids_from l.behind (l.count - l.counter)) ≡ map Named (ids_from l.fn.first l.count);
  behind : l.behind ≡ past l.fn.first l.counter;
}
