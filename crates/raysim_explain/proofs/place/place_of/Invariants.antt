use Rattle.std.proofs.Common.{◌-◌, ◌+◌, ◌≡◌, ◌≤◌, length}
use Rattle.raysim_explain.specs.Places.{place_in}
use Rattle.raysim_explain.proofs.place.place_of.Given as goal

-- line and column are those of the bytes so far, and stay within their types
abbrev pub invariant-loop-i : goal.invariant-loop-i
invariant-loop-i l =
    (l.i ≤ l.at) × (l.i ≤ length l.text) × (l.place ≡ place_in l.text l.i) × (l.place.line ≤ l.i + 1) × (l.place.start + l.place.column ≡ l.i + 1)
    × (1 ≤ l.place.column)

abbrev pub decreases-loop-i : goal.decreases-loop-i
decreases-loop-i l = l.at - l.i
