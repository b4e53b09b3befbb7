use Rattle.std.proofs.Common.{◌≡◌, ◌≤◌, ◌-◌, length, drop}
use Rattle.frame_laws.specs.Compile.{place_in}
use Rattle.frame_code.specs.Views.{names_of}
use Rattle.frame_code.proofs.Places.{further}
use Rattle.frame_code.proofs.names.place_in.Given as goal

-- the name stands at no place so far
abbrev pub invariant-loop-place : goal.invariant-loop-place
invariant-loop-place l = record {
  within : l.place ≤ length l.names;
  left : further l.place (place_in (names_of (drop l.place l.names)) l.name) ≡ place_in (names_of l.names) l.name;
}

abbrev pub decreases-loop-place : goal.decreases-loop-place
decreases-loop-place l = length l.names - l.place
