use Rattle.std.proofs.Common.{◌≡◌, ◌++◌, drop, map, take}
use Rattle.protocol.specs.Tables.{without_location}
use Rattle.death_steps.proofs.node_deaths.lose_locations_of.Given as goal

-- the objects before the place have lost the node, and those from it on stand as they were
abbrev pub invariant-loop-place : goal.invariant-loop-place
invariant-loop-place l =
    l.objects ≡ map (without_location l.node) (take l.place l.initial.objects) ++ drop l.place l.initial.objects
