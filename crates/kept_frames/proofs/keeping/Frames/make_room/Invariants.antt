use Rattle.kept_frames.specs.Known.{KeepsOnly}
use Rattle.kept_frames.proofs.keeping.Frames.make_room.Given as goal

-- what is kept was kept before
abbrev pub invariant-loop : goal.invariant-loop
invariant-loop g l = KeepsOnly l.fn.self l.self-inside.waiting.items
