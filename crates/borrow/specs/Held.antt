-- When one object holds another: it was added as a holder, and not removed.
use Rattle.std.specs.Prelude.{Bool, not, ◌&&◌}
use Rattle.meaning.specs.Values.{Id}
use Rattle.protocol.specs.Sets.{has_id}
use Rattle.protocol.specs.Tables.{Object}

-- e was added and not removed
abbrev pub holds : Object → Id → Bool
holds x e = has_id x.added e && not (has_id x.removed e)
