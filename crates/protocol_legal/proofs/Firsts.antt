-- The first object of a birth.
use Rattle.std.proofs.Common.{◌≡◌, List, Some}
use Rattle.meaning.specs.Values.{Birth, Id}
use Rattle.meaning.specs.Births.{Bearing, birth_at, part_of, part_at, AreGrouped}
use Rattle.meaning.proofs.BirthLaws.{first_is_made}

-- is one of its parts
pub first_part : (bs : List Bearing) (o : Id) (b : Birth) → AreGrouped bs → birth_at bs o ≡ Some b → part_at bs o ≡ Some (part_of (record { object = o; birth = b }) o)
first_part bs o b grouped e = grouped.whole o o b e (first_is_made (record { object = o; birth = b }))
