-- An object that is lent to be changed.
use Rattle.std.specs.Prelude.{List, slice_set, ℕ}
use Rattle.std.specs.Borrow.{Fml, Lends, MutBor}
use Rattle.protocol_data.specs.declared.tables.Object.{Object}
use Rattle.protocol_data.specs.contracts.tables.Object as objects
use Rattle.protocol_data.specs.contracts.objects.Objects as lists

-- the list ends with that object as it was left
abbrev pub LendsRow : MutBor (List Object) → ℕ → MutBor Object → Fml
LendsRow xs i x = Lends lists.the_row objects.the_row xs x (slice_set xs.now i)
