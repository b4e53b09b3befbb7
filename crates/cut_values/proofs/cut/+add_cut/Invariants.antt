use Rattle.std.proofs.Common.{◌≡◌, ◌++◌, string_bytes}
use Rattle.cut_values.proofs.Cutting.{from_place}
use Rattle.cut_values.proofs.cut.+add_cut.Given as goal

-- the text so far with the items from the place on
abbrev pub invariant-loop-place : goal.invariant-loop-place
invariant-loop-place l = string_bytes l.text ++ from_place l.item-items l.place ≡ string_bytes l.initial.text ++ from_place l.item-items 0
