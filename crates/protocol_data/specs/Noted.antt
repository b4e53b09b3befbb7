-- An index that tells what was surely never noted: of each owner, an object that none noted comes behind.
use Rattle.std.specs.Prelude.{Bool, List, None, Option, Some, [], false, nat_lt, not, ℕ, ◌&&◌, ◌==◌, ◌∷◌, ◌≡◌, true}
use Rattle.std.specs.List.{list_any}
use Rattle.meaning.specs.Values.{Id}
use Rattle.event_log.specs.Entries.{Attempt}
use Rattle.event_log.specs.Words.{same_attempt}
use Rattle.protocol_data.specs.declared.node.AskKey.{AskKey}
use Rattle.protocol_data.specs.declared.node.Asked.{Asked}

-- the number, or 0 where there is none
abbrev pub serial_or : Option ℕ → ℕ
serial_or None = 0
serial_or (Some n) = n

-- the object is of the bound's owner, and doesn't come behind it
abbrev pub bounds : Id → Id → Bool
bounds o b = (b.owner == o.owner) && not (nat_lt b.serial o.serial)

-- the object may have been noted: there is a bound that it doesn't pass
abbrev pub may_be_noted : List Id → Id → Bool
may_be_noted all o = list_any (bounds o) all

-- it is that ask
abbrev pub is_that_ask : AskKey → Asked → Bool
is_that_ask k r = same_attempt r.key.attempt k.attempt && (r.key.hops == k.hops)

-- no ask stands twice
abbrev pub AreDistinct : List Asked → Type 0
AreDistinct [] = Unit {0}
AreDistinct (x ∷ xs) = (list_any (is_that_ask x.key) xs ≡ false) × AreDistinct xs

-- each attempt's object may have been noted
abbrev pub AreBounded : List Id → List Attempt → Type 0
AreBounded all [] = Unit {0}
AreBounded all (a ∷ rest) = (may_be_noted all a.object ≡ true) × AreBounded all rest
