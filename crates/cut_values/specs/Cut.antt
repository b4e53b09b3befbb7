-- The texts of values whose long lists are cut.
use Rattle.std.specs.Prelude.{ℕ, suc, ◌-◌, ◌/◌, ◌%◌, Bool, ◌&&◌, ◌==◌, nat_lt, if◌then◌else◌, List, [], ◌++◌, codes}
use Rattle.std.specs.Fmt.{decimal, signed_decimal}
use Rattle.meaning.specs.Values.{Value, Int, Items, Named, Known, Values, none, more, count}
use Rattle.report.specs.ValueTexts.{id_text, separator}

-- of a list with more than eight items those from the fourth on are left out
unfoldable pub is_cut : ℕ → ℕ → Bool
is_cut all place = nat_lt 8 all && (place == 3)

-- with a comma before the last three digits, as 1,997; no list has a million items
unfoldable pub count_text : ℕ → List ℕ
count_text n =
    if nat_lt n 1000 then decimal n
    else decimal (n / 1000) ++ (codes "," ++ (decimal ((n / 100) % 10) ++ (decimal ((n / 10) % 10) ++ decimal (n % 10))))

-- how many items are left out, and the end of their list
unfoldable pub left_text : ℕ → List ℕ
left_text n = codes ", .. " ++ (count_text n ++ codes " items]")

abbrev mutual
  -- as in a report, but for long lists: [0, 37, 74, .. 1,997 items]
  pub cut_text : Value → List ℕ
  cut_text (Int n) = signed_decimal n
  cut_text (Items vs) = codes "[" ++ items_text (count vs) 0 vs
  cut_text (Named o) = id_text o
  cut_text (Known c) = []

  -- the items from a place on, in a list of so many, and its end
  pub items_text : ℕ → ℕ → Values → List ℕ
  items_text all place none = codes "]"
  items_text all place (more v vs) =
      if is_cut all place then left_text (all - place) else separator place ++ (cut_text v ++ items_text all (suc place) vs)
