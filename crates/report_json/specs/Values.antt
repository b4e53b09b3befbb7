-- Values as JSON: a number, an array, or a string for a reference.
use Rattle.serde_json.specs.Data.{Data, null, number, string, array, Items, no_items, item}
use Rattle.serde_json.specs.Find.{of_integer}
use Rattle.meaning.specs.Values.{Value, Int, Items as AList, Named, Known, Values, none, more, Id}
use Rattle.report.specs.ValueTexts.{id_text}

-- "o1.2"
abbrev pub id_data : Id → Data
id_data o = string (id_text o)

abbrev mutual
  -- a number, a list as an array, a reference as its object's id; no run in pieces has the last
  pub value_data : Value → Data
  value_data (Int n) = number (of_integer n)
  value_data (AList vs) = array (values_data vs)
  value_data (Named o) = id_data o
  value_data (Known c) = null

  pub values_data : Values → Items
  values_data none = no_items
  values_data (more v vs) = item (value_data v) (values_data vs)
