-- Faults, as the definitions have them.
use Rattle.ids.specs.of_meaning.Values.{Id}
use Rattle.values.specs.declared.fault.FaultKind.{FaultKind}

-- why an object has no content, and the object in which the fault began
pub record Fault : Type 0 where
  pub kind : FaultKind
  pub object : Id
