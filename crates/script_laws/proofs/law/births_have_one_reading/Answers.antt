use Rattle.script_laws.proofs.Dens.{den_is_the_reading}
use Rattle.script_laws.proofs.law.births_have_one_reading.Goals as goal

pub returns : goal.returns
returns c = den_is_the_reading
