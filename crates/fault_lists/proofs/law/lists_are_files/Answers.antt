use Rattle.fault_lists.proofs.Files.{list_is_file}
use Rattle.fault_lists.proofs.law.lists_are_files.Goals as goal

pub returns : goal.returns
returns c events t h k = list_is_file events t h k
