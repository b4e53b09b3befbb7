-- A run that begins is in the first state of its cluster.
use Rattle.std.proofs.Common.{◌≡◌, subst}
use Rattle.meaning.specs.Syntax.{Script}
use Rattle.run_paths.specs.of_protocol_board.Cores.{IsReachedRun, RunState, Size, first_state}
use Rattle.run_paths.specs.Paths.{Comes, NoneCame, NoneLead}
use Rattle.seats.specs.Counted.{IsFresh}
use Rattle.seats.specs.Ends.{size_of}

pub fresh_came : NoneCame → NoneLead → (script : Script) (size : Size) (r : RunState) → IsReachedRun script r → IsFresh r → size_of r ≡ size →
    Comes script (first_state size.nodes size.slots) r
fresh_came none_came none_lead script size r reached fresh sized =
    subst (λ (z : Size). Comes script (first_state z.nodes z.slots) r) sized
    (subst (λ first. Comes script first r) (none_came script r reached fresh.0 fresh.2) (none_lead script r))
