-- What the code's states stand for.
use Rattle.protocol_core.specs.declared.state.State.{State}
use Rattle.protocol_core.specs.States.{RunState}

abbrev pub state_of : State → RunState
state_of c = record { log = c.log; whole = c.whole; first_nodes = c.first_nodes; is_halted = c.is_halted }
