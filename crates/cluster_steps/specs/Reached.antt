-- What a message does to the node that it reaches.
use Rattle.std.specs.Prelude.{Option, Some, None}
use Rattle.contexts.specs.of_protocol.Messages.{Envelope}
use Rattle.contexts.specs.of_protocol.Nodes.{NodeContext}
use Rattle.contexts.specs.of_protocol.Slots.{node_reached}

-- a message, if there is one, reaches it
abbrev pub node_received : NodeContext → Option Envelope → NodeContext
node_received h None = h
node_received h (Some l) = node_reached h l.sender l.message
