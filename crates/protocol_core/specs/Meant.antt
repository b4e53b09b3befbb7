-- What the log of a run means.
use Rattle.meaning.specs.Syntax.{Script}
use Rattle.event_log.specs.Serial.{ReadsAsSerial, MainBegins}
use Rattle.protocol_core.specs.States.{IsLegalRun, IsReachedRun, RunState}

-- of a run of the script
pub record IsSoundLog (script : Script) (c : RunState) : Type 0 where
  -- each entry of its log has what it needs before it, beside the messages that were sent
  pub legal : IsLegalRun script c
  -- from the run's beginning on, events led to that log, and to the workers, nodes and messages, unless an event found no memory
  pub reached : IsReachedRun script c
  -- what every attempt was answered and has printed begins the serial run of its own call
  pub reads : ReadsAsSerial script c.log
  -- what main was answered and has printed begins the run of the script in which every remote call is a plain call
  pub begins : MainBegins script c.log
