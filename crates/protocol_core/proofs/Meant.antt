-- A legal log is meant.
use Rattle.meaning.specs.Syntax.{Script}
use Rattle.meaning_laws.specs.Law.{LegalLogsReadAsSerial, MainBeginsTheSerialRun}
use Rattle.protocol_core.specs.States.{IsLegalRun, IsReachedRun, RunState, beside}
use Rattle.protocol_core.specs.Meant.{IsSoundLog}

pub meant : (script : Script) (c : RunState) → LegalLogsReadAsSerial → MainBeginsTheSerialRun → IsLegalRun script c → IsReachedRun script c → IsSoundLog script c
meant script c reads begins h reached =
    let setting = beside script c.first_nodes h.some.0 in
    record { legal = h; reached = reached; reads = reads setting c.log h.some.1; begins = begins setting c.log h.some.1 }
