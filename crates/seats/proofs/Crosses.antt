-- A run may go to another thread, and a shared run and a checked script may be seen by several: type by type, from what they are made of, since one search
-- through all of them is too long.
use denote.RattleType.{RattleType}
use denote.Param.Send.{IsSend, IsSync, sendable}
use denote.Param.SendFields.{as_row_send, declared_send}
use Rattle.std.proofs.Crossing.{crosses}
use Rattle.std.proofs.MapsCrossing as maps
use Rattle.std.proofs.marker.PhantomData.TheSendSync as phantom
use Rattle.std.specs.declared.sync.ledger.Ledger as ledger
use Rattle.sequence.specs.contracts.Seq as Seq
use Rattle.values.proofs.value.RunValue.TheLaws.TheKnot as value
use Rattle.held.specs.contracts.births.Births as Births
use Rattle.held.specs.contracts.content.SharedContent as SharedContent
use Rattle.held.specs.contracts.prints.Prints as Prints
use Rattle.held.specs.contracts.shared_birth.SharedBirth as SharedBirth
use Rattle.held.specs.contracts.printed.Printed as Printed
use Rattle.ids.specs.contracts.node.NodeId as NodeId
use Rattle.ids.specs.contracts.object.ObjectId as ObjectId
use Rattle.ids.proofs.attempt.AttemptId.TheSendSync as attempt
use Rattle.ids.proofs.node.NodeId.TheSendSync as node
use Rattle.ids.proofs.object.ObjectId.TheSendSync as object
use Rattle.ids.proofs.worker.WorkerId.TheSendSync as worker
use Rattle.values.proofs.fault.Fault.TheSendSync as fault
use Rattle.log_entries.specs.contracts.entry.Entry as Entry
use Rattle.event_files.specs.contracts.plan.PlanLine as PlanLine
use Rattle.script_syntax.proofs.tree.ValueType.TheLaws.TheKnot as kinds
use Rattle.script_check.proofs.tree.CheckedExpr.TheLaws.TheKnot as exprs
use Rattle.script_check.proofs.tree.CheckedStatement.TheLaws.TheKnot as statements
use Rattle.script_check.specs.contracts.checked.Checked as Checked
use Rattle.frame_code.specs.contracts.instruction.Code as Code
use Rattle.frame_code.specs.contracts.instruction.Instruction as Instruction
use Rattle.frame_code.specs.contracts.instruction.Spawn as Spawn
use Rattle.frames.specs.contracts.compiled.Compiled as Compiled
use Rattle.segment.specs.declared.script_name.ScriptName as script_name
use Rattle.protocol_data.proofs.message.Endpoint.TheSendSync as endpoint
use Rattle.lru.proofs.Crosses.{Deed-send, KeyRef-send, List-send}
use Rattle.protocol_data.specs.contracts.message.Envelope as Envelope
use Rattle.protocol_data.specs.contracts.objects.Objects as Objects
use Rattle.protocol_data.specs.contracts.secondaries.CopyKey as CopyKey
use Rattle.protocol_data.specs.contracts.secondaries.Secondaries as Secondaries
use Rattle.protocol_data.specs.contracts.tables.Object as Object
use Rattle.protocol_data.specs.contracts.message.Message as Message
use Rattle.protocol_data.specs.contracts.node.Node as Node
use Rattle.protocol_data.specs.contracts.tables.Worker as Worker
use Rattle.protocol_data.specs.contracts.tables.WorkerContext as WorkerContext
use Rattle.protocol_data.specs.contracts.cluster_state.ClusterState as ClusterState
use Rattle.run_paths.specs.of_protocol_board.Cores.Core as Core
use Rattle.run_paths.specs.of_protocol_board.contracts.board.Board as Board
use Rattle.seat_books.proofs.ledgers.Ledgers.TheSendSync as ledgers
use Rattle.seat_books.specs.contracts.ledgers.Ledgers as Ledgers
use Rattle.seat_books.specs.declared.watching.Watching as watching
use Rattle.seats.specs.contracts.outs.JobOut as JobOut
use Rattle.job_tickets.specs.declared.name.TicketName as ticket_name
use Rattle.job_tickets.proofs.tickets.Tickets.TheSendSync as tickets
use Rattle.shared_log.specs.declared.name.LogName as log_name
use Rattle.seats.specs.declared.run_name.RunName as run_name
use Rattle.seats.specs.contracts.seen_turning.SeenTurning as SeenTurning
use Rattle.seats.specs.contracts.turning.Turning as Turning
use Rattle.seats.specs.contracts.seen_log.SeenLog as SeenLog
use Rattle.seats.proofs.seen_log.SeenLog.TheSendSync as seen_log
use Rattle.seats.specs.contracts.shared.Locked as Locked
use Rattle.seats.specs.contracts.shared.Shared as Shared

pub checked_sync : IsSync Checked.the_row
checked_sync = search (exprs.crosses, statements.crosses, kinds.crosses, crosses, sendable) depth 60 fits 20000

spawn_sync : IsSync Spawn.the_field.row
spawn_sync = search (crosses, sendable) depth 60 fits 20000

instruction_sync : IsSync Instruction.the_field.row
instruction_sync = search (spawn_sync, crosses, sendable) depth 60 fits 20000

code_sync : IsSync Code.the_field.row
code_sync = search (instruction_sync, crosses, sendable) depth 60 fits 20000

-- a script with its code
pub compiled_sync : IsSync Compiled.the_row
compiled_sync = search (checked_sync, code_sync, crosses, sendable) depth 60 fits 20000

content_send : IsSend SharedContent.the_row
content_send = search (value.crosses, crosses, sendable) depth 60 fits 20000

birth_send : IsSend SharedBirth.the_row
birth_send = search (value.crosses, crosses, sendable) depth 60 fits 20000

printed_send : IsSend Printed.the_row
printed_send = search (value.crosses, crosses, sendable) depth 60 fits 20000

births_send : IsSend Births.the_row
births_send = search (value.crosses, crosses, sendable) depth 60 fits 20000

prints_send : IsSend Prints.the_row
prints_send = search (value.crosses, crosses, sendable) depth 60 fits 20000

key_send : IsSend CopyKey.the_row
key_send = search (object.the_send, crosses, sendable) depth 60 fits 20000

key_sync : IsSync CopyKey.the_row
key_sync = search (object.the_sync, crosses, sendable) depth 60 fits 20000

secondaries_send : IsSend Secondaries.the_field.row
secondaries_send = search (content_send, key_send, key_sync, Deed-send, KeyRef-send, List-send, maps.crosses, crosses, sendable) depth 60 fits 20000

table_row_send : IsSend Object.the_row
table_row_send = search (
  content_send,
  birth_send,
  object.the_send,
  node.the_send,
  worker.the_send,
  attempt.the_send,
  fault.the_send,
  value.crosses,
  crosses,
  sendable,
) depth 60 fits 20000

table_send : IsSend Objects.the_field.row
table_send = search (table_row_send, attempt.the_send, crosses, sendable) depth 60 fits 20000

node_send : IsSend Node.the_field.row
node_send = search (content_send, secondaries_send, value.crosses, crosses, sendable) depth 60 fits 20000

worker_send : IsSend Worker.the_field.row
worker_send = search (births_send, prints_send, content_send, birth_send, table_send, value.crosses, crosses, sendable) depth 60 fits 20000

objects_send : IsSend (Seq.the_row ObjectId.the_row)
objects_send = search (object.the_send, crosses, sendable) depth 60 fits 20000

nodes_send : IsSend (Seq.the_row NodeId.the_row)
nodes_send = search (node.the_send, crosses, sendable) depth 60 fits 20000

message_send : IsSend Message.the_field.row
message_send = search (
  content_send,
  birth_send,
  objects_send,
  nodes_send,
  attempt.the_send,
  object.the_send,
  node.the_send,
  worker.the_send,
  fault.the_send,
  crosses,
  sendable,
) depth 60 fits 20000

envelope_send : IsSend Envelope.the_field.row
envelope_send = search (message_send, endpoint.the_field_send, crosses, sendable) depth 60 fits 20000

cluster_send : IsSend ClusterState.the_field.row
cluster_send = search (node_send, worker_send, envelope_send, crosses, sendable) depth 60 fits 20000

entry_send : IsSend Entry.the_field.row
entry_send = search (
  content_send,
  birth_send,
  printed_send,
  object.the_send,
  node.the_send,
  worker.the_send,
  attempt.the_send,
  fault.the_send,
  crosses,
  sendable,
) depth 60 fits 20000

context_send : IsSend WorkerContext.the_field.row
context_send = search (node_send, worker_send, envelope_send, entry_send, node.the_send, worker.the_send, crosses, sendable) depth 60 fits 20000

lines_send : IsSend (Seq.the_row PlanLine.the_row)
lines_send = search (crosses, sendable) depth 60 fits 20000

outs_send : IsSend (Seq.the_row JobOut.the_row)
outs_send = search (crosses, sendable) depth 60 fits 20000

module _ (S : RattleType) (n : script_name.Ghosts S.Denot) (s : IsSend S) where
  core_send : IsSend (Core.the_row S n)
  core_send = search (cluster_send, context_send, entry_send, phantom.the_field_send, crosses, sendable) depth 60 fits 20000

  board_send : IsSend (Board.the_row S n)
  board_send = search (core_send, crosses, sendable) depth 60 fits 20000

  module _ (P : RattleType) (m : run_name.Ghosts P.Denot) (w : watching.Ghosts P.Denot) (l : log_name.Ghosts P.Denot) (t : ticket_name.Ghosts P.Denot)
      (p : IsSend P) where
    turning_send : IsSend (Turning.the_row S P n m w l t)
    turning_send = search (board_send, lines_send, outs_send, phantom.the_field_send, crosses, sendable) depth 60 fits 20000

    seen_log_send : IsSend (SeenLog.the_field P l).row
    seen_log_send = seen_log.the_field_send P l

    seen_send : IsSend (SeenTurning.the_row S P l n m w t)
    seen_send = search (turning_send, seen_log_send, tickets.the_send, crosses, sendable) depth 60 fits 20000

    module _ (E G C J V H D M : RattleType) (e : ledger.Ghosts E.Denot) (g : ledger.Ghosts G.Denot) (c : ledger.Ghosts C.Denot) (j : ledger.Ghosts J.Denot)
        (v : ledger.Ghosts V.Denot) (h : ledger.Ghosts H.Denot) (d : ledger.Ghosts D.Denot) (k : ledger.Ghosts M.Denot) where
      locked_send : IsSend (Locked.the_row S P E G C J V H D M n m w l t e g c j v h d k)
      locked_send = declared_send (Locked.the_type S P E G C J V H D M n m w l t e g c j v h d k) (
        as_row_send (SeenTurning.the_field S P l n m w t) seen_send,
        (as_row_send (Ledgers.the_field P E G C J V H D M w e g c j v h d k) (ledgers.the_send P E G C J V H D M w e g c j v h d k), tt),
      )

      pub shared_sync : IsSync (Shared.the_row S P E G C J V H D M n m w l t e g c j v h d k)
      shared_sync = search (locked_send, crosses, sendable) depth 60 fits 20000
