use mathlib.Core.List.{List, [], ◌∷◌}
use mir.Syntax.{named}
use denote.RattleType.{RattleType}
use denote.Struct.Declared.{shape}
use denote.Struct.Field.{shr_ref_field}
use denote.Struct.Tuple.{type_at}
use denote.Param.{param}
use denote.Param.Send.{AllSync, recorded_sync, struct_sync, shr_sync}
use Rattle.std.specs.contracts.alloc.Global as Global
use Rattle.std.specs.contracts.sync.Condvar as Condvar
use Rattle.std.proofs.alloc.Global.TheSendSync as heap
use Rattle.std.proofs.sync.Condvar.TheSendSync as condvar
use Rattle.frames.specs.contracts.compiled.Compiled as Compiled
use Rattle.seats.specs.contracts.shared.Shared as Shared
use Rattle.seats.proofs.Crosses.{compiled_sync, shared_sync}
use Rattle.seats.proofs.threads.sit.Goals as goal

pub map_vec-requires-sync-F : goal.map_vec-requires-sync-F
map_vec-requires-sync-F g c κs within =
    let b = c.type_bounds in
    let S = param 0 g.row.S in let P = param 1 g.row.P in
    let E = param 2 g.row.E in let G = param 3 g.row.G in let C = param 4 g.row.C in let J = param 5 g.row.J in
    let V = param 6 g.row.V in let H = param 7 g.row.H in let D = param 8 g.row.D in let M = param 9 g.row.M in
    let K = param 10 g.row.K in let R = param 11 g.row.R in
    let shared = Shared.the_row S P E G C J V H D M g.S.ScriptName g.P.RunName g.P.Watching g.P.LogName g.P.TicketName
    g.E.Ledger g.G.Ledger g.C.Ledger g.J.Ledger g.V.Ledger g.H.Ledger g.D.Ledger g.M.Ledger in
    let y = shared_sync S g.S.ScriptName b.send-S P g.P.RunName g.P.Watching g.P.LogName g.P.TicketName b.send-P E G C J V H D M
    g.E.Ledger g.G.Ledger g.C.Ledger g.J.Ledger g.V.Ledger g.H.Ledger g.D.Ledger g.M.Ledger in
    let lent : List RattleType =
    (shr_ref_field (record { mir = named 7; lft = κs.1.1.1.1.1.1.1.0 }) R tt).row
    ∷ (shr_ref_field (record { mir = named 8; lft = κs.1.1.1.1.1.1.1.1.0 }) Global.the_row tt).row
    ∷ (shr_ref_field (record { mir = named 9; lft = κs.1.1.1.1.1.1.1.1.1.0 }) shared tt).row
    ∷ (shr_ref_field (record { mir = named 10; lft = κs.1.1.1.1.1.1.1.1.1.1.0 }) Condvar.the_row tt).row
    ∷ (shr_ref_field (record { mir = named 11; lft = κs.1.1.1.1.1.1.1.1.1.1.1.0 }) Compiled.the_row tt).row
    ∷ (shr_ref_field (record { mir = named 12; lft = κs.1.1.1.1.1.1.1.1.1.1.1.1.0 }) K tt).row
    ∷ [] in
    let all : AllSync (shape (type_at [] lent)).fields =
    (shr_sync _ _ _ b.sync-R, (shr_sync _ _ _ heap.the_sync, (shr_sync _ _ _ y, (shr_sync _ _ _ condvar.the_sync, (shr_sync _ _ _ compiled_sync, (shr_sync _ _ _ b.sync-K, tt)))))) in
    record { shared = (recorded_sync _ _ _ (type_at [] lent).to_one (struct_sync (shape (type_at [] lent)) all)).shared }
