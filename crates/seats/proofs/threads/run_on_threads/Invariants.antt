use Rattle.std.specs.Prelude.{false}
use Rattle.seats.specs.Ends.{size_of}
use Rattle.seats.proofs.threads.run_on_threads.Given as goal

abbrev pub ghosts-run_shared-P-RunName : goal.ghosts-run_shared-P-RunName
ghosts-run_shared-P-RunName g a = record { plan = a.plan.lines; size = size_of a.board; is_open = false }

abbrev pub ghosts-run_shared-E-Ledger : goal.ghosts-run_shared-E-Ledger
ghosts-run_shared-E-Ledger g a = record { name = a.blanks.events.name; parts = a.blanks.events.parts }

abbrev pub ghosts-run_shared-G-Ledger : goal.ghosts-run_shared-G-Ledger
ghosts-run_shared-G-Ledger g a = record { name = a.blanks.given.name; parts = a.blanks.given.parts }

abbrev pub ghosts-run_shared-C-Ledger : goal.ghosts-run_shared-C-Ledger
ghosts-run_shared-C-Ledger g a = record { name = a.blanks.commits.name; parts = a.blanks.commits.parts }

abbrev pub ghosts-run_shared-J-Ledger : goal.ghosts-run_shared-J-Ledger
ghosts-run_shared-J-Ledger g a = record { name = a.blanks.committed.name; parts = a.blanks.committed.parts }

abbrev pub ghosts-run_shared-P-Watching : goal.ghosts-run_shared-P-Watching
ghosts-run_shared-P-Watching g a = record { seats = a.n; watched = 1 }

abbrev pub ghosts-run_shared-V-Ledger : goal.ghosts-run_shared-V-Ledger
ghosts-run_shared-V-Ledger g a = record { name = a.further.events.name; parts = a.further.events.parts }

abbrev pub ghosts-run_shared-H-Ledger : goal.ghosts-run_shared-H-Ledger
ghosts-run_shared-H-Ledger g a = record { name = a.further.given.name; parts = a.further.given.parts }

abbrev pub ghosts-run_shared-D-Ledger : goal.ghosts-run_shared-D-Ledger
ghosts-run_shared-D-Ledger g a = record { name = a.further.commits.name; parts = a.further.commits.parts }

abbrev pub ghosts-run_shared-M-Ledger : goal.ghosts-run_shared-M-Ledger
ghosts-run_shared-M-Ledger g a = record { name = a.further.committed.name; parts = a.further.committed.parts }

abbrev pub ghosts-run_shared-P-LogName : goal.ghosts-run_shared-P-LogName
ghosts-run_shared-P-LogName g a = record { book = a.opened.seen.book }

abbrev pub ghosts-run_shared-P-TicketName : goal.ghosts-run_shared-P-TicketName
ghosts-run_shared-P-TicketName g a = record { table = a.tickets.keeper.table_id }
