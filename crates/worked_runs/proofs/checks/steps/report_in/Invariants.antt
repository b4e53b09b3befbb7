use Rattle.std.proofs.Common.{[], true}
use Rattle.worked_runs.proofs.checks.steps.report_in.Given as goal

abbrev pub ghosts-report_of-P-RunName : goal.ghosts-report_of-P-RunName
ghosts-report_of-P-RunName g a = record { plan = []; size = record { nodes = 1; slots = 4 }; is_open = true }

abbrev pub ghosts-report_of-E-Ledger : goal.ghosts-report_of-E-Ledger
ghosts-report_of-E-Ledger g a = record { name = a.blanks.events.name; parts = a.blanks.events.parts }

abbrev pub ghosts-report_of-G-Ledger : goal.ghosts-report_of-G-Ledger
ghosts-report_of-G-Ledger g a = record { name = a.blanks.given.name; parts = a.blanks.given.parts }

abbrev pub ghosts-report_of-C-Ledger : goal.ghosts-report_of-C-Ledger
ghosts-report_of-C-Ledger g a = record { name = a.blanks.commits.name; parts = a.blanks.commits.parts }

abbrev pub ghosts-report_of-J-Ledger : goal.ghosts-report_of-J-Ledger
ghosts-report_of-J-Ledger g a = record { name = a.blanks.committed.name; parts = a.blanks.committed.parts }

abbrev pub ghosts-report_of-P-Watching : goal.ghosts-report_of-P-Watching
ghosts-report_of-P-Watching g a = record { seats = 2; watched = 2 }

abbrev pub ghosts-report_of-V-Ledger : goal.ghosts-report_of-V-Ledger
ghosts-report_of-V-Ledger g a = record { name = a.further.events.name; parts = a.further.events.parts }

abbrev pub ghosts-report_of-H-Ledger : goal.ghosts-report_of-H-Ledger
ghosts-report_of-H-Ledger g a = record { name = a.further.given.name; parts = a.further.given.parts }

abbrev pub ghosts-report_of-D-Ledger : goal.ghosts-report_of-D-Ledger
ghosts-report_of-D-Ledger g a = record { name = a.further.commits.name; parts = a.further.commits.parts }

abbrev pub ghosts-report_of-M-Ledger : goal.ghosts-report_of-M-Ledger
ghosts-report_of-M-Ledger g a = record { name = a.further.committed.name; parts = a.further.committed.parts }

abbrev pub ghosts-report_of-P-LogName : goal.ghosts-report_of-P-LogName
ghosts-report_of-P-LogName g a = record { book = a.opened.seen.book }

abbrev pub ghosts-report_of-P-TicketName : goal.ghosts-report_of-P-TicketName
ghosts-report_of-P-TicketName g a = record { table = a.tickets.keeper.table_id }
