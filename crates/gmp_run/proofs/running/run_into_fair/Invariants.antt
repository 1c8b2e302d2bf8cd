use Rattle.std.proofs.Common.{◌≡◌}
use Rattle.gmp_run.proofs.running.run_into_fair.Given as goal

abbrev pub ghosts-run_as-L-RunLedger : goal.ghosts-run_as-L-RunLedger
ghosts-run_as-L-RunLedger g a = record { run = a.run; fair = a.is_fair; board = a.board.name }

abbrev pub ghosts-run_as-L-Ledger : goal.ghosts-run_as-L-Ledger
ghosts-run_as-L-Ledger g a = record { name = a.blank.name; parts = a.blank.parts }

-- the sink before the run, and the bodies
abbrev pub ghosts-run_as-L-DeskLedger : goal.ghosts-run_as-L-DeskLedger
ghosts-run_as-L-DeskLedger g a = record { first = λ s. s ≡ a.sink; given = a.bodies.items }
