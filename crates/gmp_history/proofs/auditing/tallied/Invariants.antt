use Rattle.std.proofs.Common.{◌≡◌, ℕ, ◌<◌, [], get_or, length, take}
use Rattle.gmp_history.specs.Audit.{no_tally, tally_of}
use Rattle.gmp_history.proofs.auditing.tallied.Given as goal

abbrev pub invariant-loop-head : goal.invariant-loop-head
invariant-loop-head l = (length l.tallies ≡ 256) × ((m : ℕ) → m < 256 → get_or l.tallies m no_tally ≡ tally_of (take (length l.yielded) l.history.list) [] m)

abbrev pub invariant-loop-log : goal.invariant-loop-log
invariant-loop-log l = (length l.tallies ≡ 256) × ((m : ℕ) → m < 256 → get_or l.tallies m no_tally ≡ tally_of l.history.list (take l.log-index l.logs) m)
