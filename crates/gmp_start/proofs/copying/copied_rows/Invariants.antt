use Rattle.std.proofs.Common.{◌≡◌, ◌≤◌, ◌++◌, length, drop, vec_capacity, vec_len}
use Rattle.gmp_start.proofs.copying.copied_rows.Given as goal

abbrev pub invariant-loop-row : goal.invariant-loop-row
invariant-loop-row l = (l.copy.items ++ drop l.row-index l.rows ≡ l.rows) × (vec_len l.copy ≡ l.row-index) × (length l.rows ≤ vec_capacity l.copy)
