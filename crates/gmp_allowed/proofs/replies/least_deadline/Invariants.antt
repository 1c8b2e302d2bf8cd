use Rattle.std.proofs.Common.{◌≡◌, drop}
use Rattle.gmp_seq.specs.Table.{earlier, least_of}
use Rattle.gmp_allowed.proofs.replies.least_deadline.Given as goal

-- with what is left, the least so far gives the least of all
abbrev pub invariant-loop-row : goal.invariant-loop-row
invariant-loop-row l = earlier l.least (least_of (drop l.row-index l.rows)) ≡ least_of l.rows
