use Rattle.std.proofs.Common.{◌≡◌, ◌≤◌, ◌++◌, drop, length}
use Rattle.gmp_seq.specs.Waits.{offers_from}
use Rattle.gmp_seq.proofs.status.Offers.of.Given as goal

-- with those of the cases that are left, the offers so far are all
abbrev pub invariant-loop-i : goal.invariant-loop-i
invariant-loop-i l = record {
  few : length l.offers ≤ l.i;
  all : l.offers ++ offers_from l.i (drop l.i l.cases) ≡ offers_from 0 l.cases;
}
