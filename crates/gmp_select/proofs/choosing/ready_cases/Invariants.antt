use Rattle.std.proofs.Common.{◌≡◌, ◌<◌, ◌≤◌, ℕ, false}
use Rattle.gmp_select.specs.Choosing.{case_can, is_set}
use Rattle.gmp_select.proofs.choosing.ready_cases.Given as goal

-- the bits below i tell of the cases so far, and no other is set
abbrev pub invariant-loop-case : goal.invariant-loop-case
invariant-loop-case l = record {
  index : l.i ≡ l.case-index;
  seen : (k : ℕ) → k < l.i → is_set l.bits k ≡ case_can l.channels.channels l.channels.waiters l.case-items k;
  others : (k : ℕ) → l.i ≤ k → is_set l.bits k ≡ false;
}
