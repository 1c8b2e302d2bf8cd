use Rattle.std.proofs.Common.{◌≡◌, drop}
use Rattle.std.specs.List.{find}
use Rattle.gmp_seq.specs.Waits.{as_waiters, is_on}
use Rattle.gmp_allowed.proofs.dealing.waiter_at.Given as goal

-- the first is among those that are left
abbrev pub invariant-loop-offer : goal.invariant-loop-offer
invariant-loop-offer l =
    find (is_on l.c l.direction) (as_waiters l.g l.wait.arrival l.wait.kind (drop l.offer-index l.offer-items)) ≡ find (is_on l.c l.direction) (as_waiters l.g l.wait.arrival l.wait.kind l.offer-items)
