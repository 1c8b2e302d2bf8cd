use Rattle.std.proofs.Common.{◌≡◌, ◌++◌, length, drop}
use Rattle.gmp_start.proofs.copying.copied_offers.Given as goal

abbrev pub invariant-loop-offer : goal.invariant-loop-offer
invariant-loop-offer l = (l.copy ++ drop l.offer-index l.offer-items ≡ l.offer-items) × (length l.copy ≡ l.offer-index)
