use Rattle.std.proofs.Common.{take}
use Rattle.gmp_check.specs.First.{IsFirstOf, IsOfferOf}
use Rattle.gmp_check.proofs.table.waiting.first_of.Given as goal

-- the first of the offers before the index
abbrev pub invariant-loop-offer : goal.invariant-loop-offer
invariant-loop-offer l =
    IsFirstOf (IsOfferOf l.g (record l.wait { offers = take l.offer-index l.offer-items }) l.c l.direction) l.first
