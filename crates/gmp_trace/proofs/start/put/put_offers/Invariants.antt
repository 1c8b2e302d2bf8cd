use Rattle.std.proofs.Common.{◌≡◌, ◌++◌, map, drop}
use Rattle.gmp_trace.specs.Pieces.{fields}
use Rattle.gmp_trace.specs.StartText.{offer_piece}
use Rattle.gmp_trace.proofs.start.put.put_offers.Given as goal

abbrev pub invariant-loop-offer : goal.invariant-loop-offer
invariant-loop-offer l =
    l.out.items ++ fields (map offer_piece (drop l.offer-index l.offers)) ≡ l.fn.out.items ++ fields (map offer_piece l.offers)
