use Rattle.std.proofs.Common.{rules, arith, ◌≡◌, Decides}
use Rattle.std.proofs.lemmas.Bool.Decides.{nat_tests}
use Rattle.std.proofs.lemmas.Slice.Eq.{slice_eq-Decides}
use Rattle.gmp_seq.specs.declared.status.Deal.TheVariants.{Send, Receive}
use Rattle.gmp_seq.specs.declared.status.Deal.{Deal}
use Rattle.gmp_seq.specs.declared.status.Offer.{Offer}
use Rattle.gmp_seq.specs.contracts.status.OfferPartialEq.TheImpl.{eq-value}
use Rattle.gmp_start.proofs.sameness.same_offers.Goals as goal

-- `==` of two offers says whether they are the same
eq-Decides : (x y : Offer) → Decides (eq-value.it x y) (x ≡ y)
eq-Decides x y = by_deal x.deal y.deal where
  by_deal : (d e : Deal) → Decides (eq-value.it (record x { deal = d }) (record y { deal = e })) ((record x { deal = d }) ≡ (record y { deal = e }))
  by_deal (Send v) (Send w) = grind (arith, nat_tests)
  by_deal (Send v) Receive = grind (arith, nat_tests)
  by_deal Receive (Send w) = grind (arith, nat_tests)
  by_deal Receive Receive = grind (arith, nat_tests)

pub returns : goal.returns
returns c =
    let xs = c.as_slice.result.now in
    let ys = c.as_slice-2.result.now in
    let each : Decides c.eq.result (xs ≡ ys) = slice_eq-Decides eq-Decides xs ys c.eq.result c.eq.ensures in
    search (rules, each.0, each.1)
