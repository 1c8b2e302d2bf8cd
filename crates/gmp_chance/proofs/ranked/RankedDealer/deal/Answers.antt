use Rattle.std.proofs.Common.{get_or, rules}
use Rattle.std.proofs.lemmas.Option.{slice_get-get_or}
use Rattle.gmp_chance.specs.declared.dealer.Next.{Next}
use Rattle.gmp_chance.specs.declared.dealer.Whose.TheVariants as whose
use Rattle.gmp_chance.proofs.ranked.RankedDealer.deal.Goals as goal

-- the one of the greatest rank steps, or a machine acts of itself
pub returns-clause-deals : goal.returns-clause-deals
returns-clause-deals c =
    let none : Next = record { machine = record { 0 = 0 }; whose = whose.Machine } in
    let next = get_or c.args.nexts.now c.first-would.result none in record {
      would = c.first-would.result;
      next = next;
      at = slice_get-get_or c.args.nexts.now c.first-would.result none c.first-would.ensures.there;
      before = search rules;
      ranked = search rules;
      first = search rules;
      planned = search rules;
      worded = search rules;
    }
