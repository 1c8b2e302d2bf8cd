use Rattle.std.proofs.Common.{is_some, arith, rules}
use Rattle.std.proofs.lemmas.Grind.{common_steps}
use Rattle.std.proofs.lemmas.List.{reverse-reverse}
use Rattle.gmp_book.proofs.Filled.{list_all-reverse}
use Rattle.gmp_book.proofs.slots.Slots.into_items.Goals as goal

pub loop-slot-init : goal.loop-slot-init
loop-slot-init g c = record {
  items = grind (arith, common_steps, reverse-reverse);
  filled = rw c.reverse.ensures.items (list_all-reverse is_some c.self.inside.slots.items (rw c.self.view_is c.requires));
  room_fits = grind (arith, common_steps);
}

pub returns : goal.returns
returns g c = search rules
