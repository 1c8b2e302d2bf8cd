use Rattle.std.proofs.Common.{◌≡◌, length, ◌∙◌, rules}
use Rattle.gmp_book.specs.Book.{MayOpen}
use Rattle.gmp_book.proofs.Bodies.{all_filled-map, map-Some}
use Rattle.gmp_book.proofs.OpeningBook.{opening_is_book}
use Rattle.gmp_book.proofs.book.Book.open.Goals as goal

pub into_items-bodies-requires : goal.into_items-bodies-requires
into_items-bodies-requires g c = rw c.in-Ok-of.ensures.ok (all_filled-map c.args.bodies.items)

pub returns-in-Err-of-clause-back : goal.returns-in-Err-of-clause-back
returns-in-Err-of-clause-back g c =
    let bodies = map-Some c.into_items-bodies.result.items c.args.bodies.items (c.into_items-bodies.ensures ∙ c.in-Ok-of.ensures.ok) in
    rw c.of-in-Err-of.ensures (bodies, c.in-Err-of.ensures.err)

pub invariant_of-book : goal.invariant_of-book
invariant_of-book g c =
    let count : c.len-count.result ≡ length c.args.bodies.items = search rules in
    let capacities : c.in-Ok.capacities.items ≡ c.args.capacities.now = search rules in
    let may : MayOpen c.args.limits (length c.args.bodies.items) c.args.capacities.now (length c.args.owners.items) = search rules in
    rw (c.in-Ok-open.ensures, c.in-Ok-of.ensures.ok, c.in-Ok-of-2.ensures.ok, count, capacities)
    (opening_is_book c.args.run c.args.limits c.args.capacities.now c.args.bodies.items c.args.owners.items may)
