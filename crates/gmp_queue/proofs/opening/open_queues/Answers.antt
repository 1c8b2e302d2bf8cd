use Rattle.std.proofs.Common.{length, arith, List, [], ◌∷◌, refl, subst, sym, ap, length-append}
use Rattle.std.proofs.lemmas.List.Elements.{All-nil}
use Rattle.gmp_queue.specs.declared.ends.Owner.{Owner}
use Rattle.gmp_queue.specs.Opened.{IsFresh, IsOpened}
use Rattle.gmp_queue.proofs.Opens.{opens}
use Rattle.gmp_queue.proofs.opening.open_queues.Goals as goal

pub loop-init : goal.loop-init
loop-init c =
    let P : List Owner → Type 0 = λ os. IsOpened c.args.run (length c.args.rows.now) os c.args.rows.now in record {
      opened = subst P (sym c.new-owners.ensures.items) (All-nil (IsFresh c.args.run (length c.args.rows.now)), refl, c.requires.empty);
      many = ap length c.new-owners.ensures.items;
    }

pub loop-preserved : goal.loop-preserved
loop-preserved c =
    let inv = c.loop.invariant in
    let got = c.in_ok-owner.ensures in
    let P : List Owner → Type 0 = λ os. IsOpened c.args.run (length c.args.rows.now) os c.open_queue.new.rows in
    let items = c.in_ok-push.ensures.items in record {
      opened = subst P (sym items) (opens c.args.run (length c.args.rows.now) c.loop.owners.items c.in_ok-owner.owner c.loop.rows c.open_queue.new.rows inv.opened got.0 got.1 c.open_queue.auto.rows);
      many = (let many = inv.many in let grown = ap length items in omega (arith, length-append c.loop.owners.items (c.in_ok-owner.owner ∷ [])));
    }
