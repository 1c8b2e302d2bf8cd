use Rattle.std.proofs.Common.{subst, sym, ◌∙◌}
use Rattle.gmp_queue.specs.Ends.{owner_view}
use Rattle.gmp_queue.specs.Closed.{GivesBack}
use Rattle.gmp_queue.proofs.Closes.{closes, gives_back_first, gives_back_second}
use Rattle.gmp_queue.proofs.closing.close.Goals as goal

pub returns-in-Ok-clause-closed : goal.returns-in-Ok-clause-closed
returns-in-Ok-clause-closed c =
    closes c.args.owner c.args.thieves.items (owner_view c.drain.new.owner) (owner_view c.gather.new.owner) (owner_view c.drain-2.new.owner) c.args.out.now.items c.drain.new.out.items c.drain-2.new.out.items
    c.drain.ensures.drains c.gather.ensures.view c.in-Ok.ensures.drains c.in-Ok.ensures.none

pub returns-then-is_err-clause-back : goal.returns-then-is_err-clause-back
returns-then-is_err-clause-back c =
    gives_back_first c.args.owner c.drain.new.owner c.args.thieves.items c.args.out.now.items c.drain.new.out.items c.requires c.drain.ensures.same c.drain.ensures.drains

pub returns-in-Err-clause-back : goal.returns-in-Err-clause-back
returns-in-Err-clause-back c =
    let one = c.drain.ensures.same in
    let two = c.gather.ensures.same in
    let three = c.in-Err.ensures.same in
    subst (GivesBack c.args.owner c.args.thieves.items c.args.out.now.items c.drain-2.new.out.items c.drain-2.new.owner) (sym c.gather.ensures.none)
    (gives_back_second c.args.owner c.drain-2.new.owner c.args.thieves.items (owner_view c.drain.new.owner) (owner_view c.gather.new.owner) c.args.out.now.items c.drain.new.out.items c.drain-2.new.out.items
    (three.0 ∙ two.0 ∙ one.0, three.1 ∙ two.1 ∙ one.1) c.drain.ensures.drains c.gather.ensures.view c.in-Err.ensures.drains)
