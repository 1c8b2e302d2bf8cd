use Rattle.gmp_seq.specs.declared.call.Reply.TheVariants as reply
use Rattle.gmp_allowed.specs.Tried.{Before, IsNamed}
use Rattle.gmp_allowed.proofs.Adding.{one_added}
use Rattle.gmp_allowed.proofs.Results.{on_ok}
use Rattle.gmp_allowed.proofs.numbered.of_numbers_or_nothing.Goals as goal

pub returns : goal.returns
returns c =
    on_ok c.add.result (one_added (Before (IsNamed c.args.naming) c.args.n) c.args.out.now.items c.of_numbers.new.out.items c.add.new.out.items reply.Nothing c.in_ok-of_numbers.ensures) c.add.ensures
