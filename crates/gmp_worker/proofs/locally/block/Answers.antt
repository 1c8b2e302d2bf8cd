use Rattle.gmp_worker.proofs.InHand.{called_where}
use Rattle.gmp_worker.proofs.locally.block.Goals as goal

pub returns-clause-blocks : goal.returns-clause-blocks
returns-clause-blocks g c =
    let x = c.args.driver.now in
    let number = c.calls-number.result in
    let left = c.calls-number.new.self in
    called_where x c.in-Some.body.now _ c.requires.act c.in-Some.ensures.body
    (λ n. (number, left, c.calls-number.ensures, c.tell.ensures))
