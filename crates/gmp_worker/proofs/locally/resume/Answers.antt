use Rattle.gmp_worker.proofs.InHand.{held_where}
use Rattle.gmp_worker.proofs.locally.resume.Goals as goal

pub returns-clause-resumes : goal.returns-clause-resumes
returns-clause-resumes g c =
    let x = c.args.driver.now in
    let ask = c.goes_on.new.out in
    let left = c.goes_on.new.self in
    held_where x c.in-Some.woke c.in-Some-body.body.now _ c.requires.act c.in-Some.ensures c.in-Some-body.ensures.body
    (λ n. (ask, left, c.goes_on.ensures, c.tell_asked.ensures))
