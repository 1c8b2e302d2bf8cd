use Rattle.gmp_goroutines.proofs.Common.{◌≡◌, [], ap, rules}
use Rattle.gmp_table.specs.Contents.{opening_contents}
use Rattle.gmp_goroutines.proofs.Ties.{opening_kept}
use Rattle.gmp_goroutines.proofs.goroutines.Goroutines.open.Goals as goal

pub invariant_of-result : goal.invariant_of-result
invariant_of-result c =
    let n = c.args.bodies in
    let table : c.in_ok-open.field-0 ≡ opening_contents n = search rules in
    let waiters : c.in_ok-open-2.field-0.waiters ≡ [] = search rules in
    let bodies : c.in_ok-open-2.field-0.bodies ≡ n = search rules in
    rw (waiters, bodies) (opening_kept n _ c.in_ok-open.field-0.table c.requires.some (ap (λ v. v.table.goroutines) table) (ap (λ v. v.table.arrivals) table))
