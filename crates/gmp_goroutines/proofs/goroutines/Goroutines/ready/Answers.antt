use Rattle.gmp_goroutines.proofs.Common.{◌≡◌, true, Some, refl, rules, status_at}
use Rattle.gmp_seq.specs.Table.{is_parked}
use Rattle.gmp_goroutines.proofs.Ties.{readied_kept}
use Rattle.gmp_goroutines.proofs.goroutines.Goroutines.ready.Goals as goal

pub invariant_of-self : goal.invariant_of-self
invariant_of-self c =
    let was : status_at c.self.inside.table.table c.args.h ≡ Some c.in-Some.row.now.status = search rules in
    let parked : is_parked c.in-Some.row.now.status ≡ true = search rules in
    readied_kept c.self.invariant c.args.h _ _ _ was parked refl c.ready.ensures.table
