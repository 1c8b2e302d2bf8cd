use Rattle.std.proofs.Common.{ap, refl, rules}
use Rattle.gmp_table.proofs.Moves.{off_turned}
use Rattle.gmp_table.proofs.table.StatusTable.wait.Goals as goal

pub invariant_of-self : goal.invariant_of-self
invariant_of-self c =
    let rows = ap (λ v. v.table.goroutines) c.self.view_is in
    rw c.put_status.ensures (off_turned c.self.inside.rows c.args.g _ _ _ c.self.invariant (rw rows c.requires.off) refl)

pub returns-clause-table : goal.returns-clause-table
returns-clause-table c = search rules
