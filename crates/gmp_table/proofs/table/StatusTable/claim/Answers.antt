use Rattle.std.proofs.Common.{ap, refl, rules}
use Rattle.gmp_table.proofs.Moves.{off_turned, given_out, out_off}
use Rattle.gmp_table.proofs.table.StatusTable.claim.Goals as goal

pub invariant_of-self : goal.invariant_of-self
invariant_of-self c =
    let rows = ap (λ v. v.table.goroutines) c.self.view_is in
    let out = given_out c.self.inside.rows c.args.r (rw rows c.requires) in
    rw c.put_status.ensures (off_turned c.self.inside.rows c.args.r.g _ _ _ c.self.invariant (out_off c.self.inside.rows c.args.r out) refl)

pub returns-clause-claims : goal.returns-clause-claims
returns-clause-claims c = search rules
