use Rattle.std.proofs.Common.{◌≡◌, ◌==◌, ℕ, not, nat_lt, ap, sym, ◌∙◌, arith}
use Rattle.std.proofs.lemmas.Bool.Decides.{nat_tests}
use Rattle.gmp_seq.specs.Table.{is_shelved, some_status}
use Rattle.gmp_table.proofs.Moves.{some_on_shelf}
use Rattle.gmp_table.proofs.table.StatusTable.has_shelved.Goals as goal

positive : (n : ℕ) → not (n == 0) ≡ nat_lt 0 n
positive n = grind (arith, nat_tests)

pub returns-clause-some : goal.returns-clause-some
returns-clause-some c =
    ap not c.is_empty.ensures ∙ (positive _ ∙ (sym (some_on_shelf c.self.inside.rows _ _ c.self.invariant) ∙ ap (λ v. some_status is_shelved v.table) c.self.view_is))
