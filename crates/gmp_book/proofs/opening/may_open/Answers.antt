use Rattle.std.proofs.Common.{ℕ, ◌≡◌, ◌↔◌, IsTrue, arith, nat_eq, Bool, false}
use Rattle.std.proofs.lemmas.Bool.Decides.{nat_tests}
use Rattle.gmp_book.proofs.opening.may_open.Goals as goal

with : {P : Type 0} (n m : ℕ) → P → IsTrue (nat_eq n m) ↔ (P × (n ≡ m))
with n m p = (λ t. (p, grind (arith, nat_tests)), λ x. grind (arith, nat_tests))

without : {P Q : Type 0} (b : Bool) → IsTrue b ↔ P → b ≡ false → IsTrue b ↔ (P × Q)
without b e f = (λ t. absurd (cc), λ x. e.1 x.0)

pub returns-then-allow : goal.returns-then-allow
returns-then-allow c = with _ _ (c.allow.ensures.0 c.if-allow.true)

pub returns-else-allow : goal.returns-else-allow
returns-else-allow c = without _ c.allow.ensures c.if-allow.false
