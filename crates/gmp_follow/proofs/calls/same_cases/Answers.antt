use Rattle.std.proofs.Common.{rules, arith, ◌≡◌, Decides}
use Rattle.std.proofs.lemmas.Bool.Decides.{nat_tests}
use Rattle.std.proofs.lemmas.Slice.Eq.{slice_eq-Decides}
use Rattle.std.specs.Prelude.{Some, None}
use Rattle.gmp_base.specs.contracts.cases.CasePartialEq.TheImpl.{eq-value}
use Rattle.gmp_base.specs.declared.cases.Case.{Case}
use Rattle.gmp_base.specs.declared.cases.Case.TheVariants.{Send, Recv}
use Rattle.gmp_follow.proofs.calls.same_cases.Goals as goal

-- `==` of two cases says whether they are the same
eq-Decides : (x y : Case) → Decides (eq-value.it x y) (x ≡ y)
eq-Decides (Send None v) (Send None w) = grind (arith, nat_tests)
eq-Decides (Send None v) (Send (Some d) w) = grind (arith, nat_tests)
eq-Decides (Send (Some c) v) (Send None w) = grind (arith, nat_tests)
eq-Decides (Send (Some c) v) (Send (Some d) w) = grind (arith, nat_tests)
eq-Decides (Send c v) (Recv d) = grind (arith, nat_tests)
eq-Decides (Recv c) (Send d w) = grind (arith, nat_tests)
eq-Decides (Recv None) (Recv None) = grind (arith, nat_tests)
eq-Decides (Recv None) (Recv (Some d)) = grind (arith, nat_tests)
eq-Decides (Recv (Some c)) (Recv None) = grind (arith, nat_tests)
eq-Decides (Recv (Some c)) (Recv (Some d)) = grind (arith, nat_tests)

pub returns : goal.returns
returns c =
    let xs = c.as_slice.result.now in
    let ys = c.as_slice-2.result.now in
    let each : Decides c.eq.result (xs ≡ ys) = slice_eq-Decides eq-Decides xs ys c.eq.result c.eq.ensures in
    search (rules, each.0, each.1)
