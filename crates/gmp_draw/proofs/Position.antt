-- Positions rise with the entries, so what is drawn of entries behind one another stands side by side.
use Rattle.std.proofs.Common.{◌≤◌, ℕ, ◌-◌, min, arith}
use Rattle.std.proofs.Math.Nat.{mul-le-mul_left}
use Rattle.gmp_draw.specs.Position.{capped, position}

capped_rises : (a b : ℕ) → a ≤ b → capped a ≤ capped b
capped_rises a b h = grind arith

-- a later entry isn't further left
pub position_rises : (left column from to m n : ℕ) → m ≤ n → position left column from to m ≤ position left column from to n
unfolding position
position_rises left column from to m n h =
    let less : min (m - from) (to - from) ≤ min (n - from) (to - from) = grind arith in
    capped_rises _ _ (let wide = capped_rises _ _ (mul-le-mul_left column less) in omega (arith, wide))

-- no entry is behind the end of the last column
pub position_ends : (left column from to n : ℕ) → position left column from to n ≤ position left column from to to
unfolding position
position_ends left column from to n =
    let less : min (n - from) (to - from) ≤ min (to - from) (to - from) = grind arith in
    capped_rises _ _ (let wide = capped_rises _ _ (mul-le-mul_left column less) in omega (arith, wide))
