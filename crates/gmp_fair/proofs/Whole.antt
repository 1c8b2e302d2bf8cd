-- Acts in a row: the whole wait.
use Rattle.std.proofs.Common.{◌≡◌, ℕ, ◌+◌, ◌*◌, ◌≤◌, List, [], ◌∷◌, arith, ◌∙◌}
use Rattle.std.proofs.Math.Nat.{add-mul}
use Rattle.gmp_base.specs.declared.number.GNo.{GNo}
use Rattle.gmp_base.specs.declared.number.MNo.{MNo}
use Rattle.gmp_base.specs.declared.number.Readiness.{Readiness}
use Rattle.gmp_acts.specs.declared.choice.Choice.{Choice}
use Rattle.gmp_acts.specs.System.{System}
use Rattle.gmp_acts.proofs.Onward.{act_opened}
use Rattle.gmp_fair.specs.Waits.{IsWaiting, Waits}
use Rattle.gmp_fair.proofs.Left.{Left, goes_on, left_at_first}
use Rattle.gmp_fair.proofs.Served.{Kept, kept_on}

begins : (m : MNo) (r : Readiness) (line : List GNo) (k : System) (moves : List (MNo × Choice)) (count : ℕ) (k' : System) → Waits m r line k moves count k' → IsWaiting r line k
begins m r line k [] count k' w = w.0
begins m r line k (move ∷ moves) count k' w = w.0

run : (r : Readiness) (m : MNo) (procs bodies : ℕ) (moves : List (MNo × Choice)) (line : List GNo) (k : System) (count : ℕ) (k' : System) (c : ℕ) → Kept m procs k → k.book.bodies ≡ bodies
    → Left r m procs bodies line k c → Waits m r line k moves count k' → count ≤ c
run r m procs bodies [] line k count k' c kept are left w = (let e = w.1 in omega (arith, e))
run r m procs bodies (move ∷ moves) line k count k' c kept are left w =
    let on = begins m r w.2 w.1 moves w.3 k' w.7 in
    let one = goes_on r m procs bodies line w.2 k move.0 move.1 w.1 kept are w.4 w.5 w.0 on c left in
    let rest = run r m procs bodies moves w.2 w.1 w.3 k' one.0 (kept_on m procs k move.0 move.1 w.1 kept w.4) ((act_opened k move.0 move.1 w.1 w.4).bodies ∙ are) one.1 w.7 in
    let e = w.6 in let f = one.2 in
    omega (arith, rest, e, f)

-- in all lines together
pub whole_bound : (r : Readiness) (m : MNo) (procs bodies : ℕ) (moves : List (MNo × Choice)) (line : List GNo) (k : System) (count : ℕ) (k' : System) → Kept m procs k → k.book.bodies ≡ bodies
    → Waits m r line k moves count k' → count ≤ 32 * (procs + 1) * bodies
whole_bound r m procs bodies moves line k count k' kept are w =
    let first = left_at_first r m procs bodies line k kept are (begins m r line k moves count k' w) in
    let most = run r m procs bodies moves line k count k' (32 * procs * bodies + 32 * bodies) kept are first w in
    let all : (32 * procs + 32) * bodies ≡ 32 * procs * bodies + 32 * bodies = add-mul (32 * procs) 32 bodies in
    omega (arith, most, all)
