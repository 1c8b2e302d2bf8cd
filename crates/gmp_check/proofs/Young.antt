-- Epochs that can rise.
use Rattle.std.proofs.Common.{◌≡◌, ℕ, ◌≤◌, ◌^◌, Some, refl, subst}
use Rattle.std.specs.List.{slice_get}
use Rattle.gmp_base.specs.declared.number.GNo.{GNo}
use Rattle.gmp_seq.specs.declared.status.Goroutine.{Goroutine}
use Rattle.gmp_seq.specs.Table.{Table, epoch_at}

-- each row of the table is young
pub young_rows : (t : Table) → ((g : GNo) → epoch_at t g ≤ 2 ^ 63) → (k : ℕ) (x : Goroutine) → slice_get t.goroutines k ≡ Some x → x.epoch ≤ 2 ^ 63
young_rows t young k x is =
    let g : GNo = record { 0 = k } in
    let at : epoch_at t g ≡ x.epoch = rw is refl in
    subst (λ n. n ≤ 2 ^ 63) at (young g)
