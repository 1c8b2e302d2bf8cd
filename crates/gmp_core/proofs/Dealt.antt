-- What an act takes is fixed by who is on the shelf, whatever body was told before it.
use Rattle.std.proofs.Common.{◌≡◌, ℕ, subst}
use Rattle.gmp_base.specs.declared.number.MNo.{MNo}
use Rattle.gmp_core.specs.Whole.{TakesFixed, Whole}

pub fixed_same : {T : Type 0} (k j end : Whole T) (m : MNo) (word : ℕ) → k.system ≡ j.system → k.shelf ≡ j.shelf → TakesFixed k m word end → TakesFixed j m word end
fixed_same {T} k j end m word system shelf f =
    let with_stock : TakesFixed (record k { stock = j.stock }) m word end = record { listed = f.listed; takes = f.takes; stays = f.stays } in
    subst (λ (x : Whole T). TakesFixed x m word end) (λ i. record { system = system i; stock = j.stock; shelf = shelf i }) with_stock
