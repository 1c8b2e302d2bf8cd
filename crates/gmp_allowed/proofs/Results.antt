-- What follows of results.
use Rattle.std.proofs.Common.{Result, Ok, Err, OnOk}

-- what follows of what holds where there is a value
pub on_ok : {T E : Type 0} (r : Result T E) {P Q : Type 0} → (P → Q) → OnOk r P → OnOk r Q
on_ok (Ok x) f p = f p
on_ok (Err e) f p = p
