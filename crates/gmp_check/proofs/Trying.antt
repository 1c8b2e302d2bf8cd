-- A call that decides whether some state follows, tried on a copy.
use Rattle.std.proofs.Common.{Bool, true, false, ◌↔◌, IsTrue, refl}
use Rattle.std.proofs.lemmas.Bool.{false≢true}
use Rattle.gmp_check.specs.Decides.{Decides, Leads}

pub decides_leads : {X : Type 0} (R : X → X → Type 0) (old new : X) (b : Bool) → Decides R old new b → IsTrue b ↔ Leads R old
decides_leads R old new true step = ((λ yes. (new, step)), (λ leads. refl))
decides_leads R old new false (same, none) = ((λ yes. absurd (false≢true yes)), (λ leads. absurd (none leads.0 leads.1)))
