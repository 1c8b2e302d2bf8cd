-- A call that takes no memory is refused by its lines alone.
use Rattle.gmp_journal.proofs.Common.{◌≡◌, Option, None, Some, inl, inr, Refusal}
use Rattle.gmp_journal.specs.Refusals.{Says}

pub says_alone : (why answer : Option Refusal) → Says ⊥ why answer → answer ≡ why
says_alone (Some why) answer says = says
says_alone None answer (inl is) = is
says_alone None answer (inr wants) = absurd wants.1
