-- What the table looks at beside the place.
use Rattle.std.specs.Prelude.{ℕ, Bool, Option, Some, None}
use Rattle.gmp_base.specs.declared.number.PNo.{PNo}
use Rattle.gmp_driver.specs.declared.place.Aside.{Aside}
use Rattle.gmp_driver.specs.declared.registers.ProcParts.{ProcParts}
use Rattle.gmp_driver.specs.declared.registers.Registers.{Registers}
use Rattle.gmp_driver.specs.declared.seen.Seen.{Seen}
use Rattle.gmp_driver.specs.Machine.{Machine}
use Rattle.gmp_driver.specs.Registers.{first_value}

-- the number of a processor
abbrev pub number_of : {Q : Type 0} → Option (ProcParts Q) → Option PNo
number_of None = None
number_of (Some x) = Some x.p

-- the number of the processor that is held
abbrev pub own_processor : {T Q : Type 0} → Registers T Q → Option PNo
own_processor hand = number_of hand.processor

abbrev pub seen_of : {T Q : Type 0} → ℕ → Bool → ℕ → Option Aside → Registers T Q → Seen
seen_of procs fresh turns aside hand = record {
  procs = procs;
  fresh = fresh;
  turns = turns;
  aside = aside;
  own = own_processor hand;
  to_claim = hand.to_claim;
  to_store = hand.to_store;
  first = first_value hand;
}

-- what the table sees of a machine
abbrev pub seen : {T Q : Type 0} → Machine T Q → Seen
seen x = seen_of x.procs x.fresh x.turns x.aside x.hand
