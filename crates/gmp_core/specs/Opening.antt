-- The machines at their start.
use Rattle.std.specs.Prelude.{ℕ, Bool, Some, false}
use Rattle.gmp_base.specs.declared.pass.Pass.{Pass}
use Rattle.gmp_driver.specs.declared.place.Place.TheVariants.{Start}
use Rattle.gmp_driver.specs.Machine.{Machine}
use Rattle.gmp_driver.specs.Registers.{nothing}
use Rattle.gmp_driver.specs.Table.{first_aside}

-- the machine of this pass, fair or not, with nothing in hand
abbrev pub at_start : {T Q : Type 0} → Bool → ℕ → Pass → Machine T Q
at_start is_fair procs pass = record { run = pass.run; procs = procs; place = Start; fresh = false; turns = 0; aside = first_aside is_fair; pass = Some pass; hand = nothing }
