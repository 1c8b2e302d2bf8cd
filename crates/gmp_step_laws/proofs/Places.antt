-- Which calls want memory.
use Rattle.std.proofs.Common.{◌≡◌, ℕ, refl}
use Rattle.gmp_base.specs.declared.ask.Ask.{Ask}
use Rattle.gmp_base.specs.declared.ask.Ask.TheVariants as ask
use Rattle.gmp_seq.specs.declared.call.Call.{Call}
use Rattle.gmp_seq.specs.declared.call.Call.TheVariants as call
use Rattle.gmp_seq.specs.declared.call.Limits.{Limits}
use Rattle.gmp_seq.specs.Needs.{WantsMemory}
use Rattle.gmp_seq.specs.State.{State}
use Rattle.gmp_driver.specs.Table.{call_for}
use Rattle.gmp_said.proofs.Places.{IsOwn}

-- an ask that wants memory is a make
pub make_is : (limits : Limits) (s : State) (asked : Ask) → WantsMemory limits (call_for asked) s → (capacity : ℕ) × (asked ≡ ask.Make capacity)
make_is limits s (ask.Make capacity) h = (capacity, refl)
make_is limits s _ h = absurd h

-- a call of the machine's own wants none
pub no_make : (limits : Limits) (s : State) (c : Call) → IsOwn c → WantsMemory limits c s → ⊥
no_make limits s (call.Make capacity) own h = own
no_make limits s _ own h = h
