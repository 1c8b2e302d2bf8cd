-- Calls of goroutines.
use Rattle.std.specs.Prelude.{◌≡◌, ℕ, Bool, true, false}
use Rattle.gmp_seq.specs.declared.call.Call.{Call}
use Rattle.gmp_seq.specs.declared.call.Call.TheVariants as call

-- it makes a channel
abbrev pub IsMake : Call → Type 0
IsMake c = (capacity : ℕ) × (c ≡ call.Make capacity)

-- it is of the goroutine that the machine runs
abbrev pub is_ask : Call → Bool
is_ask (call.Go h) = true
is_ask call.Spawn = true
is_ask call.Yield = true
is_ask call.Exit = true
is_ask (call.Make capacity) = true
is_ask (call.Send c v) = true
is_ask (call.Recv c) = true
is_ask (call.Close c) = true
is_ask (call.Len c) = true
is_ask (call.Cap c) = true
is_ask (call.Procs n) = true
is_ask (call.Select cases has_default until) = true
is_ask (call.Sleep until) = true
is_ask call.Gopark = true
is_ask (call.Ready h) = true
is_ask call.Enter = true
is_ask _ = false
