-- The calls that come most often.
use Rattle.std.specs.Prelude.{Bool, true, false}
use Rattle.gmp_seq.specs.declared.call.Call.{Call}
use Rattle.gmp_seq.specs.declared.call.Call.TheVariants as call

abbrev pub is_frequent : Call → Bool
is_frequent call.Take = true
is_frequent (call.Claim r) = true
is_frequent call.Yield = true
is_frequent (call.Send c v) = true
is_frequent (call.Recv c) = true
is_frequent call.Poke = true
is_frequent _ = false
