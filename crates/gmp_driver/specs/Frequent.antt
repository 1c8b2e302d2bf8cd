-- The acts that come most often, in few bytes.
use Rattle.std.specs.Prelude.{Option, Some, None}
use Rattle.gmp_seq.specs.declared.call.Call.TheVariants as call
use Rattle.gmp_driver.specs.declared.act.Act.{Act}
use Rattle.gmp_driver.specs.declared.act.Act.TheVariants as act
use Rattle.gmp_driver.specs.declared.act.Frequent.{Frequent}
use Rattle.gmp_driver.specs.declared.act.Frequent.TheVariants as frequent

-- which of them an act is
abbrev pub frequent_of : Act → Frequent
frequent_of (act.Call call.Take) = frequent.Take
frequent_of (act.Call (call.Claim r)) = frequent.Claim r.g r.epoch
frequent_of (act.Call call.Yield) = frequent.Yield
frequent_of (act.Call call.Poke) = frequent.Poke
frequent_of (act.Call (call.Send c v)) = frequent.Send c v
frequent_of (act.Call (call.Recv c)) = frequent.Recv c
frequent_of act.Pop = frequent.Pop
frequent_of act.Push = frequent.Push
frequent_of act.Resume = frequent.Resume
frequent_of _ = frequent.Other

-- the act, where it is one of them
abbrev pub act_of : Frequent → Option Act
act_of frequent.Take = Some (act.Call call.Take)
act_of (frequent.Claim g epoch) = Some (act.Call (call.Claim (record { g = g; epoch = epoch })))
act_of frequent.Yield = Some (act.Call call.Yield)
act_of frequent.Poke = Some (act.Call call.Poke)
act_of (frequent.Send c v) = Some (act.Call (call.Send c v))
act_of (frequent.Recv c) = Some (act.Call (call.Recv c))
act_of frequent.Pop = Some act.Pop
act_of frequent.Push = Some act.Push
act_of frequent.Resume = Some act.Resume
act_of frequent.Other = None
