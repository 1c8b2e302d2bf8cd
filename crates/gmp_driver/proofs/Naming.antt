-- The frequent acts stand for themselves.
use Rattle.std.proofs.Common.{◌≡◌, IfSome, refl}
use Rattle.gmp_seq.specs.declared.call.Call.{Call}
use Rattle.gmp_seq.specs.declared.call.Call.TheVariants as call
use Rattle.gmp_driver.specs.declared.act.Act.{Act}
use Rattle.gmp_driver.specs.declared.act.Act.TheVariants as act
use Rattle.gmp_driver.specs.Frequent.{act_of, frequent_of}

pub names_itself : (what : Act) → IfSome (act_of (frequent_of what)) (λ named. what ≡ named)
names_itself (act.Call asked) = of asked where
  of : (asked : Call) → IfSome (act_of (frequent_of (act.Call asked))) (λ named. act.Call asked ≡ named)
  of call.Take = refl
  of (call.Claim r) = refl
  of call.Yield = refl
  of call.Poke = refl
  of (call.Send c v) = refl
  of (call.Recv c) = refl
  of asked = tt
names_itself act.Pop = refl
names_itself act.Push = refl
names_itself act.Resume = refl
names_itself what = tt
