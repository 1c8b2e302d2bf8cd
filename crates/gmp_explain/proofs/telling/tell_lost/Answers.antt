use Rattle.std.proofs.Common.{refl}
use Rattle.gmp_explain.proofs.Spoken.{other}
use Rattle.gmp_explain.proofs.telling.tell_lost.Goals as goal

pub returns-in-Some-Some : goal.returns-in-Some-Some
returns-in-Some-Some g c = other g.S.Sink.told c.args.sink.now c.tell.new.self c.in_ok-tell.ensures refl
