use Rattle.std.proofs.Common.{refl}
use Rattle.gmp_host.proofs.Again.{ok_map}
use Rattle.gmp_host.proofs.host.Host.replay_dealt.Goals as goal

pub returns-clause-drawn : goal.returns-clause-drawn
returns-clause-drawn g c = ok_map _ _ c.drawn.result c.drawn.ensures.drawn (λ t d. (d.0, d.1 refl))
