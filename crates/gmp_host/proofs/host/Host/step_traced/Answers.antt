use Rattle.std.proofs.Common.{refl}
use Rattle.gmp_host.proofs.Again.{ok_map}
use Rattle.gmp_host.proofs.host.Host.step_traced.Goals as goal

pub returns-clause-played : goal.returns-clause-played
returns-clause-played g c = ok_map _ _ c.played.result c.played.ensures.played (λ t p. (p.0, p.1 refl))
