use Rattle.std.proofs.Common.{Option, None, Some, IsSomeAnd}
use Rattle.gmp_run_cli.proofs.segments.run_in_segments.Goals as goal

and_so : {A : Type 0} (P Q : A → Type 0) (o : Option A) → ((x : A) → P x → Q x) → IsSomeAnd o P → IsSomeAnd o Q
and_so P Q None so p = p
and_so P Q (Some x) so p = so x p

pub returns-in-Ok-clause-written : goal.returns-in-Ok-clause-written
returns-in-Ok-clause-written g c = λ nothing.
    and_so _ _ c.in_parts.result.outlet
    (λ o writes. record {
      capacities = c.in-Ok.script.capacities.items;
      readings = c.in-Ok.script.readings.items;
      bodies = c.in-Ok.script.bodies.items;
      script = c.in-Ok.ensures.ok;
      writes = writes;
    })
    (c.in_parts.ensures.written nothing)
