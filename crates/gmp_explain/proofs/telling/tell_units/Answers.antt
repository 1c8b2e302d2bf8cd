use Rattle.std.proofs.Common.{refl, []}
use Rattle.gmp_explain.specs.declared.fact.Fact.TheVariants as fact
use Rattle.gmp_allowed.proofs.Results.{on_ok}
use Rattle.gmp_explain.proofs.Spoken.{behind, other}
use Rattle.gmp_explain.proofs.telling.tell_units.Goals as goal

pub returns-in-Some : goal.returns-in-Some
returns-in-Some g c =
    let told = g.S.Sink.told in
    let mid = c.tell_callers.new.sink in
    on_ok c.tell.result (λ is. behind told c.args.sink.now mid c.tell.new.self [] c.in_ok-tell_callers.ensures (other told mid c.tell.new.self {x = fact.Longest c.in-Some.way} is refl)) c.tell.ensures
