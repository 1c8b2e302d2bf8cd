use Rattle.std.proofs.Common.{◌≡◌, [], ◌∷◌, false, Some, refl, ap, rules}
use Rattle.std.specs.Option.{option_map_or}
use Rattle.gmp_seq.specs.declared.status.Status.{Status}
use Rattle.gmp_seq.specs.Table.{status_at}
use Rattle.gmp_start.specs.Start.{table_of}
use Rattle.gmp_explain.specs.Spoken.{Does}
use Rattle.gmp_explain.specs.Stated.{does_said}
use Rattle.gmp_explain.proofs.Spoken.{as_said, one}
use Rattle.gmp_explain.proofs.before.tell_goroutine.Goals as goal

pub returns : goal.returns
returns g c =
    let a = c.args in
    let told = g.S.Sink.told in
    let t = table_of a.story.now.last in
    let status = c.in-Some.status.now in
    let is : status_at t a.g ≡ Some status = search rules in
    as_said told a.sink.now c.tell.new.self (does_said t a.g) (Does a.g status false ∷ []) (ap (λ o. option_map_or (λ (s : Status). Does a.g s false ∷ []) o []) is)
    (one told a.sink.now c.tell.new.self (Does a.g status false) c.in_ok-tell.ensures refl)
