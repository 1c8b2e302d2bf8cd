use Rattle.std.proofs.Common.{[], ◌∷◌, refl, sym, ◌∙◌}
use Rattle.std.proofs.lemmas.Bool.{cond-true, cond-false}
use Rattle.gmp_explain.specs.Spoken.{Keeps}
use Rattle.gmp_explain.specs.Stated.{values_said}
use Rattle.gmp_explain.proofs.Spoken.{as_said, none, one}
use Rattle.gmp_explain.proofs.channels.tell_values.Goals as goal

pub returns-then-is_empty : goal.returns-then-is_empty
returns-then-is_empty g c =
    as_said g.S.Sink.told c.args.sink.now c.args.sink.now (values_said c.args.c c.args.items.now) [] (cond-true _ _ _ (sym c.is_empty.ensures ∙ c.if-is_empty.true)) (none g.S.Sink.told c.args.sink.now)

pub returns : goal.returns
returns g c =
    let d = Keeps c.args.c c.args.items.now in
    as_said g.S.Sink.told c.args.sink.now c.tell.new.self (values_said c.args.c c.args.items.now) (d ∷ []) (cond-false _ _ _ (sym c.is_empty.ensures ∙ c.if-is_empty.false))
    (one g.S.Sink.told c.args.sink.now c.tell.new.self d c.in_ok-tell.ensures refl)
