use Rattle.std.proofs.Common.{[], ◌∷◌, sym, ◌∙◌}
use Rattle.std.proofs.lemmas.Bool.{cond-true, cond-false}
use Rattle.gmp_explain.specs.Spoken.{Wait}
use Rattle.gmp_explain.specs.Stated.{waiting_said}
use Rattle.gmp_explain.proofs.Spoken.{a_wait, as_said, none, one}
use Rattle.gmp_explain.proofs.channels.tell_waiting.Goals as goal

pub returns-then-is_empty : goal.returns-then-is_empty
returns-then-is_empty g c =
    as_said g.S.Sink.told c.args.sink.now c.args.sink.now (waiting_said c.args.c c.args.direction c.args.who.now) [] (cond-true _ _ _ (sym c.is_empty.ensures ∙ c.if-is_empty.true))
    (none g.S.Sink.told c.args.sink.now)

pub returns : goal.returns
returns g c =
    let d = Wait c.args.c c.args.direction c.args.who.now in
    as_said g.S.Sink.told c.args.sink.now c.tell.new.self (waiting_said c.args.c c.args.direction c.args.who.now) (d ∷ []) (cond-false _ _ _ (sym c.is_empty.ensures ∙ c.if-is_empty.false))
    (one g.S.Sink.told c.args.sink.now c.tell.new.self d c.in_ok-tell.ensures (a_wait _ _ c.args.direction c.role_in.ensures))
