use Rattle.gmp_explain.proofs.Spoken.{no_wait, other}
use Rattle.gmp_explain.proofs.channels.tell_party.Goals as goal

pub returns : goal.returns
returns g c = other g.S.Sink.told c.args.sink.now c.tell.new.self c.in_ok-tell.ensures (no_wait _ _ c.role_of.ensures)
