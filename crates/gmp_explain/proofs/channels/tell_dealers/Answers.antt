use Rattle.std.proofs.Common.{[]}
use Rattle.gmp_allowed.proofs.Results.{on_ok}
use Rattle.gmp_explain.proofs.Spoken.{behind}
use Rattle.gmp_explain.proofs.channels.tell_dealers.Goals as goal

pub returns : goal.returns
returns g c =
    on_ok c.tell_party-2.result (λ last. behind g.S.Sink.told c.args.sink.now c.tell_party.new.sink c.tell_party-2.new.sink [] c.in_ok-tell_party.ensures last) c.tell_party-2.ensures
