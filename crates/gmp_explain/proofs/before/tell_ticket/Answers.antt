use Rattle.gmp_start.specs.Start.{table_of}
use Rattle.gmp_allowed.proofs.Results.{on_ok}
use Rattle.gmp_explain.specs.Stated.{does_said, latest_said}
use Rattle.gmp_explain.proofs.Spoken.{join}
use Rattle.gmp_explain.proofs.before.tell_ticket.Goals as goal

pub returns : goal.returns
returns g c =
    let t = table_of c.args.story.now.last in
    on_ok c.tell_latest.result
    (join g.S.Sink.told c.args.sink.now c.tell_goroutine.new.sink c.tell_latest.new.sink (does_said t c.args.g) (latest_said t c.args.g) c.in_ok-tell_goroutine.ensures) c.tell_latest.ensures
