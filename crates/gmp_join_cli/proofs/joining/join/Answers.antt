use Rattle.gmp_join_cli.proofs.Behind.{has_run, writes_joined}
use Rattle.gmp_join_cli.proofs.joining.join.Goals as goal

pub returns-in-Ok-tell-clause-passed : goal.returns-in-Ok-tell-clause-passed
returns-in-Ok-tell-clause-passed g c said =
    writes_joined (g.R.Read.remaining c.args.reader.now) c.in-Ok.joined c.in-Some.last c.in-Ok.ensures.told c.in-Some.is (g.W.Write.contents c.args.writer.now)
    (g.W.Write.contents c.tell.new.writer) c.in-Ok-tell.ensures.written

pub returns-clause-failed : goal.returns-clause-failed
returns-clause-failed g c said = has_run (g.R.Read.remaining c.args.reader.now) c.in-Ok.joined c.in-Some.last c.in-Ok.ensures.told c.in-Some.is
