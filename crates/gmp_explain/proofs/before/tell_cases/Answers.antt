use Rattle.std.proofs.Common.{List, Option, map, subst}
use Rattle.gmp_base.specs.declared.cases.Case.{Case}
use Rattle.gmp_base.specs.declared.number.CNo.{CNo}
use Rattle.gmp_seq.specs.Waits.{Channel, channel_of as channel_named}
use Rattle.gmp_start.specs.Start.{channel_of}
use Rattle.gmp_explain.specs.Spoken.{TellsOf}
use Rattle.gmp_explain.specs.Stated.{named_said}
use Rattle.gmp_explain.proofs.Spoken.{elements_told}
use Rattle.gmp_explain.proofs.before.tell_cases.Goals as goal

pub loop-case-preserved : goal.loop-case-preserved
loop-case-preserved g c =
    let told = g.S.Sink.told in
    let channels : List Channel = map channel_of c.args.story.now.last.channels.items in
    elements_told told c.args.cases.now c.loop-case.case-index _ (λ (x : Case). named_said channels (channel_named x)) c.args.sink.now c.loop-case.sink c.tell_one.new.sink
    c.loop-case-test.true c.loop-case.invariant
    (subst (λ (o : Option CNo). TellsOf told (named_said channels o) c.loop-case.sink c.tell_one.new.sink) c.channel_of.ensures c.in_ok-tell_one.ensures)
