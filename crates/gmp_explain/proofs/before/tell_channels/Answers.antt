use Rattle.std.proofs.Common.{List, Option, map, subst}
use Rattle.gmp_base.specs.declared.cases.Case.{Case}
use Rattle.gmp_base.specs.declared.number.CNo.{CNo}
use Rattle.gmp_seq.specs.Waits.{Channel}
use Rattle.gmp_start.specs.Start.{channel_of}
use Rattle.gmp_allowed.proofs.Results.{on_ok}
use Rattle.gmp_explain.specs.Spoken.{TellsOf}
use Rattle.gmp_explain.specs.Stated.{cases_named, channel_named, each_named, named_said}
use Rattle.gmp_explain.proofs.Spoken.{join}
use Rattle.gmp_explain.proofs.before.tell_channels.Goals as goal

pub returns : goal.returns
returns g c =
    let told = g.S.Sink.told in
    let channels : List Channel = map channel_of c.args.story.now.last.channels.items in
    let named = c.args.call.now in
    let a = c.args.sink.now in
    let mid = c.tell_one.new.sink in
    let new = c.tell_cases.new.sink in
    let first : TellsOf told (named_said channels (channel_named named)) a mid =
    subst (λ (o : Option CNo). TellsOf told (named_said channels o) a mid) c.channel_named.ensures c.in_ok-tell_one.ensures in
    on_ok c.tell_cases.result (λ last.
    join told a mid new (named_said channels (channel_named named)) (each_named channels (cases_named named)) first
    (subst (λ (l : List Case). TellsOf told (each_named channels l) mid new) c.cases_named.ensures last)) c.tell_cases.ensures
