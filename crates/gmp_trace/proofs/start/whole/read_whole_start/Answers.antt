use Rattle.std.proofs.Common.{arith}
use Rattle.std.proofs.lemmas.List.{length-map}
use Rattle.gmp_start.specs.Start.{channel_of, state_of}
use Rattle.gmp_trace.specs.StartWhole.{AreStartLines}
use Rattle.gmp_trace.proofs.StartBack.{forms_back}
use Rattle.gmp_trace.proofs.start.whole.read_whole_start.Goals as goal

pub begin_line-requires-clause-channels : goal.begin_line-requires-clause-channels
begin_line-requires-clause-channels c =
    let start = c.in-Ok.found.1 in
    let lines : AreStartLines c.args.limits c.args.bodies c.in-Ok.found.0 c.args.text.now (state_of c.in-Ok.found.1) c.in-Ok.found.2.now = rw c.in-Ok.is at c.in_ok-found.ensures.found in
    let few = (forms_back c.args.limits c.args.bodies c.in-Ok.found.0 (state_of c.in-Ok.found.1) lines.lines).few_channels in
    let most = c.requires.channels in
    omega (arith, few, most.1, length-map start.channels.items channel_of)
