use Rattle.std.proofs.Common.{◌∙◌, map}
use Rattle.gmp_trace.proofs.Lines.{same_rest}
use Rattle.gmp_start.specs.Start.{channel_of}
use Rattle.gmp_trace.proofs.StartChans.{guessed_channel}
use Rattle.gmp_trace.proofs.start.at.channel_at.Goals as goal

pub returns-in_default-clause-only : goal.returns-in_default-clause-only
returns-in_default-clause-only k c x more small room fits few is =
    let same = guessed_channel k.args.text.now k.deref-3.result.now (map (λ w. w.now) k.split.new.words.items) k.narrow16-c.result (channel_of k.in_ok-channel.channel) c x more
    k.in_ok-split.ensures (rw (k.number.ensures, k.word.ensures, k.deref.ensures.value) at k.narrow16-c.ensures) (rw k.deref-2.ensures.value at k.in_ok-channel.ensures)
    (k.deref-3.ensures.value ∙ rw (k.clear.ensures.items, k.from.ensures) at k.in_ok-put_channel_line.ensures) small room fits few is in
    k.in_default.ensures more same.2

pub returns-clause-only : goal.returns-clause-only
returns-clause-only k c x more small room fits few is =
    let same = guessed_channel k.args.text.now k.deref-3.result.now (map (λ w. w.now) k.split.new.words.items) k.narrow16-c.result (channel_of k.in_ok-channel.channel) c x more
    k.in_ok-split.ensures (rw (k.number.ensures, k.word.ensures, k.deref.ensures.value) at k.narrow16-c.ensures) (rw k.deref-2.ensures.value at k.in_ok-channel.ensures)
    (k.deref-3.ensures.value ∙ rw (k.clear.ensures.items, k.from.ensures) at k.in_ok-put_channel_line.ensures) small room fits few is in
    (same.0, same.1, same_rest k.args.text.now k.deref-3.result.now k.in-Some.rest.now more k.in-Some.ensures same.2)
