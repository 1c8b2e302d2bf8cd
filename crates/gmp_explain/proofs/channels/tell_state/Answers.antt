use Rattle.std.proofs.Common.{◌≡◌, ℕ, Some, length, rules, ap}
use Rattle.gmp_start.specs.Start.{channel_of}
use Rattle.gmp_explain.specs.Spoken.{Is}
use Rattle.gmp_explain.specs.Stated.{channel_now}
use Rattle.gmp_explain.proofs.Spoken.{one}
use Rattle.gmp_explain.proofs.channels.tell_state.Goals as goal

pub returns : goal.returns
returns g c =
    let channel = c.args.channel.now in
    let size : c.len.result ≡ length channel.items.items = search rules in
    one g.S.Sink.told c.args.sink.now c.tell.new.self (channel_now c.args.c (channel_of channel)) c.in_ok-tell.ensures
    (ap (λ (n : ℕ). Some (Is c.args.c channel.closed channel.capacity n)) size)
