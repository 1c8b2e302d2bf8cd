use Rattle.std.proofs.Common.{◌≡◌, take}
use Rattle.gmp_check.proofs.channels.Channels.cloned.Given as goal

abbrev pub invariant-loop-channel : goal.invariant-loop-channel
invariant-loop-channel l = l.list.items ≡ take l.channel-index l.self
