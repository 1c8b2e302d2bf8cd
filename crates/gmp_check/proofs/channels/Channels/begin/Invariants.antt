use Rattle.std.proofs.Common.{◌≡◌, map, take}
use Rattle.gmp_start.specs.Start.{channel_of}
use Rattle.gmp_check.proofs.channels.Channels.begin.Given as goal

abbrev pub invariant-loop-one : goal.invariant-loop-one
invariant-loop-one l = l.list.items ≡ map channel_of (take l.one-index l.from)
