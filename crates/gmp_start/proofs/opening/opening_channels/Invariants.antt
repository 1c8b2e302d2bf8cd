use Rattle.std.proofs.Common.{◌≡◌, map, take}
use Rattle.gmp_seq.specs.Channels.{new_channel}
use Rattle.gmp_start.specs.Start.{channel_of}
use Rattle.gmp_start.proofs.opening.opening_channels.Given as goal

abbrev pub invariant-loop-capacity : goal.invariant-loop-capacity
invariant-loop-capacity l = map channel_of l.list.items ≡ map new_channel (take l.capacity-index l.capacities)
