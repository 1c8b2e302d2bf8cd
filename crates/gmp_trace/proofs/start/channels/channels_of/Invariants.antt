use Rattle.std.proofs.Common.{◌≡◌, map, length}
use Rattle.gmp_start.specs.Start.{channel_of}
use Rattle.gmp_trace.specs.StartNext.{AreChannels}
use Rattle.gmp_trace.proofs.start.channels.channels_of.Given as goal

abbrev pub invariant-loop-count : goal.invariant-loop-count
invariant-loop-count l =
    AreChannels l.limits l.bodies l.text (map channel_of l.channels.items) l.rest × (length l.channels.items ≡ l.count)
