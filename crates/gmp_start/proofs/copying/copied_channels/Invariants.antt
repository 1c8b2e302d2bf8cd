use Rattle.std.proofs.Common.{◌≡◌, ◌≤◌, ◌++◌, length, map, drop, vec_capacity, vec_len}
use Rattle.gmp_start.specs.Start.{channel_of}
use Rattle.gmp_start.proofs.copying.copied_channels.Given as goal

abbrev pub invariant-loop-channel : goal.invariant-loop-channel
invariant-loop-channel l =
    (map channel_of l.copy.items ++ map channel_of (drop l.channel-index l.channels) ≡ map channel_of l.channels) × (vec_len l.copy ≡ l.channel-index) × (length l.channels ≤ vec_capacity l.copy)
