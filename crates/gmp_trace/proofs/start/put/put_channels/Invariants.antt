use Rattle.std.proofs.Common.{◌≡◌, ◌++◌, map, drop}
use Rattle.gmp_start.specs.Start.{channel_of}
use Rattle.gmp_trace.specs.StartText.{channels_text}
use Rattle.gmp_trace.proofs.start.put.put_channels.Given as goal

abbrev pub invariant-loop-c : goal.invariant-loop-c
invariant-loop-c l = l.out.items ++ channels_text l.c (map channel_of (drop l.c l.channels)) ≡ l.fn.out.items ++ channels_text 0 (map channel_of l.channels)
