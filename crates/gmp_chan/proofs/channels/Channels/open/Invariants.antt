use Rattle.std.proofs.Common.{◌≡◌, map, take, vec_len, vec_capacity}
use Rattle.gmp_seq.specs.Channels.{new_channel}
use Rattle.gmp_chan.proofs.channels.Channels.open.Given as goal

-- those of the capacities before the index, in room for all
abbrev pub invariant-loop-capacity : goal.invariant-loop-capacity
invariant-loop-capacity l = record {
  rows : l.rows.items ≡ map new_channel (take l.capacity-index l.capacities);
  size : vec_len l.rows ≡ l.capacity-index;
  room : vec_capacity l.rows ≡ l.fn.limit;
}
