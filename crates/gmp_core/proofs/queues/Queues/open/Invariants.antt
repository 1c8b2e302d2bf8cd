use Rattle.std.proofs.Common.{◌≡◌, [], replicate, vec_len, vec_capacity}
use Rattle.circular_buffer.specs.Buffer.{buffer}
use Rattle.gmp_core.proofs.queues.Queues.open.Given as goal

-- empty rings so far, in room for all
abbrev pub invariant-loop-number : goal.invariant-loop-number
invariant-loop-number l = record {
  rings : l.rings.items ≡ replicate l._number (buffer [] l.fn.room);
  size : vec_len l.rings ≡ l._number;
  room : vec_capacity l.rings ≡ l.fn.procs;
}
