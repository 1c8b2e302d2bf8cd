use Rattle.std.proofs.Common.{◌≡◌, take, vec_capacity, vec_len}
use Rattle.gmp_idle.proofs.small_set.SmallSet.to_vec.Given as goal

-- so many so far, and room for all
abbrev pub invariant-loop-i : goal.invariant-loop-i
invariant-loop-i l = record {
  items : l.list.items ≡ take l.i l.self;
  size : vec_len l.list ≡ l.i;
  room : vec_capacity l.list ≡ l.i-end;
}
