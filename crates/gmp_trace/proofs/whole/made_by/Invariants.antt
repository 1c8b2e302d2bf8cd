use Rattle.std.proofs.Common.{◌≡◌, ◌<◌, ℕ, length, slice_index}
use Rattle.gmp_trace.proofs.whole.made_by.Given as goal

abbrev pub invariant-loop-m : goal.invariant-loop-m
invariant-loop-m l = record {
  size : length l.made ≡ 64;
  same : (k : ℕ) → k < l.m → slice_index l.made k ≡ slice_index l.counts k;
}
