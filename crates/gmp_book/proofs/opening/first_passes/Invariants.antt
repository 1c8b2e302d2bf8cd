use Rattle.std.proofs.Common.{◌≡◌, ◌≤◌, vec_len, vec_capacity}
use Rattle.gmp_book.specs.Book.{opening_passes}
use Rattle.gmp_book.proofs.opening.first_passes.Given as goal

abbrev pub invariant-loop-m : goal.invariant-loop-m
invariant-loop-m l = record {
  passes : l.passes.items ≡ opening_passes l.run l.m;
  count : vec_len l.passes ≡ l.m;
  room : l.machines ≤ vec_capacity l.passes;
}
