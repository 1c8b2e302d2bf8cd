use Rattle.std.proofs.Common.{◌≡◌, ◌-◌, ◌∷◌, replicate, vec_len, vec_capacity}
use Rattle.gmp_seq.specs.State.{first_goroutine, dormant}
use Rattle.gmp_start.proofs.opening.opening_rows.Given as goal

-- so many so far, and room for all
abbrev pub invariant-loop : goal.invariant-loop
invariant-loop l = record {
  items : l.goroutines.items ≡ first_goroutine ∷ replicate (l.counter - 1) dormant;
  size : vec_len l.goroutines ≡ l.counter;
  room : vec_capacity l.goroutines ≡ l.fn.bodies;
}
