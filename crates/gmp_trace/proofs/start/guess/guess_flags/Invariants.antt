use Rattle.std.proofs.Common.{◌≡◌, ◌++◌, ◌-◌, map}
use Rattle.std.specs.List.{range_with_len}
use Rattle.gmp_trace.specs.StartGuess.{flags_read, named}
use Rattle.gmp_trace.proofs.start.guess.guess_flags.Given as goal

abbrev pub invariant-loop-m : goal.invariant-loop-m
invariant-loop-m l = l.list.items ++ map (named (map (λ w. w.now) l.words)) (range_with_len l.m (l.machines - l.m)) ≡ flags_read l.machines (map (λ w. w.now) l.words)
