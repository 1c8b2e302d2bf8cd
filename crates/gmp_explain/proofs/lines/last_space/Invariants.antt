use Rattle.std.proofs.Common.{◌≡◌, ◌<◌, IfSome, take}
use Rattle.gmp_explain.specs.Lines.{last_space}
use Rattle.gmp_explain.proofs.lines.last_space.Given as goal

-- of those before
abbrev pub invariant-loop-i : goal.invariant-loop-i
invariant-loop-i l = record { value : l.last ≡ last_space (take l.i l.line); within : IfSome l.last (λ n. n < l.i) }
