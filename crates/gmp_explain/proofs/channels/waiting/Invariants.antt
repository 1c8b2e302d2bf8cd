use Rattle.std.proofs.Common.{◌≡◌}
use Rattle.gmp_explain.specs.Stated.{for_each, if_waiting}
use Rattle.gmp_explain.proofs.channels.waiting.Given as goal

-- those below number g were found
abbrev pub invariant-loop-g : goal.invariant-loop-g
invariant-loop-g l = l.who.items ≡ for_each l.g (λ n. if_waiting l.rows l.c l.direction (record { 0 = n }))
