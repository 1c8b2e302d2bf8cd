use Rattle.std.proofs.Common.{◌∙◌, map, arith}
use Rattle.gmp_trace.proofs.StartFlags.{flags_next}
use Rattle.gmp_trace.proofs.start.guess.guess_flags.Goals as goal

pub loop-m-preserved : goal.loop-m-preserved
loop-m-preserved c =
    rw (c.in_ok-push.ensures.items, c.is_named.ensures) (flags_next (map (λ w. w.now) c.args.words.now) c.loop-m.list.items c.loop-m.m c.args.machines (omega arith) ∙ c.loop-m.invariant)
