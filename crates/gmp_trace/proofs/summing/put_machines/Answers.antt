use Rattle.std.proofs.Common.{◌∙◌, sym, arith}
use Rattle.gmp_trace.proofs.Counting.{machine_lines_next}
use Rattle.gmp_trace.proofs.summing.put_machines.Goals as goal

pub loop-m-preserved : goal.loop-m-preserved
loop-m-preserved c es h =
    let next = machine_lines_next c.loop-m.m c.args.machines es c.loop-m.out.items c.loop-m-test.true in
    rw (c.in_ok-put_machine.ensures, c.from.ensures, h c.loop-m.m (omega arith)) (sym next ∙ c.loop-m.invariant es h)
