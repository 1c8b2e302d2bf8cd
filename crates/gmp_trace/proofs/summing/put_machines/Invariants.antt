use Rattle.std.proofs.Common.{◌≡◌, ◌++◌, ◌-◌, List}
use Rattle.gmp_seq.specs.declared.call.Entry.{Entry}
use Rattle.gmp_trace.specs.Summary.{CountsMachines, machine_lines}
use Rattle.gmp_trace.proofs.summing.put_machines.Given as goal

abbrev pub invariant-loop-m : goal.invariant-loop-m
invariant-loop-m l = (es : List Entry) → CountsMachines l.counts es
    → l.out.items ++ machine_lines l.m (l.machines - l.m) es ≡ l.fn.out.items ++ machine_lines 0 l.machines es
