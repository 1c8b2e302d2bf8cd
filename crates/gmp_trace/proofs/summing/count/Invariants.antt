use Rattle.std.proofs.Common.{◌≡◌, length, take}
use Rattle.gmp_trace.specs.Summary.{CountsCalls, CountsMachines}
use Rattle.gmp_trace.proofs.summing.count.Given as goal

abbrev pub invariant-loop-head : goal.invariant-loop-head
invariant-loop-head l = record {
  machines : CountsMachines l.machines (take (length l.yielded) l.entries.list);
  calls : CountsCalls l.calls (take (length l.yielded) l.entries.list);
  all_machines : length l.machines ≡ 256;
  all_calls : length l.calls ≡ 30;
}
