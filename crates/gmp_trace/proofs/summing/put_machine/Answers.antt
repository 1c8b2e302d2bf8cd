use Rattle.std.proofs.Common.{append_assoc}
use Rattle.gmp_trace.specs.Summary.{machine_line}
use Rattle.gmp_trace.proofs.summing.put_machine.Goals as goal

pub returns : goal.returns
unfolding machine_line
returns c =
    rw (c.in_ok-push-2.ensures.items, c.in_ok-put_number.ensures, c.in_ok-push.ensures.items, c.in_ok-put_digits.ensures, c.in_ok-put.ensures, c.from.ensures) (simp append_assoc)
