use Rattle.std.proofs.Common.{append_assoc}
use Rattle.gmp_trace.specs.StartText.{start_text}
use Rattle.gmp_trace.proofs.start.put.put_start.Goals as goal

pub returns : goal.returns
unfolding start_text
returns c =
    rw (
      c.in_ok-put.ensures,
      c.in_ok-put_rows.ensures,
      c.in_ok-put_channels.ensures,
      c.in_ok-put_members-2.ensures,
      c.in_ok-put_members.ensures,
      c.in_ok-put_machines.ensures,
      c.in_ok-put_procs.ensures,
      c.in_ok-put_counts.ensures,
      c.in_ok-put_head.ensures,
      c.deref.ensures.value,
      c.deref-2.ensures.value,
      c.deref-3.ensures.value,
      c.deref-4.ensures.value,
      c.deref-5.ensures.value,
      c.deref-6.ensures.value,
      c.deref-7.ensures.value,
    ) (simp append_assoc)
