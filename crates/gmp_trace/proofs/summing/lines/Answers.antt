use Rattle.std.proofs.Common.{refl}
use Rattle.gmp_trace.proofs.summing.lines.Goals as goal

pub returns : goal.returns
returns c =
    let entries = c.args.trace.now.entries in
    rw (c.in_ok-put_call_lines.ensures entries.list c.count-counts.ensures.calls, c.in_ok-put_machines.ensures entries.list c.count-counts.ensures.machines, c.in_ok-put_entries.ensures, c.in_ok-put_outcome.ensures, c.new-out.ensures.items, c.len.ensures.value) refl
