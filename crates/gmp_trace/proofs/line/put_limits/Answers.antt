use Rattle.std.proofs.Common.{append_assoc}
use Rattle.gmp_trace.specs.Pieces.{limits_text}
use Rattle.gmp_trace.proofs.line.put_limits.Goals as goal

pub returns : goal.returns
unfolding limits_text
returns c =
    rw (c.in_ok-push.ensures.items, c.in_ok-put_room.ensures, c.in_ok-put_limit-5.ensures, c.in_ok-put_limit-4.ensures, c.in_ok-put_limit-3.ensures, c.in_ok-put_limit-2.ensures, c.in_ok-put_limit.ensures, c.in_ok-put.ensures, c.from.ensures, c.from-2.ensures, c.from-3.ensures, c.from-4.ensures)
    (simp append_assoc)
