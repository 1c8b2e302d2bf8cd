use Rattle.std.proofs.Common.{take}
use Rattle.gmp_allowed.specs.Allowed.{AreAlike, AreThoseAllowed}
use Rattle.gmp_allowed.proofs.allowing.allowed_of.Given as goal

-- the entry differs from the first in its reply alone, and of those before the allowed were found
abbrev pub invariant-loop-reply : goal.invariant-loop-reply
invariant-loop-reply l = record {
  alike : AreAlike l.entry l.fn.entry;
  exact : AreThoseAllowed l.replay.limits l.replay.state l.fn.entry (take l.reply-index l.replies) l.right.items;
}
