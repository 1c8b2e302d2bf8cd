use Rattle.std.proofs.Common.{map, take}
use Rattle.gmp_allowed.specs.Allowed.{AreAlike}
use Rattle.gmp_explain.specs.Spoken.{TellsOf}
use Rattle.gmp_explain.specs.Told.{may}
use Rattle.gmp_explain.proofs.riddle.tell_replies.Given as goal

-- the entry differs in its reply alone, and the replies before were called allowed
abbrev pub invariant-loop-reply : goal.invariant-loop-reply
invariant-loop-reply g l = record {
  alike : AreAlike l.entry l.fn.entry;
  tells : TellsOf g.S.Sink.told (map may (take l.reply-index l.reply-items)) l.initial.sink l.sink;
}
