use Rattle.std.proofs.Common.{◌≡◌, [], take, drop}
use Rattle.gmp_trace.specs.Guess.{parted_on}
use Rattle.gmp_trace.proofs.words.part.Given as goal

abbrev pub invariant-loop-i : goal.invariant-loop-i
invariant-loop-i l = parted_on l.byte (take l.i l.text) (drop l.i l.text) ≡ parted_on l.byte [] l.text
