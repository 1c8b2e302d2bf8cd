use Rattle.std.proofs.Common.{◌≡◌, drop}
use Rattle.gmp_trace.specs.Guess.{number_on}
use Rattle.gmp_trace.proofs.words.number.Given as goal

abbrev pub invariant-loop-digit : goal.invariant-loop-digit
invariant-loop-digit l = number_on l.n (drop l.digit-index l.word) ≡ number_on 0 l.word
